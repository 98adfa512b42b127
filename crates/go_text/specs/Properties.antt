-- Classes of Unicode, after `\p` or `\P`. Go's documentation of regexp/syntax: "Unicode character class"; the names are the keys of
-- unicode.Categories and unicode.Scripts.
use Rattle.std.specs.Prelude.{ℕ, Bool, false, not, ◌&&◌, ◌||◌, ◌==◌, [], ◌∷◌, ◌++◌, length, Option, Some, None, if◌then◌else◌, codes}
use Rattle.std.specs.List.{list_all}
use Rattle.std.specs.Char.{is_ascii_alphabetic, is_ascii_uppercase}
use Rattle.go_text.specs.Texts.{Text, Reading, ◌∈◌, spells, cut}

-- the second letters of the categories that begin with a letter
abbrev pub is_kind_of : ℕ → ℕ → Bool
is_kind_of a b =
    if a ∈ "C" then b ∈ "cfo"
    else if a ∈ "L" then b ∈ "lmotu"
    else if a ∈ "M" then b ∈ "cen"
    else if a ∈ "N" then b ∈ "dlo"
    else if a ∈ "P" then b ∈ "cdefios"
    else if a ∈ "S" then b ∈ "ckmo"
    else if a ∈ "Z" then b ∈ "lps"
    else false

abbrev pub is_category : Text → Bool
is_category (a ∷ []) = a ∈ "LMNPSZ"
is_category (a ∷ b ∷ []) = is_kind_of a b
is_category _ = false

-- The scripts with a name of four letters. Other names of four letters are short for scripts, as `Grek`, and Go does not know them.
abbrev pub is_short_script : Text → Bool
is_short_script t = spells "Ahom" t || spells "Cham" t || spells "Kawi" t || spells "Lisu" t || spells "Modi" t || spells "Newa" t || spells "Thai" t || spells "Toto" t

abbrev pub is_of_names : ℕ → Bool
is_of_names c = is_ascii_alphabetic c || c ∈ "_"

abbrev pub are_of_names : Text → Bool
are_of_names t = list_all is_of_names t

-- Which scripts there are goes by the version of Unicode, and is left to the kit; here is only how a name looks.
abbrev pub is_script : Text → Bool
is_script [] = false
is_script (c ∷ t) =
    is_ascii_uppercase c && are_of_names t && (not (length t == 3) || is_short_script (c ∷ t))

-- `\p{gc=Lu}` and the like, or with `\P` the negation
abbrev pub property_class : Bool → Text → Text → Text
property_class negated key name = (if negated then codes "\\P{" else codes "\\p{") ++ key ++ name ++ codes "}"

-- Go's category C has no code points that are not assigned
abbrev pub control : Bool → Text
control negated = if negated then codes "[^\\p{Cc}\\p{Cf}\\p{Co}]" else codes "[\\p{Cc}\\p{Cf}\\p{Co}]"

abbrev pub named_class : Bool → Text → Option Text
named_class negated name =
    if spells "Any" name then Some (property_class negated [] name)
    else if spells "C" name then Some (control negated)
    else if is_category name then Some (property_class negated (codes "gc=") name)
    else if is_script name then Some (property_class negated (codes "sc=") name)
    else None

-- in braces a caret before the name negates
abbrev pub signed_class : Bool → Text → Option Text
signed_class negated [] = None
signed_class negated (c ∷ name) = if c ∈ "^" then named_class (not negated) name else named_class negated (c ∷ name)

abbrev pub before : Option Text → Text → Reading
before None t = None
before (Some written) t = Some (written, t)

abbrev pub braced_class : Bool → Option (Text × Text) → Reading
braced_class negated None = None
braced_class negated (Some (name, t)) = before (signed_class negated name) t

-- after `\p`, or after `\P`, which negates: one letter, or a name in braces
abbrev pub property : Bool → Text → Reading
property negated [] = None
property negated (c ∷ t) = if c ∈ "{" then braced_class negated (cut (codes "}") t) else before (named_class negated (c ∷ [])) t
