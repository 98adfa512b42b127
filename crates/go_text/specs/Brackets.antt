-- Classes in brackets. Go's documentation of regexp/syntax: "Character classes", "ASCII character classes".
use Rattle.std.specs.Prelude.{ℕ, zero, suc, Bool, true, false, not, ◌&&◌, ◌||◌, [], ◌∷◌, ◌++◌, length, Option, Some, None, if◌then◌else◌, codes}
use Rattle.go_text.specs.Texts.{Text, Reading, ◌∈◌, spells, cut}
use Rattle.go_text.specs.Literals.{literal}
use Rattle.go_text.specs.Escapes.{perl_class, character_escape}
use Rattle.go_text.specs.Properties.{property}

-- `[:alpha:]`, and with a caret before the name its negation
abbrev pub is_posix_name : Text → Bool
is_posix_name t =
    spells "alnum" t || spells "alpha" t || spells "ascii" t || spells "blank" t || spells "cntrl" t || spells "digit" t || spells "graph" t
    || spells "lower" t || spells "print" t || spells "punct" t || spells "space" t || spells "upper" t || spells "word" t || spells "xdigit" t

abbrev pub is_posix : Text → Bool
is_posix [] = false
is_posix (c ∷ name) = if c ∈ "^" then is_posix_name name else is_posix_name (c ∷ name)

-- after a bracket inside brackets: what stands between `:` and the next `:]`, and what follows
abbrev pub between_colons : Text → Option (Text × Text)
between_colons [] = None
between_colons (c ∷ t) = if c ∈ ":" then cut (codes ":]") t else None

abbrev pub escaped_character : Text → Reading
escaped_character [] = None
escaped_character (c ∷ t) = character_escape c t

-- a character or an escape of one
abbrev pub character : Text → Reading
character [] = None
character (c ∷ t) = if c ∈ "\\" then escaped_character t else Some (literal c, t)

-- after the hyphen of a range, its high end
abbrev pub to_high_end : Text → Reading → Reading
to_high_end low None = None
to_high_end low (Some (high, t)) = Some (low ++ codes "-" ++ high, t)

-- a hyphen that stands before the closing bracket makes no range
abbrev pub is_range : Text → Bool
is_range (c ∷ d ∷ t) = c ∈ "-" && not (d ∈ "]")
is_range _ = false

abbrev pub after_hyphen : Text → Text
after_hyphen [] = []
after_hyphen (c ∷ t) = t

-- a character, or a range that begins with it
abbrev pub range : Reading → Reading
range None = None
range (Some (low, t)) = if is_range t then to_high_end low (character (after_hyphen t)) else Some (low, t)

abbrev pub posix_or_bracket : Option (Text × Text) → Text → Reading
posix_or_bracket None t = range (Some (codes "\\[", t))
posix_or_bracket (Some (name, rest)) t = if is_posix name then Some (codes "[:" ++ name ++ codes ":]", rest) else None

abbrev pub perl_or_character : Option Text → ℕ → Text → Reading
perl_or_character None c t = range (character_escape c t)
perl_or_character (Some written) c t = Some (written, t)

abbrev pub member_escape : Text → Reading
member_escape [] = None
member_escape (c ∷ t) = if c ∈ "pP" then property (c ∈ "P") t else perl_or_character (perl_class c) c t

abbrev pub member : ℕ → Text → Reading
member c t =
    if c ∈ "[" then posix_or_bracket (between_colons t) t
    else if c ∈ "\\" then member_escape t
    else range (Some (literal c, t))

abbrev pub then_more : Text → Reading → Reading
then_more written None = None
then_more written (Some (more, t)) = Some (written ++ more, t)

abbrev pub and_then : (Text → Reading) → Reading → Reading
and_then more None = None
and_then more (Some (written, t)) = then_more written (more t)

-- a bracket in the first place is a member
abbrev pub closes : ℕ → Bool → Bool
closes c first = c ∈ "]" && not first

-- The members up to the bracket that closes the class. The number bounds how many are read: the length of the text is enough.
abbrev pub members : ℕ → Bool → Text → Reading
members zero first t = None
members (suc n) first [] = None
members (suc n) first (c ∷ t) = if closes c first then Some (codes "]", t) else and_then (members n false) (member c t)

abbrev pub class_opening : Text → Text × Text
class_opening [] = (codes "[", [])
class_opening (c ∷ t) = if c ∈ "^" then (codes "[^", t) else (codes "[", c ∷ t)

abbrev pub class_of : Text × Text → Reading
class_of x = then_more x.0 (members (length x.1) true x.1)

-- after the opening bracket
abbrev pub class : Text → Reading
class t = class_of (class_opening t)
