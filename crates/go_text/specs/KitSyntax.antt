-- The text of a pattern in Go's syntax, written in the syntax of the kit's crate `regex`. Go's documentation of regexp/syntax, construct by
-- construct; what a text means then is what the kit's grammar says of the text that is written.
use Rattle.std.specs.Prelude.{ℕ, zero, suc, Bool, true, false, not, ◌&&◌, [], ◌∷◌, ◌++◌, length, ◌==◌, Option, Some, None, option_map, if◌then◌else◌, codes}
use Rattle.go_text.specs.Texts.{Text, Reading, ◌∈◌, cut}
use Rattle.go_text.specs.Literals.{escaped, literal, literals}
use Rattle.go_text.specs.Escapes.{perl_class, character_escape}
use Rattle.go_text.specs.Properties.{property}
use Rattle.go_text.specs.Brackets.{class}
use Rattle.go_text.specs.Groups.{group}
use Rattle.go_text.specs.Repetitions.{is_count, is_small_count}

-- what is written for the construct at the front of a text, whether it is a repetition, and the text after it
pub record Construct : Type 0 where
  pub written : Text
  pub repeats : Bool
  pub rest : Text

abbrev pub once : Text → Text → Construct
once written rest = record { written = written; repeats = false; rest = rest }

abbrev pub repeating : Text → Text → Construct
repeating written rest = record { written = written; repeats = true; rest = rest }

abbrev pub read_once : Text × Text → Construct
read_once x = once x.0 x.1

-- a question mark after a repetition makes it lazy
abbrev pub lazily : Text → Text → Construct
lazily written [] = repeating written []
lazily written (c ∷ t) = if c ∈ "?" then repeating (written ++ codes "?") t else repeating written (c ∷ t)

-- no repetition stands right after another
abbrev pub repetition : Bool → Text → Text → Option Construct
repetition after_one written t = if after_one then None else Some (lazily written t)

-- After a brace: a count, or else the brace stands for itself.
abbrev pub counted : Bool → Option (Text × Text) → Text → Option Construct
counted after_one None t = Some (once (escaped 0x7B) t)
counted after_one (Some (count, rest)) t =
    if not (is_count count) then Some (once (escaped 0x7B) t)
    else if not (is_small_count count) then None
    else repetition after_one (codes "{" ++ count ++ codes "}") rest

-- What stands between `\Q` and `\E`, or after `\Q`, stands for itself. Where that is nothing, what stands before is still what comes last.
abbrev pub quotation : Bool → Option (Text × Text) → Text → Construct
quotation after_one None t = record { written = literals t; repeats = after_one && (length t == 0); rest = [] }
quotation after_one (Some (quoted, rest)) t = record { written = literals quoted; repeats = after_one && (length quoted == 0); rest = rest }

abbrev pub class_or_character : Option Text → ℕ → Text → Reading
class_or_character None c t = character_escape c t
class_or_character (Some written) c t = Some (written, t)

-- Escapes outside brackets. `\b` and `\B` are bounds of words of ASCII.
abbrev pub other_escape : ℕ → Text → Reading
other_escape c t =
    if c ∈ "A" then Some (codes "\\A", t)
    else if c ∈ "z" then Some (codes "\\z", t)
    else if c ∈ "b" then Some (codes "(?-u:\\b)", t)
    else if c ∈ "B" then Some (codes "(?-u:\\B)", t)
    else if c ∈ "pP" then property (c ∈ "P") t
    else class_or_character (perl_class c) c t

abbrev pub escape : Bool → Text → Option Construct
escape after_one [] = None
escape after_one (c ∷ t) =
    if c ∈ "Q" then Some (quotation after_one (cut (codes "\\E") t) t) else option_map read_once (other_escape c t)

abbrev pub simple : Bool → ℕ → Text → Option Construct
simple after_one c t =
    if c ∈ "\\" then escape after_one t
    else if c ∈ "(" then option_map read_once (group t)
    else if c ∈ "{" then counted after_one (cut (codes "}") t) t
    else if c ∈ "*+?" then repetition after_one (c ∷ []) t
    else if c ∈ "^$.|)" then Some (once (c ∷ []) t)
    else Some (once (literal c) t)

abbrev pub construct : Bool → ℕ → Text → Option Construct
construct after_one c t = if c ∈ "[" then option_map read_once (class t) else simple after_one c t

abbrev pub and_then : (Bool → Text → Option Text) → Option Construct → Option Text
and_then more None = None
and_then more (Some x) = option_map (λ rest. x.written ++ rest) (more x.repeats x.rest)

-- The number bounds how many constructs are read: the length of the text is enough.
abbrev pub constructs : ℕ → Bool → Text → Option Text
constructs n after_one [] = Some []
constructs zero after_one (c ∷ t) = None
constructs (suc n) after_one (c ∷ t) = and_then (constructs n) (construct after_one c t)

-- the whole text of a pattern
abbrev pub in_kit_syntax : Text → Option Text
in_kit_syntax t = constructs (length t) false t
