-- How far characters of one class go on.
use Rattle.std.specs.Prelude.{ℕ, Bool, [], ◌∷◌, if◌then◌else◌}
use Rattle.std.specs.Char.{is_digit}
use Rattle.cel_read.specs.Lexemes.{Text, is_of_word, is_of_comment}
use Rattle.cel_read.specs.declared.runs.Class.{Class}
use Rattle.cel_read.specs.declared.runs.Class.TheVariants.{OfWord, OfComment, Octal, Decimal, Hexadecimal}

abbrev pub is_of_class : Class → ℕ → Bool
is_of_class OfWord c = is_of_word c
is_of_class OfComment c = is_of_comment c
is_of_class Octal c = is_digit c 8
is_of_class Decimal c = is_digit c 10
is_of_class Hexadecimal c = is_digit c 16

abbrev pub with_first : ℕ → Text × Text → Text × Text
with_first c x = (c ∷ x.0, x.1)

-- the characters at the front that pass, and what follows them
abbrev pub run : (ℕ → Bool) → Text → Text × Text
run p [] = ([], [])
run p (c ∷ t) = if p c then with_first c (run p t) else ([], c ∷ t)
