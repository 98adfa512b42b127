-- Repetitions. Go's documentation of regexp/syntax: "Repetitions", and "the counting forms x{n,m}, x{n,}, and x{n} reject forms that create
-- a minimum or maximum repetition count above 1000".
use Rattle.std.specs.Prelude.{◌&&◌, ◌||◌, ◌==◌, not, Bool, false, [], ◌∷◌, length, nat_lt, nat_le, Option, Some, None, codes}
use Rattle.std.specs.List.{list_all}
use Rattle.std.specs.Char.{is_ascii_digit}
use Rattle.go_text.specs.Texts.{Text, ◌∈◌, spells, cut}

abbrev pub begins_with_zero : Text → Bool
begins_with_zero [] = false
begins_with_zero (c ∷ t) = c ∈ "0"

abbrev pub are_digits : Text → Bool
are_digits t = list_all is_ascii_digit t

-- a number with no needless zero in front
abbrev pub is_number : Text → Bool
is_number t = are_digits t && nat_lt 0 (length t) && (length t == 1 || not (begins_with_zero t))

-- of numbers, those up to 1000
abbrev pub is_small : Text → Bool
is_small t = nat_le (length t) 3 || spells "1000" t

abbrev pub is_count_of : Text → Option (Text × Text) → Bool
is_count_of t None = is_number t
is_count_of t (Some (low, high)) = is_number low && (length high == 0 || is_number high)

-- what stands in braces is `n`, `n,` or `n,m`
abbrev pub is_count : Text → Bool
is_count t = is_count_of t (cut (codes ",") t)

abbrev pub is_small_of : Text → Option (Text × Text) → Bool
is_small_of t None = is_small t
is_small_of t (Some (low, high)) = is_small low && is_small high

abbrev pub is_small_count : Text → Bool
is_small_count t = is_small_of t (cut (codes ",") t)
