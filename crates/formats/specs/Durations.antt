-- How long a duration of Go is (`time.ParseDuration`): a sign and parts, as `-`, `1h` and `30.5m` in `-1h30.5m`, each a number and a unit. Its
-- nanoseconds are the sum over the parts of number times unit. Only texts that match the expression of durations are asked.
use Rattle.std.specs.Prelude.{ℕ, ◌*◌, ◌^◌, List, [], ◌∷◌, drop, Bool, true, ◌==◌, ◌||◌, not, nat_le, nat_lt, if◌then◌else◌, codes}
use Rattle.std.specs.List.{prefix_len, take_while, onto_first, sum_by}
use Rattle.std.specs.Str.{bytes_eq}
use Rattle.std.specs.Str.Parse.{digits_value}
use Rattle.formats.specs.Digits.{is_digit}

-- a number has digits, and a point before those of its fraction
abbrev pub in_number : ℕ → Bool
in_number b = is_digit b || b == 46

-- neighbours are of one part, unless the first ends a unit and the second begins a number
abbrev pub in_one_part : ℕ → ℕ → Bool
in_one_part a b = in_number a || not (in_number b)

abbrev pub parts : List ℕ → List (List ℕ)
parts [] = []
parts (a ∷ []) = (a ∷ []) ∷ []
parts (a ∷ b ∷ bs) = if in_one_part a b then onto_first a (parts (b ∷ bs)) else (a ∷ []) ∷ parts (b ∷ bs)

-- the number of a part, whose fraction does not count here
abbrev pub number : List ℕ → ℕ
number part = digits_value 10 (take_while is_digit part)

abbrev pub unit_of : List ℕ → List ℕ
unit_of part = drop (prefix_len in_number part) part

-- the nanoseconds of a unit; what is left are the three ways to write microseconds
abbrev pub unit : List ℕ → ℕ
unit text =
    if bytes_eq text (codes "ns") then 1 else
    if bytes_eq text (codes "ms") then 1000000 else
    if bytes_eq text (codes "s") then 1000000000 else
    if bytes_eq text (codes "m") then 60000000000 else
    if bytes_eq text (codes "h") then 3600000000000 else 1000

abbrev pub nanoseconds : List ℕ → ℕ
nanoseconds text = sum_by (λ part. number part * unit (unit_of part)) (parts text)

-- at most 2^63 - 1 nanoseconds, or 2^63 with a minus
abbrev pub fits : List ℕ → Bool
fits [] = true
fits (b ∷ bs) =
    if b == 45 then nat_le (nanoseconds bs) (2 ^ 63) else
    if b == 43 then nat_lt (nanoseconds bs) (2 ^ 63) else nat_lt (nanoseconds (b ∷ bs)) (2 ^ 63)
