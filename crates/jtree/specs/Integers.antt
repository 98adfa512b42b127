-- Which number of a document is an integer where all numbers are read: one that `serde_json` holds as an integer of 64 bits, and one
-- with a point or an exponent, or `-0`, that is whole and less than 2^53 in size, as `1.0` and `1e2`. Up to that size all readers of
-- JSON agree on an integer (RFC 8259, section 6).
use Rattle.std.specs.Prelude.{ℕ, ◌^◌, ◌==◌, ◌&&◌, ◌++◌, ℤ, List, drop, slice_index, nat_lt, Bool, if◌then◌else◌, Option, Some, None}
use Rattle.std.specs.Option.{option_or}
use Rattle.std.specs.Str.Parse.{digits_value}
use Rattle.fast_float.specs.Text.{minus, scan, Parts, point_at, whole_of, with_sign}
use Rattle.serde_json.specs.Data as json
use Rattle.serde_json.specs.Find.{as_i64}

-- the digits, the point and the exponent after a minus sign
abbrev pub numeral : List ℕ → Parts
numeral s = if slice_index s 0 == minus then scan (drop 1 s) else scan s

-- no digit but 0 is after the point, once the exponent has moved it
abbrev pub is_whole : Parts → Bool
is_whole p = digits_value 10 (drop (point_at p) (p.whole ++ p.fraction)) == 0

-- the integer that a number is by its digits, where it is less than 2^53 in size
abbrev pub small_whole : List ℕ → Option ℤ
small_whole s = if is_whole (numeral s) && nat_lt (whole_of (numeral s)) (2 ^ 53) then Some (with_sign (slice_index s 0 == minus) (whole_of (numeral s))) else None

-- the integer that a number is, which `serde_json` reads as n
abbrev pub integer_of : List ℕ → json.Num → Option ℤ
integer_of s n = option_or (as_i64 n) (small_whole s)
