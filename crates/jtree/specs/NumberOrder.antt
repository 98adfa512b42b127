-- The value of a number that is not an integer, which is the nearest float of 64 bits (RFC 8259, section 6), and the order of such
-- numbers: by value, and then by their text (this project's own).
use Rattle.std.specs.Prelude.{ℕ, ◌==◌, List, drop, slice_index, true, false, if◌then◌else◌}
use Rattle.std.specs.Cmp.Lexicographic.{slice_cmp}
use Rattle.std.specs.Float.{Float, binary64}
use Rattle.std.specs.Ordering.{nat_cmp, nan_last_cmp, ordering_then}
use Rattle.std.specs.declared.cmp.Ordering.{Ordering}
use Rattle.fast_float.specs.Text.{minus, scan, nearest}

abbrev pub number_value : List ℕ → Float
number_value s = if slice_index s 0 == minus then nearest binary64 true (scan (drop 1 s)) else nearest binary64 false (scan s)

-- by value
abbrev pub value_cmp : List ℕ → List ℕ → Ordering
value_cmp s t = nan_last_cmp (number_value s) (number_value t)

-- and then by text, so that a number ties with itself alone
abbrev pub number_cmp : List ℕ → List ℕ → Ordering
number_cmp s t = ordering_then (value_cmp s t) (slice_cmp nat_cmp s t)
