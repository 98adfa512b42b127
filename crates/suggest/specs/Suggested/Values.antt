-- The integers and the lengths of texts that are suggested for a schema, before they are cut (this project's own).
use Rattle.std.specs.Prelude.{ℕ, ◌-◌, ◌^◌, ℤ, pos, negsuc, ◌+ℤ◌, ◌-ℤ◌, List, [], ◌∷◌, ◌++◌, Bool, ◌||◌, Option, Some, None, if◌then◌else◌, filter, nat_le, nat_lt, codes}
use Rattle.std.specs.Float.{float_to_signed}
use Rattle.std.specs.Int.{w64}
use Rattle.std.specs.Ordering.{nat_cmp, int_cmp, int_eq}
use Rattle.jtree.specs.Data.{Data, number, Members}
use Rattle.jtree.specs.NumberOrder.{number_value}
use Rattle.jtree.specs.Path.{member_at}
use Rattle.schema.specs.Nodes.Node.{Node}
use Rattle.schema.specs.declared.node.Constraints.{Constraints}
use Rattle.suggest.specs.Suggested.Scalars.{in_scalars}
use Rattle.suggest.specs.Suggested.Ascending.{ascending}

-- from -2^63 to 2^63 - 1
abbrev pub fits_64_bits : ℤ → Bool
fits_64_bits (pos n) = nat_lt n (2 ^ 63)
fits_64_bits (negsuc n) = nat_lt n (2 ^ 63)

-- a bound with its neighbours, as far as they have 64 bits
abbrev pub with_neighbours : Option ℤ → List ℤ
with_neighbours None = []
with_neighbours (Some z) = filter fits_64_bits ((z -ℤ pos 1) ∷ z ∷ (z +ℤ pos 1) ∷ [])

-- A bound that is no integer is taken without its fraction; beyond 64 bits there is none.
abbrev pub within_64_bits : ℤ → Option ℤ
within_64_bits z = if int_eq z (pos (2 ^ 63 - 1)) || int_eq z (negsuc (2 ^ 63 - 1)) then None else Some z

abbrev pub whole_bound : Option Data → Option ℤ
whole_bound (Some (number s)) = within_64_bits (float_to_signed w64 (number_value s))
whole_bound _ = None

-- such bounds of a schema that is kept as it is written
abbrev pub written_bounds : Option Members → List ℤ
written_bounds None = []
written_bounds (Some ks) = with_neighbours (whole_bound (member_at (codes "minimum") ks)) ++ with_neighbours (whole_bound (member_at (codes "maximum") ks))

-- `minimum` and `maximum`, exclusive ones too
abbrev pub bounds_with_neighbours : Constraints → List ℤ
bounds_with_neighbours t = with_neighbours t.minimum ++ (with_neighbours t.maximum ++ written_bounds t.written)

-- the number of characters of the longest text
abbrev pub longest : ℕ
longest = 64

abbrev pub short_length : Option ℕ → List ℕ
short_length None = []
short_length (Some n) = if nat_le n longest then n ∷ [] else []

-- `minLength` and `maxLength`
abbrev pub short_lengths : Constraints → List ℕ
short_lengths t = short_length t.lengths.least ++ short_length t.lengths.most

abbrev pub all_integers : Node → List ℤ
all_integers root = ascending int_cmp (pos 0 ∷ pos 1 ∷ in_scalars bounds_with_neighbours root)

abbrev pub all_lengths : Node → List ℕ
all_lengths root = ascending nat_cmp (1 ∷ in_scalars short_lengths root)
