-- Which of the fields that the junctors of an object name are there: a number whose bit j says so of the j-th of them by bytes (this
-- project's own).
use Rattle.std.specs.Prelude.{ℕ, ◌+◌, ◌^◌, List, [], ◌∷◌, Bool, false, Option, Some, None, if◌then◌else◌, option_map, nat_eq, bit_or}
use Rattle.std.specs.Int.{bit_at}
use Rattle.std.specs.Str.{bytes_eq}
use Rattle.schema.specs.Nodes.Node.{Validations, validations, no_branches}
use Rattle.schema.specs.Nodes.Validations.{presence}
use Rattle.schema.specs.Nodes.Junctors.{names_in}
use Rattle.stored.specs.Objects.Tests.{meets_presence}
use Rattle.plan.specs.Samples.Names.{in_order}

-- the fields that the junctors name, by bytes, each once
abbrev pub named : Validations → List (List ℕ)
named cs = in_order (names_in cs)

-- the place of a name
abbrev pub bit_of : List ℕ → List (List ℕ) → Option ℕ
bit_of k [] = None
bit_of k (l ∷ ls) = if bytes_eq k l then Some 0 else option_map (λ n. n + 1) (bit_of k ls)

abbrev pub is_set : Option ℕ → ℕ → Bool
is_set None seen = false
is_set (Some j) seen = nat_eq (bit_at seen j) 1

abbrev pub with_bit : Option ℕ → ℕ → ℕ
with_bit None seen = seen
with_bit (Some j) seen = bit_or seen (2 ^ j)

-- the junctors hold where these of the named fields are there
abbrev pub meets_seen : Validations → ℕ → Bool
meets_seen cs seen = meets_presence cs (λ k. is_set (bit_of k (named cs)) seen)

-- no constraints
abbrev pub no_validations : Validations
no_validations = validations (presence []) no_branches no_branches no_branches no_branches
