use Rattle.std.proofs.Common.{◌≡◌, ◌++◌, drop}
use Rattle.suggest.specs.View.{trees_at}
use Rattle.suggest.specs.Suggested.ValuesBelow.{member_values}
use Rattle.suggest.proofs.values_below.values_of.Given as goal

abbrev pub invariant-loop-value : goal.invariant-loop-value
invariant-loop-value l = trees_at l.below.items ++ member_values (trees_at (drop l.value-index l.values)) ≡ member_values (trees_at l.values)
