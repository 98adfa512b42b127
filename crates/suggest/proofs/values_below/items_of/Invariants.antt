use Rattle.std.proofs.Common.{◌≡◌, ◌++◌, drop}
use Rattle.suggest.specs.View.{trees_at}
use Rattle.suggest.specs.Suggested.ValuesBelow.{item_values}
use Rattle.suggest.proofs.values_below.items_of.Given as goal

abbrev pub invariant-loop-value : goal.invariant-loop-value
invariant-loop-value l = trees_at l.below.items ++ item_values (trees_at (drop l.value-index l.values)) ≡ item_values (trees_at l.values)
