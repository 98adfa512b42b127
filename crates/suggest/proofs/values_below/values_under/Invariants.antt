use Rattle.std.proofs.Common.{◌≡◌, ◌++◌, drop}
use Rattle.suggest.specs.View.{trees_at}
use Rattle.suggest.specs.Suggested.ValuesBelow.{field_values}
use Rattle.suggest.proofs.values_below.values_under.Given as goal

abbrev pub invariant-loop-value : goal.invariant-loop-value
invariant-loop-value l = trees_at l.below.items ++ field_values l.name (trees_at (drop l.value-index l.values)) ≡ field_values l.name (trees_at l.values)
