use Rattle.std.proofs.Common.{◌≡◌, ◌++◌, drop}
use Rattle.suggest.specs.View.{trees_at}
use Rattle.suggest.specs.Suggested.ValuesBelow.{member_names}
use Rattle.suggest.proofs.values_below.push_names.Given as goal

abbrev pub invariant-loop-value : goal.invariant-loop-value
invariant-loop-value l = l.names.items ++ member_names (trees_at (drop l.value-index l.values)) ≡ l.initial.names.items ++ member_names (trees_at l.values)
