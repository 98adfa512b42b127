use Rattle.std.proofs.Common.{◌≡◌, [], drop}
use Rattle.std.specs.List.{fold}
use Rattle.suggest.specs.View.{trees_of}
use Rattle.suggest.specs.Suggested.Chosen.{with_value}
use Rattle.suggest.proofs.chosen.chosen.Given as goal

abbrev pub invariant-loop-value : goal.invariant-loop-value
invariant-loop-value l = fold (with_value l.most) (trees_of l.some.items) (trees_of (drop l.value-index l.values)) ≡ fold (with_value l.most) [] (trees_of l.values)
