use Rattle.std.proofs.Common.{◌≡◌, drop}
use Rattle.jtree.specs.View.{data_of}
use Rattle.plan.specs.Samples.Over.{is_in}
use Rattle.suggest.specs.View.{trees_of}
use Rattle.suggest.proofs.chosen.is_in.Given as goal

abbrev pub invariant-loop-other : goal.invariant-loop-other
invariant-loop-other l = is_in (data_of l.value) (trees_of (drop l.other-index l.values)) ≡ is_in (data_of l.value) (trees_of l.values)
