use Rattle.std.proofs.Common.{◌≡◌, ◌++◌, drop}
use Rattle.suggest.specs.View.{trees_of, trees_at}
use Rattle.suggest.proofs.document.add_all.Given as goal

abbrev pub invariant-loop-object : goal.invariant-loop-object
invariant-loop-object l = trees_at l.values.items ++ trees_of (drop l.object-index l.objects) ≡ trees_of l.objects
