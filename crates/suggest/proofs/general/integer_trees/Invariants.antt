use Rattle.std.proofs.Common.{◌≡◌, map, take}
use Rattle.jtree.specs.Data.{integer}
use Rattle.suggest.specs.View.{trees_of}
use Rattle.suggest.proofs.general.integer_trees.Given as goal

abbrev pub invariant-loop-integer : goal.invariant-loop-integer
invariant-loop-integer l = trees_of l.trees.items ≡ map (λ z. integer z) (take l.integer-index l.integers)
