use Rattle.std.proofs.Common.{◌≡◌, ◌++◌, map, take}
use Rattle.jtree.specs.Data.{integer}
use Rattle.plan.specs.Internal.Values.{trees_of}
use Rattle.plan.proofs.values.push_integers.Given as goal

abbrev pub invariant-loop-number : goal.invariant-loop-number
invariant-loop-number l = trees_of l.trees.items ≡ trees_of l.initial.trees.items ++ map (λ z. integer z) (take l.number-index l.integers)
