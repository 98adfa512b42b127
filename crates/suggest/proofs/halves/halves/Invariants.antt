use Rattle.std.proofs.Common.{◌≡◌, ◌++◌, drop}
use Rattle.suggest.specs.View.{trees_of}
use Rattle.suggest.specs.Suggested.Halves.{halves}
use Rattle.suggest.proofs.halves.halves.Given as goal

abbrev pub invariant-loop-integer : goal.invariant-loop-integer
invariant-loop-integer l = trees_of l.trees.items ++ halves (drop l.integer-index l.integers) ≡ halves l.integers
