use Rattle.std.proofs.Common.{◌≡◌, ◌++◌, take}
use Rattle.plan.proofs.values.push_trees.Given as goal

abbrev pub invariant-loop-tree : goal.invariant-loop-tree
invariant-loop-tree l = l.trees.items ≡ l.initial.trees.items ++ take l.tree-index l.more
