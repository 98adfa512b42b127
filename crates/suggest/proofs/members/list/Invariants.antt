use Rattle.std.proofs.Common.{◌≡◌, take}
use Rattle.jtree.specs.Data.{AreTrees}
use Rattle.jtree.specs.View.{items_of}
use Rattle.suggest.specs.View.{trees_of}
use Rattle.suggest.proofs.members.list.Given as goal

abbrev pub invariant-loop-tree : goal.invariant-loop-tree
invariant-loop-tree l = record { trees : AreTrees (items_of l.items.items); are : trees_of l.items.items ≡ trees_of (take l.tree-index l.trees) }
