use Rattle.std.proofs.Common.{take}
use Rattle.jtree.specs.declared.value.Tree.{Tree}
use Rattle.schema.specs.Nodes.View.{node_of}
use Rattle.plan.specs.Internal.Values.{trees_of, at_places, AreStored}
use Rattle.plan.proofs.leaf.stored_places.Given as goal

abbrev pub invariant-loop-place : goal.invariant-loop-place
invariant-loop-place l = (past : Tree) → AreStored l.limit (node_of l.node) (trees_of (take l.place l.trees)) (at_places past l.trees l.places.items)
