use Rattle.std.proofs.Common.{◌≡◌, ◌++◌, map, take, drop}
use Rattle.cluster.specs.Internal.Trees.{entry_tree}
use Rattle.cluster.proofs.object_meta.prune_each.Given as goal

abbrev pub invariant-loop-item : goal.invariant-loop-item
invariant-loop-item l = l.item-items ≡ map (entry_tree l.managed) (take l.item-index l.initial.item-items) ++ drop l.item-index l.initial.item-items
