use Rattle.std.proofs.Common.{◌≡◌, ◌++◌, map, take, drop}
use Rattle.cluster.specs.Keywords.{is_embedded}
use Rattle.cluster.specs.Internal.Trees.{schema_of, pruned_tree, pruned_member}
use Rattle.cluster.proofs.pruning.+prune.Given as goal

abbrev pub invariant-prune_items-loop-item : goal.invariant-prune_items-loop-item
invariant-prune_items-loop-item l =
    l.item-items ≡ map (pruned_tree (is_embedded (schema_of l.schema)) l.keeps (schema_of l.schema)) (take l.item-index l.initial.item-items) ++ drop l.item-index l.initial.item-items

abbrev pub invariant-prune_members-loop-member : goal.invariant-prune_members-loop-member
invariant-prune_members-loop-member l =
    l.member-items ≡ map (pruned_member l.is_resource (schema_of l.schema)) (take l.member-index l.initial.member-items) ++ drop l.member-index l.initial.member-items
