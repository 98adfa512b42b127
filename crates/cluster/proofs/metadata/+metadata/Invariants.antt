use Rattle.std.proofs.Common.{◌≡◌, ◌++◌, map, take, drop}
use Rattle.cluster.specs.Keywords.{is_embedded}
use Rattle.cluster.specs.Internal.Trees.{schema_of, tree_with_meta, member_with_meta}
use Rattle.cluster.proofs.metadata.+metadata.Given as goal

abbrev pub invariant-prune_in_items-loop-item : goal.invariant-prune_in_items-loop-item
invariant-prune_in_items-loop-item l =
    l.item-items ≡ map (tree_with_meta (is_embedded (schema_of l.schema)) (schema_of l.schema)) (take l.item-index l.initial.item-items) ++ drop l.item-index l.initial.item-items

abbrev pub invariant-prune_in_members-loop-member : goal.invariant-prune_in_members-loop-member
invariant-prune_in_members-loop-member l =
    l.member-items ≡ map (member_with_meta l.is_resource (schema_of l.schema)) (take l.member-index l.initial.member-items) ++ drop l.member-index l.initial.member-items
