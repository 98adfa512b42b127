use Rattle.std.proofs.Common.{◌≡◌, ◌++◌, false, map, take, drop}
use Rattle.cluster.specs.Internal.Trees.{schema_of, tree_without, member_without}
use Rattle.cluster.proofs.nulls.+nulls.Given as goal

abbrev pub invariant-drop_in_items-loop-item : goal.invariant-drop_in_items-loop-item
invariant-drop_in_items-loop-item l =
    l.item-items ≡ map (tree_without false (schema_of l.schema)) (take l.item-index l.initial.item-items) ++ drop l.item-index l.initial.item-items

abbrev pub invariant-drop_in_members-loop-member : goal.invariant-drop_in_members-loop-member
invariant-drop_in_members-loop-member l =
    l.member-items ≡ map (member_without l.is_resource (schema_of l.schema)) (take l.member-index l.initial.member-items) ++ drop l.member-index l.initial.member-items
