use Rattle.std.proofs.Common.{◌≡◌, Some, true, drop}
use Rattle.jtree.specs.View.{items_of, members_of}
use Rattle.schema.specs.Nodes.View.{node_of}
use Rattle.stored.specs.Internal.Pruning.{field_node, are_pruned, are_items_pruned}
use Rattle.stored.proofs.is_pruned.+is_pruned.Given as goal

abbrev pub invariant-are_fields_pruned-loop-member : goal.invariant-are_fields_pruned-loop-member
invariant-are_fields_pruned-loop-member l = are_pruned (field_node l.fields) l.preserves (members_of (drop l.member-index l.member-items)) ≡ are_pruned (field_node l.fields) l.preserves (members_of l.member-items)

abbrev pub invariant-are_values_pruned-loop-member : goal.invariant-are_values_pruned-loop-member
invariant-are_values_pruned-loop-member l = are_pruned (λ k. Some (node_of l.node)) true (members_of (drop l.member-index l.member-items)) ≡ are_pruned (λ k. Some (node_of l.node)) true (members_of l.member-items)

abbrev pub invariant-are_each_pruned-loop-item : goal.invariant-are_each_pruned-loop-item
invariant-are_each_pruned-loop-item l = are_items_pruned (node_of l.node) (items_of (drop l.item-index l.item-items)) ≡ are_items_pruned (node_of l.node) (items_of l.item-items)
