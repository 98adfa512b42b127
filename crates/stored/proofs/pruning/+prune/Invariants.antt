use Rattle.std.proofs.Common.{◌≡◌, ◌+◌, ◌*◌, ◌++◌, Some, map, take, drop}
use Rattle.schema.specs.Nodes.Node.{node_depth, fields_depth}
use Rattle.schema.specs.Nodes.View.{node_of}
use Rattle.stored.specs.Internal.Pruning.{field_node, pruned_tree, pruned_member}
use Rattle.stored.proofs.pruning.+prune.Given as goal

abbrev pub invariant-prune_fields-loop-member : goal.invariant-prune_fields-loop-member
invariant-prune_fields-loop-member l =
    l.member-items ≡ map (pruned_member (field_node l.fields)) (take l.member-index l.initial.member-items) ++ drop l.member-index l.initial.member-items

abbrev pub invariant-prune_items-loop-item : goal.invariant-prune_items-loop-item
invariant-prune_items-loop-item l =
    l.item-items ≡ map (pruned_tree (node_of l.node)) (take l.item-index l.initial.item-items) ++ drop l.item-index l.initial.item-items

abbrev pub invariant-prune_values-loop-member : goal.invariant-prune_values-loop-member
invariant-prune_values-loop-member l =
    l.member-items ≡ map (pruned_member (λ k. Some (node_of l.node))) (take l.member-index l.initial.member-items) ++ drop l.member-index l.initial.member-items

-- nodes below nest less deep
abbrev pub decreases-prune_tree : goal.decreases-prune_tree
decreases-prune_tree l = 2 * node_depth (node_of l.node.now) + 1

abbrev pub decreases-prune_object : goal.decreases-prune_object
decreases-prune_object l = 2 * node_depth (node_of l.node.now)

abbrev pub decreases-prune_list : goal.decreases-prune_list
decreases-prune_list l = 2 * node_depth (node_of l.node.now)

abbrev pub decreases-prune_fields : goal.decreases-prune_fields
decreases-prune_fields l = 2 * fields_depth l.fields.now + 3

abbrev pub decreases-prune_items : goal.decreases-prune_items
decreases-prune_items l = 2 * node_depth (node_of l.node.now) + 2

abbrev pub decreases-prune_values : goal.decreases-prune_values
decreases-prune_values l = 2 * node_depth (node_of l.node.now) + 2
