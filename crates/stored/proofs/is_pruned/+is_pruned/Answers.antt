use Rattle.std.proofs.Common.{Some, true, ap, ◌∙◌}
use Rattle.schema.specs.Nodes.View.{node_of}
use Rattle.schema.specs.declared.node.MapNode.{MapNode}
use Rattle.stored.specs.Internal.Pruning.{are_pruned}
use Rattle.stored.proofs.is_pruned.+is_pruned.Goals as goal

pub is_object_pruned-returns-in-Map : goal.is_object_pruned-returns-in-Map
is_object_pruned-returns-in-Map t c =
    let below = ap node_of c.deref.ensures ∙ ap (λ (n : MapNode). n.value) c.map.view_is in
    rw c.in-Map.is (c.are_values_pruned.ensures ∙ ap (λ M. are_pruned (λ k. Some M) true c.args.members.now) below)
