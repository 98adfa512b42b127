use Rattle.std.proofs.Common.{◌≡◌, Some, None, drop}
use Rattle.jtree.specs.View.{items_of, members_of}
use Rattle.schema.specs.Nodes.View.{node_of, fields_of}
use Rattle.stored.specs.Objects.Becomes.{is_nullable}
use Rattle.stored.specs.Internal.FilledTest.{is_filled, are_fields_filled, stays, all_values, all_items}
use Rattle.stored.proofs.is_filled.+is_filled.Given as goal

-- all parts stay exactly where those that are left do
abbrev pub invariant-are_fields_filled-loop-field : goal.invariant-are_fields_filled-loop-field
invariant-are_fields_filled-loop-field l = are_fields_filled (fields_of (drop l.field-index l.field-items)) l.members ≡ are_fields_filled l.fields l.members

abbrev pub invariant-are_values_filled-loop-member : goal.invariant-are_values_filled-loop-member
invariant-are_values_filled-loop-member l =
    all_values (λ v. stays (is_nullable (node_of l.node)) None (λ w. is_filled (node_of l.node) w) (Some v)) (members_of (drop l.member-index l.member-items))
    ≡ all_values (λ v. stays (is_nullable (node_of l.node)) None (λ w. is_filled (node_of l.node) w) (Some v)) l.members

abbrev pub invariant-are_items_filled-loop-item : goal.invariant-are_items_filled-loop-item
invariant-are_items_filled-loop-item l = all_items (λ v. is_filled (node_of l.node) v) (items_of (drop l.item-index l.item-items)) ≡ all_items (λ v. is_filled (node_of l.node) v) l.items
