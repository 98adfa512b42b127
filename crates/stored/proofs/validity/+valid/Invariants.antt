use Rattle.std.proofs.Common.{◌≡◌, drop}
use Rattle.jtree.specs.View.{items_of, members_of}
use Rattle.schema.specs.Nodes.ByPlace.{field_at}
use Rattle.schema.specs.Nodes.View.{node_of, fields_of}
use Rattle.stored.specs.Internal.ValidByLevel.{are_fields_valid, are_values_valid, are_items_valid}
use Rattle.stored.proofs.validity.+valid.Given as goal

-- all parts are valid exactly where those that are left are
abbrev pub invariant-are_fields_valid-loop-member : goal.invariant-are_fields_valid-loop-member
invariant-are_fields_valid-loop-member l = are_fields_valid l.fields (members_of (drop l.member-index l.member-items)) ≡ are_fields_valid l.fields l.members

abbrev pub invariant-are_values_valid-loop-member : goal.invariant-are_values_valid-loop-member
invariant-are_values_valid-loop-member l = are_values_valid (node_of l.node) (members_of (drop l.member-index l.member-items)) ≡ are_values_valid (node_of l.node) l.members

abbrev pub invariant-are_items_valid-loop-item : goal.invariant-are_items_valid-loop-item
invariant-are_items_valid-loop-item l = are_items_valid (node_of l.node) (items_of (drop l.item-index l.item-items)) ≡ are_items_valid (node_of l.node) l.items

-- the field is that of those that are left
abbrev pub invariant-is_member_valid-loop-field : goal.invariant-is_member_valid-loop-field
invariant-is_member_valid-loop-field l = field_at l.member.name (fields_of (drop l.field-index l.field-items)) ≡ field_at l.member.name l.fields
