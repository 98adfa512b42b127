use Rattle.std.proofs.Common.{◌≡◌, Some, drop}
use Rattle.jtree.specs.View.{items_of, members_of}
use Rattle.schema.specs.Nodes.ByPlace.{field_at}
use Rattle.schema.specs.Nodes.View.{node_of, fields_of}
use Rattle.stored.specs.Internal.Defaulting.{joined, joined_items}
use Rattle.suggest.specs.View.{texts_at}
use Rattle.suggest.specs.Internal.Parts.{place_at}
use Rattle.suggest.specs.Suggested.Without.{place_of_field, members_left, items_left}
use Rattle.suggest.proofs.without.+without.Given as goal

-- the name is not among the fields so far
abbrev pub invariant-field_without-loop-field : goal.invariant-field_without-loop-field
invariant-field_without-loop-field l = field_at l.name (fields_of (drop l.field-index l.field-items)) ≡ field_at l.name (fields_of l.field-items)

abbrev pub invariant-fields_without-loop-member : goal.invariant-fields_without-loop-member
invariant-fields_without-loop-member l =
    let left = members_left (texts_at l.without) (place_of_field l.path l.fields) in
    joined (members_of l.copies.items) (left (members_of (drop l.member-index l.member-items))) ≡ left (members_of l.member-items)

abbrev pub invariant-values_without-loop-member : goal.invariant-values_without-loop-member
invariant-values_without-loop-member l =
    let left = members_left (texts_at l.without) (λ k. Some (place_at l.path (node_of l.node))) in
    joined (members_of l.copies.items) (left (members_of (drop l.member-index l.member-items))) ≡ left (members_of l.member-items)

abbrev pub invariant-items_without-loop-item : goal.invariant-items_without-loop-item
invariant-items_without-loop-item l =
    let left = items_left (texts_at l.without) (place_at l.path (node_of l.node)) in
    joined_items (items_of l.copies.items) (left (items_of (drop l.item-index l.item-items))) ≡ left (items_of l.item-items)
