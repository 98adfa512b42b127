use Rattle.std.proofs.Common.{◌≡◌, Some, drop}
use Rattle.jtree.specs.View.{items_of, members_of}
use Rattle.stored.specs.Objects.Leaves.{item_element}
use Rattle.stored.specs.Internal.Pruning.{field_node}
use Rattle.stored.specs.Internal.LeavesByLevel.{of_members, of_items, walked, added}
use Rattle.stored.proofs.listing.+list.Given as goal

-- with the parts that are left, all leaves are listed
abbrev pub invariant-list_fields-loop-member : goal.invariant-list_fields-loop-member
invariant-list_fields-loop-member l =
    added (walked l.walk) (of_members (field_node l.fields) (members_of (drop l.member-index l.member-items))) ≡ added (walked l.initial.walk) (of_members (field_node l.fields) l.members)

abbrev pub invariant-list_values-loop-member : goal.invariant-list_values-loop-member
invariant-list_values-loop-member l =
    added (walked l.walk) (of_members (λ k. Some l.map.value) (members_of (drop l.member-index l.member-items))) ≡ added (walked l.initial.walk) (of_members (λ k. Some l.map.value) l.members)

abbrev pub invariant-list_items-loop-item : goal.invariant-list_items-loop-item
invariant-list_items-loop-item l =
    added (walked l.walk) (of_items l.list.item (item_element l.list.list_type l.list.keys.items) l.item-index (items_of (drop l.item-index l.item-items)))
    ≡ added (walked l.initial.walk) (of_items l.list.item (item_element l.list.list_type l.list.keys.items) 0 l.items)
