use Rattle.std.proofs.Common.{drop, true, false}
use Rattle.jtree.specs.Data.{Data, list, object}
use Rattle.jtree.specs.View.{items_of, members_of}
use Rattle.schema.specs.Internal.Contexts.{IsContext, HasPart}
use Rattle.schema.specs.Internal.Events.{properties, branches, member_events, item_events}
use Rattle.schema.specs.Internal.PlaceView.{place_of, junctor_of}
use Rattle.schema.proofs.ListingLemmas.{IsAlong}
use Rattle.schema.proofs.listing.+listing.Given as goal

abbrev pub invariant-list_keywords-loop-member : goal.invariant-list_keywords-loop-member
invariant-list_keywords-loop-member l =
    let place = place_of l.position.place.now in
    IsAlong l.position.limits l.fn.subschemas.items l.subschemas.items (member_events place true (members_of (drop l.member-index l.member-items))) (member_events place true (members_of l.member-items))
    (λ raw. IsContext raw place (object (members_of l.member-items)) l.position.context)

abbrev pub invariant-list_properties-loop-property : goal.invariant-list_properties-loop-property
invariant-list_properties-loop-property l =
    let place = place_of l.position.place.now in
    IsAlong l.position.limits l.fn.subschemas.items l.subschemas.items (member_events place false (members_of (drop l.property-index l.property-items))) (member_events place false (members_of l.property-items))
    (λ raw. (s : Data) × IsContext raw place s l.position.context × HasPart s properties (object (members_of l.property-items)))

abbrev pub invariant-list_branches-loop-i : goal.invariant-list_branches-loop-i
invariant-list_branches-loop-i l =
    let place = place_of l.position.place.now in
    let j = junctor_of l.junctor in
    IsAlong l.position.limits l.fn.subschemas.items l.subschemas.items (item_events place j l.i (items_of (drop l.i l.item-items))) (item_events place j 0 (items_of l.item-items))
    (λ raw. (s : Data) × IsContext raw place s l.position.context × HasPart s (branches j) (list (items_of l.item-items)))
