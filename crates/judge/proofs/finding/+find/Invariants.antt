use Rattle.std.proofs.Common.{◌≡◌, ◌+◌, ◌*◌, drop}
use Rattle.jtree.specs.Data.{depth, items_depth, members_depth}
use Rattle.jtree.specs.View.{data_of, items_of}
use Rattle.judge.specs.Asked.{required, schemas_of}
use Rattle.judge.specs.Internal.FaultsByLevel.{slots_of, joined, item_parts, slot_parts, member_slots, with_slots, named_by, value_depth, Named, progress, added}
use Rattle.judge.proofs.finding.+find.Given as goal

-- the value nests less deep at each call, or the call is one of the next layer

abbrev pub decreases-find : goal.decreases-find
decreases-find g l = 8 * depth (data_of l.value.now) + 1

abbrev pub decreases-find_below : goal.decreases-find_below
decreases-find_below g l = 8 * depth (data_of l.value.now)

abbrev pub decreases-find_in_items : goal.decreases-find_in_items
decreases-find_in_items g l = 8 * items_depth l.items.now + 6

abbrev pub decreases-find_item : goal.decreases-find_item
decreases-find_item g l = 8 * depth (data_of l.item.now) + 2

abbrev pub decreases-find_in_members : goal.decreases-find_in_members
decreases-find_in_members g l = 8 * members_depth l.members.now + 6

abbrev pub decreases-find_slot : goal.decreases-find_slot
decreases-find_slot g l = 8 * value_depth (Named.value (named_by l.slot.now)) + 4

abbrev pub decreases-find_under : goal.decreases-find_under
decreases-find_under g l = 8 * value_depth (Named.value (named_by l.slot.now)) + 3

abbrev pub decreases-find_member : goal.decreases-find_member
decreases-find_member g l = 8 * depth (data_of l.value.now) + 2

-- with the parts that are left, all is reported

abbrev pub invariant-find_in_items-loop-i : goal.invariant-find_in_items-loop-i
invariant-find_in_items-loop-i g l =
    added (progress l.report) (joined (item_parts g.A.PlaceTests.asking l.items (items_of (drop l.i l.item-items)) l.i (schemas_of l.schemas)))
    ≡ added (progress l.initial.report) (joined (item_parts g.A.PlaceTests.asking l.items l.items 0 (schemas_of l.schemas)))

abbrev pub invariant-find_in_members-loop-slot : goal.invariant-find_in_members-loop-slot
invariant-find_in_members-loop-slot g l =
    added (progress l.report) (joined (slot_parts g.A.PlaceTests.asking (schemas_of l.schemas) (slots_of (drop l.slot-index l.slot-items))))
    ≡ added (progress l.initial.report) (joined (slot_parts g.A.PlaceTests.asking (schemas_of l.schemas) (with_slots (required (schemas_of l.schemas)) (member_slots l.members))))
