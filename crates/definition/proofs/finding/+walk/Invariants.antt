use Rattle.std.proofs.Common.{◌≡◌, drop}
use Rattle.jtree.specs.View.{items_of, members_of}
use Rattle.definition.specs.Internal.ByLevel.{in_items, in_members, progress, added}
use Rattle.definition.proofs.finding.+walk.Given as goal

-- with the parts that are left, all is reported

abbrev pub invariant-add_items-loop-i : goal.invariant-add_items-loop-i
invariant-add_items-loop-i l = added (progress l.walk) (in_items l.fn.part (items_of (drop l.i l.item-items)) l.i) ≡ added (progress l.initial.walk) (in_items l.fn.part l.items 0)

abbrev pub invariant-add_members-loop-member : goal.invariant-add_members-loop-member
invariant-add_members-loop-member l =
    added (progress l.walk) (in_members l.part l.members (members_of (drop l.member-index l.member-items))) ≡ added (progress l.initial.walk) (in_members l.part l.members l.members)
