use Rattle.std.proofs.Common.{◌≡◌, ◌++◌, drop}
use Rattle.jtree.specs.View.{members_of}
use Rattle.judge.specs.Internal.FaultsByLevel.{slots_of, member_slots}
use Rattle.judge.proofs.slots.own_slots.Given as goal

abbrev pub invariant-loop-member : goal.invariant-loop-member
invariant-loop-member l = slots_of l.slots.items ++ member_slots (members_of (drop l.member-index l.member-items)) ≡ member_slots l.members
