use Rattle.std.proofs.Common.{◌≡◌, drop}
use Rattle.jtree.specs.View.{members_of}
use Rattle.plan.specs.Internal.PoolBreak.{member_break, members_break}
use Rattle.plan.proofs.pool_form.members_break.Given as goal

abbrev pub invariant-loop-member : goal.invariant-loop-member
invariant-loop-member l = members_break (member_break l.profile) (members_of (drop l.member-index l.member-items)) ≡ members_break (member_break l.profile) (members_of l.member-items)
