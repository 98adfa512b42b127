use Rattle.std.proofs.Common.{◌≡◌, drop}
use Rattle.jtree.specs.View.{members_of}
use Rattle.plan.specs.Internal.PoolBreak.{list_break, members_break}
use Rattle.plan.proofs.pool_form.first_no_list.Given as goal

abbrev pub invariant-loop-member : goal.invariant-loop-member
invariant-loop-member l = members_break list_break (members_of (drop l.member-index l.member-items)) ≡ members_break list_break (members_of l.member-items)
