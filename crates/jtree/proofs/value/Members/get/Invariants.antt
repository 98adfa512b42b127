use Rattle.std.proofs.Common.{◌≡◌, drop}
use Rattle.jtree.specs.Path.{member_at}
use Rattle.jtree.specs.View.{members_of}
use Rattle.jtree.proofs.value.Members.get.Given as goal

-- the name is not among the members so far
abbrev pub invariant-loop-member : goal.invariant-loop-member
invariant-loop-member l = member_at l.name (members_of (drop l.member-index l.member-items)) ≡ member_at l.name (members_of l.member-items)
