use Rattle.std.proofs.Common.{◌≡◌, ◌++◌, take}
use Rattle.crdx_tests.proofs.support.reference.with_member.Given as goal

-- the new member, and after it the row's so far
abbrev pub invariant-loop-member : goal.invariant-loop-member
invariant-loop-member l = l.members.items ≡ l.initial.members.items ++ take l.member-index l.member-items
