use Rattle.std.proofs.Common.{List, Option}
use Rattle.std.specs.VecDeque.{deque_len}
use Rattle.jtree.specs.declared.value.Member.{Member}
use Rattle.stored.specs.Internal.Defaulting.{IsPassed}
use Rattle.stored.proofs.defaulting.pass_to.Given as goal

-- whatever is passed from here on is passed from the start on
abbrev pub invariant-loop-member : goal.invariant-loop-member
invariant-loop-member l = (after out : List Member) (found : Option Member) → IsPassed l.name l.members.items after l.passed.items out found → IsPassed l.name l.initial.members.items after l.initial.passed.items out found

abbrev pub decreases-loop-member : goal.decreases-loop-member
decreases-loop-member l = deque_len l.members
