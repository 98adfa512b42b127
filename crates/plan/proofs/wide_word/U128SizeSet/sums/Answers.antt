use Rattle.std.proofs.Common.{arith}
use Rattle.plan.proofs.WordLemmas.{sums_none, sums_next, sums_last, sums_limited, sums_full}
use Rattle.plan.proofs.wide_word.U128SizeSet.sums.Goals as goal

pub returns-in-Some-next : goal.returns-in-Some-next
returns-in-Some-next c = sums_full 128 c.args.self c.args.other _ _ c.args.limit c.in-Some-next.ensures c.in-Some.ensures c.if-other-least.true c.requires

pub members-init : goal.members-init
members-init c = sums_none

pub members-preserved : goal.members-preserved
members-preserved c = sums_next c.members.invariant c.in-Some-next-2.ensures

pub returns : goal.returns
returns c = sums_limited (sums_last c.members.invariant c.in_default-next-2.ensures) (omega arith) c.requires
