use Rattle.std.proofs.Common.{◌-◌}
use Rattle.plan.proofs.WordLemmas.{IsSumsBelow}
use Rattle.plan.proofs.wide_word.U128SizeSet.sums.Given as goal

abbrev pub invariant-members : goal.invariant-members
invariant-members l = IsSumsBelow 128 l.self l.other l.from l.sums

abbrev pub decreases-members : goal.decreases-members
decreases-members l = 128 - l.from
