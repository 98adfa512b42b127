use Rattle.std.proofs.Common.{◌≡◌, take}
use Rattle.plan.proofs.pools.integers_from.Given as goal

abbrev pub invariant-loop-number : goal.invariant-loop-number
invariant-loop-number l = l.copies.items ≡ take l.number-index l.integers
