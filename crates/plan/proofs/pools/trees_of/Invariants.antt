use Rattle.std.proofs.Common.{◌≡◌, take}
use Rattle.plan.proofs.pools.trees_of.Given as goal

abbrev pub invariant-loop-entry : goal.invariant-loop-entry
invariant-loop-entry l = l.trees.items ≡ take l.entry-index l.entries
