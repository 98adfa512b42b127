use Rattle.std.proofs.Common.{◌≡◌, ◌+◌, ◌≤◌, length, filter, map, drop}
use Rattle.jtree.specs.View.{data_of}
use Rattle.plan.specs.Internal.PoolBreak.{test_of}
use Rattle.plan.proofs.pool_sizes.count.Given as goal

abbrev pub invariant-loop-entry : goal.invariant-loop-entry
invariant-loop-entry l = (l.count + length (filter (test_of l.kind) (map data_of (drop l.entry-index l.pool))) ≡ length (filter (test_of l.kind) (map data_of l.pool))) × (l.count ≤ l.entry-index)
