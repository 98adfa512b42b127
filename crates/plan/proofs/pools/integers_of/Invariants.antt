use Rattle.std.proofs.Common.{◌≡◌, ◌++◌, drop, map, filter_map, All, FitsSigned}
use Rattle.std.specs.Int.{w64}
use Rattle.jtree.specs.View.{data_of}
use Rattle.plan.specs.Pools.Document.{integer_of}
use Rattle.plan.proofs.pools.integers_of.Given as goal

abbrev pub invariant-loop-entry : goal.invariant-loop-entry
invariant-loop-entry l =
    (l.integers.items ++ filter_map integer_of (map data_of (drop l.entry-index l.entries)) ≡ filter_map integer_of (map data_of l.entries))
    × All (λ z. FitsSigned w64 z) l.integers.items
