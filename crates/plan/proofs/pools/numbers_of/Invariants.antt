use Rattle.std.proofs.Common.{◌≡◌, ◌++◌, drop, map}
use Rattle.std.specs.Prelude.{filter}
use Rattle.jtree.specs.View.{data_of}
use Rattle.plan.specs.Pools.Document.{is_any_number}
use Rattle.plan.proofs.pools.numbers_of.Given as goal

abbrev pub invariant-loop-entry : goal.invariant-loop-entry
invariant-loop-entry l = map data_of l.numbers.items ++ filter is_any_number (map data_of (drop l.entry-index l.entries)) ≡ filter is_any_number (map data_of l.entries)
