use Rattle.std.proofs.Common.{◌≡◌, ◌++◌, drop, map, filter_map}
use Rattle.jtree.specs.View.{data_of}
use Rattle.plan.specs.Pools.Document.{text_of}
use Rattle.plan.proofs.pools.texts_of.Given as goal

abbrev pub invariant-loop-entry : goal.invariant-loop-entry
invariant-loop-entry l = l.texts.items ++ filter_map text_of (map data_of (drop l.entry-index l.entries)) ≡ filter_map text_of (map data_of l.entries)
