use Rattle.std.proofs.Common.{◌≡◌, drop}
use Rattle.cel_value.specs.Same.{value_at}
use Rattle.cel_value.specs.View.{borrowed_of, entries_of}
use Rattle.cel_value.proofs.value.Entries.get.Given as goal

abbrev pub invariant-loop-entry : goal.invariant-loop-entry
invariant-loop-entry l = value_at (borrowed_of l.key) (entries_of (drop l.entry-index l.entry-items)) ≡ value_at (borrowed_of l.key) l.self
