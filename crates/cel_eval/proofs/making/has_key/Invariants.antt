use Rattle.std.proofs.Common.{◌≡◌, drop}
use Rattle.cel_value.specs.Same.{value_at}
use Rattle.cel_value.specs.View.{borrowed_of, entries_of}
use Rattle.cel_eval.proofs.making.has_key.Given as goal

abbrev pub invariant-loop-entry : goal.invariant-loop-entry
invariant-loop-entry l = value_at (borrowed_of l.key) (entries_of (drop l.entry-index l.entries)) ≡ value_at (borrowed_of l.key) (entries_of l.entries)
