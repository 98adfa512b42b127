use Rattle.std.proofs.Common.{◌≡◌, drop}
use Rattle.std.specs.List.{fold}
use Rattle.suggest.specs.Internal.Parts.{entries_of}
use Rattle.suggest.specs.Suggested.Document.{with_entry}
use Rattle.suggest.proofs.members.with_lists.Given as goal

abbrev pub invariant-loop-entry : goal.invariant-loop-entry
invariant-loop-entry l = fold with_entry l.members (entries_of (drop l.entry-index l.entries)) ≡ fold with_entry l.initial.members (entries_of l.entries)
