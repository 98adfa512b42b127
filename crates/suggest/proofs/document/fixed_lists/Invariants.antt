use Rattle.std.proofs.Common.{◌≡◌, map, drop}
use Rattle.std.specs.List.{fold}
use Rattle.suggest.specs.View.{texts_at}
use Rattle.suggest.specs.Suggested.Document.{with_entry, without_entry}
use Rattle.suggest.proofs.document.fixed_lists.Given as goal

abbrev pub invariant-loop-path : goal.invariant-loop-path
invariant-loop-path l = fold with_entry l.lists (map without_entry (texts_at (drop l.path-index l.without))) ≡ fold with_entry l.initial.lists (map without_entry (texts_at l.without))
