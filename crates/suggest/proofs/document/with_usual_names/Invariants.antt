use Rattle.std.proofs.Common.{◌≡◌, [], drop}
use Rattle.std.specs.List.{fold}
use Rattle.suggest.specs.Suggested.Chosen.{with_name}
use Rattle.suggest.proofs.document.with_usual_names.Given as goal

abbrev pub invariant-loop-name : goal.invariant-loop-name
invariant-loop-name l = fold (with_name l.most) l.names.items (drop l.name-index l.found) ≡ fold (with_name l.most) [] l.found
