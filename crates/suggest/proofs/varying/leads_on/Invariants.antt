use Rattle.std.proofs.Common.{◌≡◌, drop}
use Rattle.suggest.specs.View.{texts_at}
use Rattle.suggest.specs.Suggested.Varied.{leads_on}
use Rattle.suggest.proofs.varying.leads_on.Given as goal

abbrev pub invariant-loop-text : goal.invariant-loop-text
invariant-loop-text l = leads_on l.path (texts_at (drop l.text-index l.texts)) ≡ leads_on l.path (texts_at l.texts)
