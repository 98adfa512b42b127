use Rattle.std.proofs.Common.{◌≡◌, drop}
use Rattle.schema.specs.Document.Texts.{is_among}
use Rattle.suggest.specs.View.{texts_at}
use Rattle.suggest.proofs.varying.is_path_among.Given as goal

abbrev pub invariant-loop-other : goal.invariant-loop-other
invariant-loop-other l = is_among l.text (texts_at (drop l.other-index l.texts)) ≡ is_among l.text (texts_at l.texts)
