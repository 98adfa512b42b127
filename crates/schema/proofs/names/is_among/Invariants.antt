use Rattle.std.proofs.Common.{◌≡◌, drop}
use Rattle.schema.specs.Document.Texts.{is_among}
use Rattle.schema.proofs.names.is_among.Given as goal

abbrev pub invariant-loop-other : goal.invariant-loop-other
invariant-loop-other l = is_among l.text (drop l.other-index l.texts) ≡ is_among l.text l.texts
