use Rattle.std.proofs.Common.{◌≡◌, drop}
use Rattle.definition.specs.Fields.{texts_at}
use Rattle.definition.specs.Texts.{is_among}
use Rattle.definition.proofs.texts.is_one_of.Given as goal

-- the text is among those that are left exactly where it is among all
abbrev pub invariant-loop-other : goal.invariant-loop-other
invariant-loop-other l = is_among l.text (texts_at (drop l.other-index l.texts)) ≡ is_among l.text (texts_at l.texts)
