use Rattle.std.proofs.Common.{◌∙◌, ap, chars, refl}
use Rattle.std.proofs.lemmas.Str.{chars-nil}
use Rattle.cel_read.proofs.lexing.decoded.Goals as goal

pub loop-value-init : goal.loop-value-init
loop-value-init c = record { written = ap chars c.new-text.ensures.bytes ∙ chars-nil; scalars = refl }
