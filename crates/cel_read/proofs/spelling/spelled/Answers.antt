use Rattle.std.proofs.Common.{◌∙◌, ap, chars}
use Rattle.std.proofs.lemmas.Str.{chars-nil}
use Rattle.cel_read.proofs.spelling.spelled.Goals as goal

pub loop-c-init : goal.loop-c-init
loop-c-init c = ap chars c.new-out.ensures.bytes ∙ chars-nil
