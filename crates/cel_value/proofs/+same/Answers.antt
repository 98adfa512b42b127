use Rattle.std.proofs.Common.{sym}
use Rattle.cel_value.proofs.SameLemmas.{unlike}
use Rattle.cel_value.proofs.+same.Goals as goal

pub same::are_same-returns-then-left-right : goal.same::are_same-returns-then-left-right
same::are_same-returns-then-left-right t c = sym (unlike c.args.left.now c.args.right.now c.if-left-right.true)
