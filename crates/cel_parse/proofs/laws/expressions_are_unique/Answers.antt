use Rattle.cel_parse.proofs.Exact.{one}
use Rattle.cel_parse.proofs.laws.expressions_are_unique.Goals as goal

pub returns : goal.returns
returns c = one
