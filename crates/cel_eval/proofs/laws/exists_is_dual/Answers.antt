use Rattle.cel_eval.proofs.LawLemmas.{dual}
use Rattle.cel_eval.proofs.laws.exists_is_dual.Goals as goal

pub returns : goal.returns
returns c = dual
