use Rattle.cel_eval.proofs.LawLemmas.{morgan}
use Rattle.cel_eval.proofs.laws.de_morgan.Goals as goal

pub returns : goal.returns
returns c = morgan
