use Rattle.cel_eval.proofs.LawLemmas.{all_expands, exists_expands}
use Rattle.cel_eval.proofs.laws.macros_expand.Goals as goal

pub returns : goal.returns
returns c = record { all = all_expands; exists = exists_expands }
