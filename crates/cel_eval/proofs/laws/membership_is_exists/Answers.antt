use Rattle.cel_eval.proofs.LawLemmas.{member_exists}
use Rattle.cel_eval.proofs.laws.membership_is_exists.Goals as goal

pub returns : goal.returns
returns c = member_exists
