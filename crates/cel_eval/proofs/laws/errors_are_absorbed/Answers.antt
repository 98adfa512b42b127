use Rattle.cel_eval.proofs.LawLemmas.{and_left, and_right, or_left, or_right}
use Rattle.cel_eval.proofs.laws.errors_are_absorbed.Goals as goal

pub returns : goal.returns
returns c = record { and_left = and_left; and_right = and_right; or_left = or_left; or_right = or_right }
