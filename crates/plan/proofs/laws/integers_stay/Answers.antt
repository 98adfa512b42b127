use Rattle.plan.proofs.LeastLemmas.{keeps_integers}
use Rattle.plan.proofs.laws.integers_stay.Goals as goal

pub returns : goal.returns
returns c = keeps_integers
