use Rattle.plan.proofs.ListLemmas.{least_found, least_missing}
use Rattle.plan.proofs.lists.least_size.Goals as goal

pub returns-in-Some-clause-least : goal.returns-in-Some-clause-least
returns-in-Some-clause-least g c = λ P M h. least_found c.args.limit P M (g.Z.SizeSet.holds c.args.sizes) c.in-Some.least h c.in-Some.ensures

pub returns-in-None-clause-least : goal.returns-in-None-clause-least
returns-in-None-clause-least g c = λ P M h. least_missing c.args.limit P M (g.Z.SizeSet.holds c.args.sizes) h c.in-None.ensures
