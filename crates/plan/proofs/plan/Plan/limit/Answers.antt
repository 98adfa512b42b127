use Rattle.std.proofs.Common.{ap}
use Rattle.plan.specs.Samples.Question.{Question}
use Rattle.plan.proofs.plan.Plan.limit.Goals as goal

pub returns : goal.returns
returns g c = ap (λ q. Question.limit q) c.self.view_is
