use Rattle.std.proofs.Common.{ap, ◌∙◌}
use Rattle.plan.specs.Samples.Steps.{counted}
use Rattle.plan.proofs.meter.Meter.step.Goals as goal

pub returns : goal.returns
returns c = c.saturating_add-self-inside.ensures ∙ ap (λ n. counted n 1) c.self.view_is
