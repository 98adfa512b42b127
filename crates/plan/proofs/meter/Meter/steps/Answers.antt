use Rattle.plan.proofs.meter.Meter.steps.Goals as goal

pub returns : goal.returns
returns c = c.self.view_is
