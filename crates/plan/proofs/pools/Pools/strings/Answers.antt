use Rattle.std.proofs.Common.{ap, ◌∙◌}
use Rattle.plan.specs.Pools.Pools.{Pools}
use Rattle.plan.proofs.pools.Pools.strings.Goals as goal

pub returns : goal.returns
returns c = c.as_slice.ensures.value ∙ ap (λ P. Pools.strings P) c.self.view_is
