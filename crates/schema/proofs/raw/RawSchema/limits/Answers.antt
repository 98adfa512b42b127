use Rattle.std.proofs.Common.{subst}
use Rattle.schema.specs.Document.Limits.{IsWithinLimits}
use Rattle.schema.specs.Document.Raw.{Raw}
use Rattle.schema.proofs.raw.RawSchema.limits.Goals as goal

pub returns : goal.returns
returns c = subst (λ (r : Raw). IsWithinLimits c.self.inside.reading.limits r.tree) c.self.view_is c.self.invariant.1
