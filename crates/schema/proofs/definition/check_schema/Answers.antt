use Rattle.std.proofs.Common.{sym, subst}
use Rattle.jtree.specs.View.{data_of}
use Rattle.schema.specs.Document.Limits.{IsWithinLimits}
use Rattle.schema.proofs.SchemaFaults.{is_no_other}
use Rattle.schema.proofs.definition.check_schema.Goals as goal

pub returns-in-Ok-list_places-clause-within : goal.returns-in-Ok-list_places-clause-within
returns-in-Ok-list_places-clause-within c = subst (λ t. IsWithinLimits c.args.limits (data_of t)) (sym c.in-Object.is) c.in-Ok-list_places.ensures.within

pub returns-in_default : goal.returns-in_default
returns-in_default c = absurd (is_no_other c.args.schema.now c.requires.object c.in_default.not-Object)
