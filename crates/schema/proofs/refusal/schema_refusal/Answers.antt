use Rattle.std.proofs.Common.{sym, subst}
use Rattle.jtree.specs.View.{data_of}
use Rattle.schema.specs.Document.Limits.{IsWithinLimits}
use Rattle.schema.specs.Document.Refusal.{IsExcess}
use Rattle.schema.specs.Internal.Faults.{IsLimitFaultOf}
use Rattle.schema.proofs.SchemaFaults.{is_no_other}
use Rattle.schema.proofs.refusal.schema_refusal.Goals as goal

pub returns-in-Ok-list_places-clause-read : goal.returns-in-Ok-list_places-clause-read
returns-in-Ok-list_places-clause-read c = λ none. (c.in-Ok.ensures.ok, subst (λ t. IsWithinLimits c.args.limits (data_of t)) (sym c.in-Object.is) c.in-Ok-list_places.ensures.within)

pub returns-in-Err-Passed-clause-refused : goal.returns-in-Err-Passed-clause-refused
returns-in-Err-Passed-clause-refused c = λ d version has.
    let excess = c.in-Err-Passed.excess in (
      data_of c.args.schema.now,
      has,
      c.in-Ok.ensures.ok,
      subst (λ t. IsExcess c.args.limits (data_of t) excess) (sym c.in-Object.is)
          (subst (IsLimitFaultOf c.args.limits _) c.in-Err-Passed.field-0-is c.in-Err-Passed.ensures.err),
    )

pub returns-in_default : goal.returns-in_default
returns-in_default c = absurd (is_no_other c.args.schema.now c.requires.object c.in_default.not-Object)
