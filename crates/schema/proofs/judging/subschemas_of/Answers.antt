use Rattle.std.proofs.Common.{sym, subst}
use Rattle.std.proofs.lemmas.Result.{err_from_is_err_and}
use Rattle.jtree.specs.View.{data_of}
use Rattle.schema.specs.Document.Forms.{HasForms}
use Rattle.schema.specs.Document.Raw.{raw_by}
use Rattle.schema.specs.Document.Limits.{IsWithinLimits}
use Rattle.schema.proofs.SchemaFaults.{no_other, no_excess}
use Rattle.schema.proofs.judging.subschemas_of.Goals as goal

pub returns-in_default : goal.returns-in_default
returns-in_default c = absurd (no_other c.args.raw.now.profile c.tree.result.now (subst (λ d. HasForms (raw_by c.args.raw.now.profile d)) (sym c.tree.ensures.data) c.tree.ensures.forms) c.in_default.not-Object)

pub returns-in_err-list_places-in-Object-clause-err : goal.returns-in_err-list_places-in-Object-clause-err
returns-in_err-list_places-in-Object-clause-err c =
    let limits = c.limits.result in
    let p = err_from_is_err_and c.from_residual.result c.from_residual.ensures.1 in
    let within = subst (IsWithinLimits limits) (sym c.tree.ensures.data) c.limits.ensures in
    rw (p.1, p.2) (no_excess limits _ c.in_err-list_places-in-Object.field-0.0 (subst (λ t. IsWithinLimits limits (data_of t)) c.in-Object.is within) c.in_err-list_places-in-Object.ensures.err)
