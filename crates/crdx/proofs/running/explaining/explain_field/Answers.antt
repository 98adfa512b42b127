use Rattle.std.proofs.lemmas.Result.{err_from_is_err_and, IfErr-at_err}
use Rattle.explain.specs.Fields.Declared.{IsDeclared}
use Rattle.explain.specs.Fields.PathFault.{IsPathFault}
use Rattle.explain.specs.Fields.View.{field_of}
use Rattle.crdx.specs.Program.FieldAnswer.{found, not_found}
use Rattle.crdx.proofs.running.explaining.explain_field.Goals as goal

pub returns-in_err-resolve-clause-cause : goal.returns-in_err-resolve-clause-cause
returns-in_err-resolve-clause-cause c =
    let p = err_from_is_err_and c.from_residual.result c.from_residual.ensures.1 in
    rw (p.1, p.2) (not_found c.args.path c.in_err-resolve.field-0.0 (IfErr-at_err (IsPathFault (IsDeclared c.args.schema.now) c.args.path.now) c.in_err-resolve.was c.resolve.ensures.fault))

pub returns-in_err-field-clause-cause : goal.returns-in_err-field-clause-cause
returns-in_err-field-clause-cause c =
    let p = err_from_is_err_and c.from_residual-in_err-field.result c.from_residual-in_err-field.ensures.1 in
    rw (p.1, p.2) (not_found c.args.path c.in_err-field.field-0.0 (c.in_err-field.ensures.fault c.args.schema.now c.in_ok-listing.ensures))

pub returns-clause-answer : goal.returns-clause-answer
returns-clause-answer c = rw c.in_ok-all_of_field.ensures (found c.args.path (field_of c.in_ok-field.field.now) (c.in_ok-field.ensures.found c.args.schema.now c.in_ok-listing.ensures))
