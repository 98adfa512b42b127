use Rattle.std.proofs.lemmas.Result.{err_from_is_err_and}
use Rattle.crdx.specs.Program.RunResult.{fields, no_fields}
use Rattle.crdx.specs.declared.arguments.request.Request.TheVariants.{Explain}
use Rattle.crdx.proofs.RunLemmas.{input_of_schema, requested_root, field_input}
use Rattle.crdx.proofs.running.explaining.explain.Goals as goal

pub returns-in_err-schema-clause-cause : goal.returns-in_err-schema-clause-cause
returns-in_err-schema-clause-cause g c =
    let arguments = c.args.arguments.now in
    let p = err_from_is_err_and c.from_residual.result c.from_residual.ensures.1 in
    rw (p.1, p.2) (input_of_schema (g.I.Inputs.has c.args.inputs.now) (g.I.Inputs.failures c.args.inputs.now) (g.I.Inputs.failures c.accepted_schema.new.inputs) arguments.common (Explain arguments)
    (no_fields arguments) c.in_err-schema.field-0.0.cause (λ r. r) c.in_err-schema.ensures.cause)

pub returns-in-Ok-clause-answer : goal.returns-in-Ok-clause-answer
returns-in-Ok-clause-answer g c =
    let arguments = c.args.arguments.now in
    let accepted = c.in_ok-schema.field-0 in
    let root = requested_root (g.I.Inputs.has c.args.inputs.now) arguments.common accepted.group accepted.kind accepted.schema c.in_ok-schema.ensures.accepted in
    fields arguments accepted.schema c.in-Ok.answer.status _ root c.in-Ok.ensures.answer

pub returns-clause-cause : goal.returns-clause-cause
returns-clause-cause g c =
    let has = g.I.Inputs.has c.args.inputs.now in
    let arguments = c.args.arguments.now in
    let accepted = c.in_ok-schema.field-0 in
    let root = requested_root has arguments.common accepted.group accepted.kind accepted.schema c.in_ok-schema.ensures.accepted in
    field_input has (g.I.Inputs.failures c.args.inputs.now) (g.I.Inputs.failures c.accepted_schema.new.inputs) arguments accepted.schema c.in-Err.cause root c.in-Err.ensures.cause
