use Rattle.std.proofs.Common.{inl, subst}
use Rattle.std.proofs.lemmas.Result.{err_from_is_err_and, IfOk-weaker, IfErr-weaker}
use Rattle.crdx.specs.Internal.Cause.{IsDocumentCause}
use Rattle.crdx.specs.Program.Documents.{file_name}
use Rattle.crdx.specs.Program.Requested.{numbers_of}
use Rattle.crdx.specs.Program.RunResult.{object, no_object}
use Rattle.crdx.specs.Program.Standard.{by_node}
use Rattle.crdx.specs.declared.arguments.request.Request.TheVariants.{Object}
use Rattle.crdx.proofs.RunLemmas.{input_of_schema, requested_root, object_input}
use Rattle.crdx.proofs.running.objects.judge_by_rules.Goals as goal

pub returns-in_err-schema-clause-cause : goal.returns-in_err-schema-clause-cause
returns-in_err-schema-clause-cause g c =
    let arguments = c.args.arguments.now in
    let p = err_from_is_err_and c.from_residual.result c.from_residual.ensures.1 in
    rw (p.1, p.2) (input_of_schema (g.I.Inputs.has c.args.inputs.now) (g.I.Inputs.failures c.args.inputs.now) (g.I.Inputs.failures c.accepted_schema.new.inputs) arguments.common (Object arguments)
    (λ breaks are. no_object arguments breaks c.requires are) c.in_err-schema.field-0.0.cause (λ r. inl r) c.in_err-schema.ensures.cause)

pub returns-clause-answer : goal.returns-clause-answer
returns-clause-answer g c =
    let has = g.I.Inputs.has c.args.inputs.now in
    let arguments = c.args.arguments.now in
    let accepted = c.in_ok-schema.field-0 in
    let root = requested_root has arguments.common accepted.group accepted.kind accepted.schema c.in_ok-schema.ensures.accepted in
    IfOk-weaker c.judge_by.result _ _ (λ a said. object arguments (by_node accepted.schema) said.0 a.status _ (record {
      standard = (c.requires, root);
      at_hand = c.in_ok-schema.ensures.stays (numbers_of arguments.common) (file_name arguments.object) _ said.1;
    }) said.2) c.judge_by.ensures.answer

pub returns-clause-cause : goal.returns-clause-cause
returns-clause-cause g c =
    let has = g.I.Inputs.has c.args.inputs.now in
    let later = g.I.Inputs.has c.accepted_schema.new.inputs in
    let read = g.I.Inputs.failures c.judge_by.new.inputs in
    let arguments = c.args.arguments.now in
    let accepted = c.in_ok-schema.field-0 in
    let N = accepted.schema in
    let root = requested_root has arguments.common accepted.group accepted.kind N c.in_ok-schema.ensures.accepted in
    IfErr-weaker c.judge_by.result _ _ (λ r why.
    object_input has later (g.I.Inputs.failures c.args.inputs.now) read arguments (by_node N) c.in_ok-schema.ensures.stays (c.requires, root) r.cause
    (subst (λ n. IsDocumentCause later n read (by_node N) arguments r.cause) c.in_ok-schema.ensures.unfailed why)) c.judge_by.ensures.cause
