use Rattle.std.proofs.Common.{inl, subst}
use Rattle.std.proofs.lemmas.Result.{err_from_is_err_and, IfOk-weaker, IfErr-weaker}
use Rattle.crdx.specs.Internal.Cause.{IsDocumentCause}
use Rattle.crdx.specs.Program.Documents.{file_name}
use Rattle.crdx.specs.Program.Requested.{numbers_of}
use Rattle.crdx.specs.Program.RunResult.{object, refused_patterns}
use Rattle.crdx.specs.Program.Standard.{as_written}
use Rattle.crdx.specs.declared.arguments.request.Request.TheVariants.{Object}
use Rattle.crdx.proofs.RunLemmas.{input_of_written, object_input}
use Rattle.crdx.proofs.running.as_written.judge_as_written.Goals as goal

pub returns-in_err-written-clause-cause : goal.returns-in_err-written-clause-cause
returns-in_err-written-clause-cause g c =
    let arguments = c.args.arguments.now in
    let p = err_from_is_err_and c.from_residual.result c.from_residual.ensures.1 in
    rw (p.1, p.2) (input_of_written (g.I.Inputs.has c.args.inputs.now) (g.I.Inputs.failures c.args.inputs.now) (g.I.Inputs.failures c.written_schema.new.inputs) arguments c.requires (Object arguments)
    (refused_patterns arguments) c.in_err-written.field-0.0.cause (λ r. inl r) c.in_err-written.ensures.cause)

pub returns-clause-answer : goal.returns-clause-answer
returns-clause-answer g c =
    let arguments = c.args.arguments.now in
    let written = c.in_ok-written.written in
    IfOk-weaker c.answer_by.result _ _ (λ a said. object arguments (as_written written.schema.tree) said.0 a.status _ (record {
      standard = (c.requires, c.in_ok-written.ensures.written, c.in_ok-written.ensures.patterns);
      at_hand = c.in_ok-written.ensures.stays (numbers_of arguments.common) (file_name arguments.object) _ said.1;
    }) said.2) c.answer_by.ensures.answer

pub returns-clause-cause : goal.returns-clause-cause
returns-clause-cause g c =
    let has = g.I.Inputs.has c.args.inputs.now in
    let later = g.I.Inputs.has c.written_schema.new.inputs in
    let read = g.I.Inputs.failures c.answer_by.new.inputs in
    let arguments = c.args.arguments.now in
    let S = as_written c.in_ok-written.written.schema.tree in
    IfErr-weaker c.answer_by.result _ _ (λ r why.
    object_input has later (g.I.Inputs.failures c.args.inputs.now) read arguments S c.in_ok-written.ensures.stays (c.requires, c.in_ok-written.ensures.written, c.in_ok-written.ensures.patterns) r.cause
    (subst (λ n. IsDocumentCause later n read S arguments r.cause) c.in_ok-written.ensures.unfailed why)) c.answer_by.ensures.cause
