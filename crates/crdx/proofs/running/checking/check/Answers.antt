use Rattle.std.proofs.lemmas.Result.{err_from_is_err_and}
use Rattle.jtree.specs.View.{data_of}
use Rattle.crdx.specs.Program.RunResult.{checked}
use Rattle.crdx.specs.declared.arguments.request.Request.TheVariants.{Check}
use Rattle.crdx.proofs.RunLemmas.{input_of_reading}
use Rattle.crdx.proofs.running.checking.check.Goals as goal

pub returns-in_err-definition-clause-cause : goal.returns-in_err-definition-clause-cause
returns-in_err-definition-clause-cause g c =
    let arguments = c.args.arguments.now in
    let p = err_from_is_err_and c.from_residual.result c.from_residual.ensures.1 in
    rw (p.1, p.2) (input_of_reading (g.I.Inputs.has c.args.inputs.now) (g.I.Inputs.failures c.args.inputs.now) (g.I.Inputs.failures c.read_definition.new.inputs) arguments
    (Check arguments) c.in_err-definition.field-0.0.cause (λ r. r) c.in_err-definition.ensures.cause)

pub returns-clause-answer : goal.returns-clause-answer
returns-clause-answer g c =
    let crd = c.in_ok-definition.definition.crd in
    checked c.args.arguments.now (data_of c.in_ok-definition.definition.document) crd.group crd.kind crd.raw _ _ c.in_ok-definition.ensures.ok c.in_ok-answer.ensures
