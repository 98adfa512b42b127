use Rattle.std.proofs.Common.{inr, subst, string_bytes}
use Rattle.jtree.specs.View.{data_of}
use Rattle.crdx.specs.Internal.Cause.{IsObjectCause}
use Rattle.crdx.specs.Program.ObjectAnswer.{IsObjectAnswer}
use Rattle.crdx.specs.Program.Standard.{by_node}
use Rattle.crdx.proofs.running.objects.judge_by.Goals as goal

pub returns-in-Ok-clause-answer : goal.returns-in-Ok-clause-answer
returns-in-Ok-clause-answer g c =
    let document = data_of c.in_ok-body.body in
    (document, c.in_ok-body.ensures.ok, subst (λ N. IsObjectAnswer N document c.args.arguments.now.command c.in-Ok.answer.status (string_bytes c.in-Ok.answer.out)) c.root.ensures.node c.in-Ok.ensures.answer)

pub returns-clause-cause : goal.returns-clause-cause
returns-clause-cause g c =
    let document = data_of c.in_ok-body.body in
    inr (document, c.in_ok-body.ensures.ok, subst (λ N. IsObjectCause (by_node N) document c.args.arguments.now.command c.in-Err.cause) c.root.ensures.node c.in-Err.ensures.cause)
