use Rattle.std.proofs.Common.{sym, subst}
use Rattle.std.proofs.lemmas.Result.{IfOk-weaker}
use Rattle.crdx.specs.Internal.Judge.{standard_of}
use Rattle.crdx.specs.Program.LineAnswers.{IsLineAnswer, no_document}
use Rattle.crdx.specs.Program.Profiles.{numbers_by}
use Rattle.crdx.proofs.running.line_answers.answer_to.Goals as goal

pub returns-in-Ok-Err-clause-answer : goal.returns-in-Ok-Err-clause-answer
returns-in-Ok-Err-clause-answer g c =
    let asked = c.args.asked.now in
    let line = c.args.line.now in
    let none = rw c.in-Ok-Err.field-0-is at c.in-Ok-Err.ensures.none in
    IfOk-weaker c.answer_to_fault.result _ _ (λ a is. subst (λ n. IsLineAnswer (numbers_by asked.profile) (standard_of c.args.judge.now) asked.command c.args.number line n a.text.items) (sym is.0)
    (no_document c.in-Ok-Err.fault a.text.items none.0 none.1 is.1)) c.answer_to_fault.ensures
