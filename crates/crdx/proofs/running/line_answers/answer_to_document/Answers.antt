use Rattle.std.proofs.Common.{◌≡◌, [], sym, subst}
use Rattle.std.specs.Prelude.{string_bytes}
use Rattle.std.proofs.lemmas.Result.{IfOk-weaker}
use Rattle.jtree.specs.View.{data_of}
use Rattle.crdx.specs.Internal.Judge.{standard_of}
use Rattle.crdx.specs.Program.LineAnswers.{IsLineAnswer, document, printed_at}
use Rattle.crdx.specs.Program.Profiles.{numbers_by}
use Rattle.crdx.proofs.running.line_answers.answer_to_document.Goals as goal

pub returns-in-Ok-clause-answer : goal.returns-in-Ok-clause-answer
returns-in-Ok-clause-answer c =
    let asked = c.args.asked.now in
    let alone = c.in-Ok.alone in
    IfOk-weaker c.numbered_answer.result _ _ (λ a printed line reads. subst (λ n. IsLineAnswer (numbers_by asked.profile) (standard_of c.args.judge.now) asked.command c.args.number line n a.text.items) (sym printed.0)
    (document (data_of c.args.document) alone.status (string_bytes alone.out) a.text.items reads c.in-Ok.ensures.answer printed.1)) c.numbered_answer.ensures

pub returns-in-Err-NotStored-clause-answer : goal.returns-in-Err-NotStored-clause-answer
returns-in-Err-NotStored-clause-answer c =
    let asked = c.args.asked.now in
    IfOk-weaker c.numbered_answer-in-Err-NotStored.result _ _ (λ a printed line reads. subst (λ n. IsLineAnswer (numbers_by asked.profile) (standard_of c.args.judge.now) asked.command c.args.number line n a.text.items) (sym printed.0)
    (document (data_of c.args.document) 1 [] a.text.items reads (rw c.in-Err-NotStored.field-0-is at c.in-Err-NotStored.ensures.cause) (subst (λ alone. a.text.items ≡ printed_at c.args.number asked.command 1 alone) c.new.ensures.bytes printed.1))) c.numbered_answer-in-Err-NotStored.ensures
