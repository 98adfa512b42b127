use Rattle.std.proofs.Common.{sym, subst}
use Rattle.crdx.specs.Internal.Judge.{standard_of}
use Rattle.jtree.specs.declared.fault.JFault.TheVariants.{TooLong}
use Rattle.crdx.specs.Program.InputFault.{TakesLongLine}
use Rattle.crdx.specs.Program.LineAnswers.{IsLineAnswer, no_document}
use Rattle.crdx.specs.Program.Profiles.{numbers_by}
use Rattle.crdx.proofs.ObjectInputLemmas.{too_long_with}
use Rattle.crdx.proofs.running.line_answers.next_answer.Goals as goal

pub returns-in_ok-answer_to_fault-in-Err-Document-TooLong-clause-some : goal.returns-in_ok-answer_to_fault-in-Err-Document-TooLong-clause-some
returns-in_ok-answer_to_fault-in-Err-Document-TooLong-clause-some g c =
    let asked = c.args.asked.now in
    let answer = c.in_ok-answer_to_fault-in-Err-Document-TooLong.field-0 in
    let said = c.in_ok-answer_to_fault-in-Err-Document-TooLong.ensures in
    let h : TakesLongLine (g.I.Inputs.coming c.args.inputs.now) (g.I.Inputs.coming c.next_line.new.self) = rw (c.in-Err-Document-TooLong.field-0-is, c.in-Err-Document-TooLong.field-0-0-is) at c.in-Err-Document-TooLong.ensures.refused in
    record {
      line = h.line;
      takes = h.takes;
      answer = subst (λ n. IsLineAnswer (numbers_by asked.profile) (standard_of c.args.judge.now) asked.command c.args.number h.line n answer.text.items) (sym said.0)
          (no_document TooLong answer.text.items (λ e. cc, λ e. cc) (too_long_with (numbers_by asked.profile) h.line h.long) said.1);
    }
