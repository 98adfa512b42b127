use Rattle.std.proofs.Common.{◌+◌, subst, inr, ◌∙◌}
use Rattle.std.proofs.KnownBytes.{Keeps-refl}
use Rattle.crdx.specs.Internal.Judge.{standard_of}
use Rattle.crdx.specs.Internal.LineProgress.{IsNextAnswer, IsUnreadCause, IsCutCause}
use Rattle.crdx.proofs.LineAnswerLemmas.{unread_cause, cut_cause, answered_more, out_so_far}
use Rattle.crdx.specs.Program.Profiles.{numbers_by}
use Rattle.crdx.proofs.running.line_answers.answer_lines.Goals as goal

pub returns-in-Err-clause-cause : goal.returns-in-Err-clause-cause
returns-in-Err-clause-cause g c =
    let s = c.lines.invariant in
    let asked = c.args.asked.now in
    let read = g.I.Inputs.failures c.next_answer.new.inputs in
    unread_cause (numbers_by asked.profile) (standard_of c.args.judge.now) asked.command (g.I.Inputs.coming c.args.inputs.now) (g.I.Inputs.coming c.lines.inputs) c.lines.so_far.lines c.lines.so_far.status _ _ s.so_far (g.I.Inputs.some_coming c.lines.inputs)
    (g.I.Inputs.failures c.args.inputs.now) read _ _ c.in-Err.cause s.failures (subst (λ n. IsUnreadCause n read c.in-Err.cause) s.reads c.in-Err.ensures.cause)

pub returns-in-Err-write_answer-clause-cause : goal.returns-in-Err-write_answer-clause-cause
returns-in-Err-write_answer-clause-cause g c =
    let s = c.lines.invariant in
    let asked = c.args.asked.now in
    let answer = c.in-Ok-Some.answer in
    let next = subst (λ S. IsNextAnswer (g.I.Inputs.coming c.lines.inputs) (g.I.Inputs.coming c.next_answer.new.inputs) (numbers_by asked.profile) S asked.command (c.lines.so_far.lines + 1) answer.status answer.text.items) s.judge (rw c.in-Ok-Some.field-0-is at c.in-Ok-Some.ensures.some) in
    let new = g.W.Sink.taken c.write_answer.new.out in
    let failed = g.W.Sink.failures c.write_answer.new.out in
    cut_cause (numbers_by asked.profile) (standard_of c.args.judge.now) asked.command (g.I.Inputs.coming c.args.inputs.now) (g.I.Inputs.coming c.lines.inputs) c.lines.so_far.lines c.lines.so_far.status _ _ s.so_far (g.I.Inputs.coming c.next_answer.new.inputs)
    answer.status answer.text.items next (g.I.Inputs.some_coming c.next_answer.new.inputs) (g.I.Inputs.failures c.args.inputs.now) (g.I.Inputs.failures c.next_answer.new.inputs)
    (g.W.Sink.failures c.args.out.now) failed new c.in-Err-write_answer.cause
    (subst (λ n. IsCutCause answer.text.items (g.W.Sink.taken c.lines.out) new n failed c.in-Err-write_answer.cause) s.failures c.in-Err-write_answer.ensures.cause)

pub lines-preserved : goal.lines-preserved
lines-preserved g c =
    let s = c.lines.invariant in
    let asked = c.args.asked.now in
    let answer = c.in-Ok-Some.answer in
    let next = subst (λ S. IsNextAnswer (g.I.Inputs.coming c.lines.inputs) (g.I.Inputs.coming c.next_answer.new.inputs) (numbers_by asked.profile) S asked.command (c.lines.so_far.lines + 1) answer.status answer.text.items) s.judge (rw c.in-Ok-Some.field-0-is at c.in-Ok-Some.ensures.some) in
    record {
      so_far = rw (c.in-Ok.ensures.counted.0, c.in-Ok.ensures.counted.1) (answered_more (numbers_by asked.profile) (standard_of c.args.judge.now) asked.command (g.I.Inputs.coming c.args.inputs.now) (g.I.Inputs.coming c.lines.inputs)
          c.lines.so_far.lines c.lines.so_far.status _ _ s.so_far (g.I.Inputs.coming c.next_answer.new.inputs) answer.status answer.text.items next _ c.in-Ok.ensures.written
          (g.I.Inputs.some_coming c.next_answer.new.inputs));
      judge = c.in-Ok-Some.ensures.same ∙ s.judge;
      failures = c.in-Ok.ensures.unfailed ∙ s.failures;
      reads = c.in-Ok-Some.ensures.unfailed ∙ s.reads;
    }

pub returns-clause-cause : goal.returns-clause-cause
returns-clause-cause g c =
    let s = c.lines.invariant in
    let some = g.I.Inputs.some_coming c.lines.inputs in
    let asked = c.args.asked.now in
    (s.failures, inr (some.0, out_so_far (numbers_by asked.profile) (standard_of c.args.judge.now) asked.command (g.I.Inputs.coming c.args.inputs.now) (g.I.Inputs.coming c.lines.inputs) c.lines.so_far.lines c.lines.so_far.status _ _ s.so_far some.0 _ some.1 (Keeps-refl _)))
