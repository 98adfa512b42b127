use Rattle.std.proofs.Common.{subst}
use Rattle.std.proofs.lemmas.Result.{IfErr-weaker, on_ok_weaker}
use Rattle.jtree.specs.ReadsWith.{ReadsWith}
use Rattle.jtree.specs.View.{data_of}
use Rattle.crdx.specs.Internal.ObjectInputs.{IsLaterCause, IsTextCause, IsRefusedText}
use Rattle.crdx.specs.Program.Objects.{IsRefused}
use Rattle.crdx.proofs.ObjectInputLemmas.{nothing_added, nothing_refused, first_unread, lines_added, later_cause, whole_added, whole_cause}
use Rattle.crdx.specs.Program.Profiles.{numbers_by}
use Rattle.crdx.proofs.running.object_inputs.read_lines.Goals as goal

pub returns-in-Ok-false-clause-objects : goal.returns-in-Ok-false-clause-objects
returns-in-Ok-false-clause-objects g c =
    on_ok_weaker c.add_text.result (λ d. nothing_added (numbers_by c.args.profile) (g.I.Inputs.coming c.args.inputs.now) c.args.objects.now.items c.add_text.new.objects.items d.0 (c.in-Ok-false.ensures.end c.in-Ok-false.field-0-test) (subst (λ t. ReadsWith (numbers_by c.args.profile) t d.0) c.new.ensures.items d.1) d.2) c.add_text.ensures.added

pub returns-in-Ok-false-clause-cause : goal.returns-in-Ok-false-clause-cause
returns-in-Ok-false-clause-cause g c =
    IfErr-weaker c.add_text.result _ _ (λ r is. nothing_refused (numbers_by c.args.profile) (g.I.Inputs.coming c.args.inputs.now) _ _ r.cause (c.in-Ok-false.ensures.end c.in-Ok-false.field-0-test)
    (subst (λ t. IsRefusedText (numbers_by c.args.profile) t r.cause) c.new.ensures.items is)) c.add_text.ensures.cause

pub returns-in-Err-clause-cause : goal.returns-in-Err-clause-cause
returns-in-Err-clause-cause g c =
    rw c.unread_text.ensures (first_unread (numbers_by c.args.profile) (g.I.Inputs.coming c.args.inputs.now) (g.I.Inputs.coming c.next_line.new.self) (g.I.Inputs.some_coming c.next_line.new.self) (g.I.Inputs.failures c.args.inputs.now) (g.I.Inputs.failures c.next_line.new.self) c.in-Err.fault c.in-Err.ensures.counts c.in-Err.ensures.refused)

pub returns-in-Ok-clause-objects : goal.returns-in-Ok-clause-objects
returns-in-Ok-clause-objects g c =
    let d = data_of c.in-Ok-Some.document in
    let is = subst (λ l. ReadsWith (numbers_by c.args.profile) l d) c.as_slice.ensures.value (rw c.in-Ok-Some.field-0-is at c.in-Ok-Some.ensures) in
    on_ok_weaker c.read_more.result (λ rest. lines_added (numbers_by c.args.profile) (g.I.Inputs.coming c.args.inputs.now) (g.I.Inputs.coming c.next_line.new.self) c.next_line.new.line.items (c.in-Ok-true.ensures.line c.in-Ok-true.field-0-test)
    c.args.objects.now.items c.push_body.new.objects.items c.read_more.new.objects.items d is c.in-Ok.ensures rest) c.read_more.ensures.objects

pub returns-in-Ok-clause-cause : goal.returns-in-Ok-clause-cause
returns-in-Ok-clause-cause g c =
    let d = data_of c.in-Ok-Some.document in
    let is = subst (λ l. ReadsWith (numbers_by c.args.profile) l d) c.as_slice.ensures.value (rw c.in-Ok-Some.field-0-is at c.in-Ok-Some.ensures) in
    let later = g.I.Inputs.coming c.next_line.new.self in
    let read = g.I.Inputs.failures c.read_more.new.inputs in
    IfErr-weaker c.read_more.result _ _ (λ r rest. later_cause (numbers_by c.args.profile) (g.I.Inputs.coming c.args.inputs.now) later c.next_line.new.line.items (c.in-Ok-true.ensures.line c.in-Ok-true.field-0-test)
    (g.I.Inputs.failures c.args.inputs.now) read d r.cause is (subst (λ n. IsLaterCause (numbers_by c.args.profile) later n read r.cause) c.in-Ok-true.ensures.counts rest)) c.read_more.ensures.cause

pub returns-in-Ok-None-clause-objects : goal.returns-in-Ok-None-clause-objects
returns-in-Ok-None-clause-objects g c =
    let refused = subst (IsRefused (numbers_by c.args.profile)) c.as_slice.ensures.value (rw c.in-Ok-None.field-0-is at c.in-Ok-None.ensures) in
    on_ok_weaker c.read_on.result (λ all. whole_added (numbers_by c.args.profile) (g.I.Inputs.coming c.args.inputs.now) (g.I.Inputs.coming c.next_line.new.self) c.next_line.new.line.items (c.in-Ok-true.ensures.line c.in-Ok-true.field-0-test)
    refused c.args.objects.now.items c.read_on.new.objects.items all) c.read_on.ensures.objects

pub returns-in-Ok-None-clause-cause : goal.returns-in-Ok-None-clause-cause
returns-in-Ok-None-clause-cause g c =
    let refused = subst (IsRefused (numbers_by c.args.profile)) c.as_slice.ensures.value (rw c.in-Ok-None.field-0-is at c.in-Ok-None.ensures) in
    let later = g.I.Inputs.coming c.next_line.new.self in
    let read = g.I.Inputs.failures c.read_on.new.inputs in
    IfErr-weaker c.read_on.result _ _ (λ r rest. whole_cause (numbers_by c.args.profile) (g.I.Inputs.coming c.args.inputs.now) later c.next_line.new.line.items (c.in-Ok-true.ensures.line c.in-Ok-true.field-0-test)
    refused (g.I.Inputs.failures c.args.inputs.now) read r.cause (subst (λ n. IsTextCause (numbers_by c.args.profile) later c.next_line.new.line.items n read r.cause) c.in-Ok-true.ensures.counts rest)) c.read_on.ensures.cause
