use Rattle.std.proofs.Common.{◌≡◌, ◌<◌, length, arith, ◌∷◌, [], Bool, List, ℕ, Err, sym, subst, ◌∙◌}
use Rattle.std.proofs.lemmas.Result.{IfErr-weaker, on_ok_weaker}
use Rattle.jtree.specs.Reads.{most_bytes}
use Rattle.crdx.specs.Internal.ObjectInputs.{AreAdded, IsTextSoFar}
use Rattle.crdx.specs.Program.InputFault.{failures_after_read}
use Rattle.crdx.proofs.ObjectInputLemmas.{text_added, text_refused, text_unread, text_too_long, text_so_far}
use Rattle.crdx.specs.Program.Profiles.{numbers_by}
use Rattle.crdx.proofs.running.object_inputs.read_on.Goals as goal

pub returns-in-Ok-false-clause-objects : goal.returns-in-Ok-false-clause-objects
returns-in-Ok-false-clause-objects g c =
    let s = c.lines.invariant in
    on_ok_weaker c.add_text.result (λ d. text_added (numbers_by c.args.profile) (g.I.Inputs.coming c.args.inputs.now) (g.I.Inputs.coming c.lines.inputs) c.args.first.items c.lines.text.items s.so_far c.args.objects.now.items c.add_text.new.objects.items d.0
    (c.in-Ok-false.ensures.end c.in-Ok-false.field-0-test) d.1 (subst (λ os. AreAdded (d.0 ∷ []) os c.add_text.new.objects.items) s.objects d.2)) c.add_text.ensures.added

pub returns-in-Ok-false-clause-cause : goal.returns-in-Ok-false-clause-cause
returns-in-Ok-false-clause-cause g c =
    let s = c.lines.invariant in
    IfErr-weaker c.add_text.result _ _ (λ r is. text_refused (numbers_by c.args.profile) (g.I.Inputs.coming c.args.inputs.now) (g.I.Inputs.coming c.lines.inputs) c.args.first.items c.lines.text.items s.so_far _ _ r.cause
    (c.in-Ok-false.ensures.end c.in-Ok-false.field-0-test) is) c.add_text.ensures.cause

pub returns-in-Err-clause-cause : goal.returns-in-Err-clause-cause
returns-in-Err-clause-cause g c =
    let s = c.lines.invariant in
    let unread = g.I.Inputs.failures c.args.inputs.now in
    let read = g.I.Inputs.failures c.next_line.new.self in
    let counts : read ≡ failures_after_read {T = Bool} unread (Err c.in-Err.fault) = subst (λ n. read ≡ failures_after_read {T = Bool} n (Err c.in-Err.fault)) s.reads c.in-Err.ensures.counts in
    rw c.unread_text.ensures (text_unread (numbers_by c.args.profile) (g.I.Inputs.coming c.args.inputs.now) (g.I.Inputs.coming c.lines.inputs) c.args.first.items c.lines.text.items s.so_far (g.I.Inputs.coming c.next_line.new.self) (g.I.Inputs.some_coming c.next_line.new.self) unread read c.in-Err.fault counts c.in-Err.ensures.refused)

pub lines-preserved : goal.lines-preserved
lines-preserved g c =
    let s = c.lines.invariant in
    let line = c.as_slice.result.now in
    let next = g.I.Inputs.coming c.next_line.new.self in
    let takes = subst (λ l. (rest : List (List ℕ)) → next rest → g.I.Inputs.coming c.lines.inputs (l ∷ rest)) (sym c.as_slice.ensures.value) (c.in-Ok-true.ensures.line c.in-Ok-true.field-0-test) in
    record {
      so_far = subst (IsTextSoFar (g.I.Inputs.coming c.args.inputs.now) next c.args.first.items) (sym c.in-Ok.ensures) (text_so_far (numbers_by c.args.profile) (g.I.Inputs.coming c.args.inputs.now) (g.I.Inputs.coming c.lines.inputs) c.args.first.items c.lines.text.items s.so_far line next takes);
      objects = s.objects;
      lines = λ name ls is. s.lines name ls (c.in-Ok-true.ensures.lines name ls is);
      reads = c.in-Ok-true.ensures.counts ∙ s.reads;
    }

pub returns-clause-cause : goal.returns-clause-cause
returns-clause-cause g c =
    let s = c.lines.invariant in
    let long : most_bytes < length c.lines.text.items = omega (arith, c.lines-test.false, c.len.ensures) in
    rw c.no_document.ensures (text_too_long (numbers_by c.args.profile) (g.I.Inputs.coming c.args.inputs.now) (g.I.Inputs.coming c.lines.inputs) c.args.first.items c.lines.text.items s.so_far (g.I.Inputs.failures c.args.inputs.now) (g.I.Inputs.failures c.lines.inputs) (g.I.Inputs.some_coming c.lines.inputs) long)
