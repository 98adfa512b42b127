use Rattle.std.proofs.Common.{◌≡◌, ◌∷◌, Bool, List, ℕ, Err, refl, sym, subst, ◌∙◌}
use Rattle.crdx.specs.Program.InputFault.{failures_after_read}
use Rattle.crdx.proofs.ObjectInputLemmas.{none_added, added_line, later_broken, later_unread}
use Rattle.crdx.specs.Program.Profiles.{numbers_by}
use Rattle.crdx.proofs.running.object_inputs.read_more.Goals as goal

pub lines-init : goal.lines-init
lines-init g c = record {
  so_far = none_added (numbers_by c.args.profile) (g.I.Inputs.coming c.args.inputs.now) c.args.objects.now.items;
  lines = λ name ls is. is;
  reads = refl;
}

pub returns-in-Err-clause-cause : goal.returns-in-Err-clause-cause
returns-in-Err-clause-cause g c =
    let s = c.lines.invariant in
    let unread = g.I.Inputs.failures c.args.inputs.now in
    let read = g.I.Inputs.failures c.next_line.new.self in
    let next = g.I.Inputs.coming c.next_line.new.self in
    let counts : read ≡ failures_after_read {T = Bool} unread (Err c.in-Err.fault) = subst (λ n. read ≡ failures_after_read {T = Bool} n (Err c.in-Err.fault)) s.reads c.in-Err.ensures.counts in
    rw c.unread_line.ensures (later_unread (numbers_by c.args.profile) (g.I.Inputs.coming c.args.inputs.now) (g.I.Inputs.coming c.lines.inputs) c.lines.read _ _ s.so_far next (g.I.Inputs.some_coming c.next_line.new.self) unread read c.in-Err.fault counts c.in-Err.ensures.refused)

pub returns-in-Err-add_line-clause-cause : goal.returns-in-Err-add_line-clause-cause
returns-in-Err-add_line-clause-cause g c =
    let s = c.lines.invariant in
    let line = c.as_slice.result.now in
    let next = g.I.Inputs.coming c.next_line.new.self in
    let takes = subst (λ l. (rest : List (List ℕ)) → next rest → g.I.Inputs.coming c.lines.inputs (l ∷ rest)) (sym c.as_slice.ensures.value) (c.in-Ok-true.ensures.line c.in-Ok-true.field-0-test) in
    later_broken (numbers_by c.args.profile) (g.I.Inputs.coming c.args.inputs.now) (g.I.Inputs.coming c.lines.inputs) c.lines.read _ _ s.so_far line next takes (g.I.Inputs.some_coming c.next_line.new.self) _ _ _ c.in-Err-add_line.ensures.cause

pub lines-preserved : goal.lines-preserved
lines-preserved g c =
    let s = c.lines.invariant in
    let line = c.as_slice.result.now in
    let next = g.I.Inputs.coming c.next_line.new.self in
    let takes = subst (λ l. (rest : List (List ℕ)) → next rest → g.I.Inputs.coming c.lines.inputs (l ∷ rest)) (sym c.as_slice.ensures.value) (c.in-Ok-true.ensures.line c.in-Ok-true.field-0-test) in
    let d = c.in-Ok.ensures.added in
    record {
      so_far = added_line (numbers_by c.args.profile) (g.I.Inputs.coming c.args.inputs.now) (g.I.Inputs.coming c.lines.inputs) c.lines.read _ _ s.so_far line next takes d.0 _ d.1 d.2;
      lines = λ name ls is. s.lines name ls (c.in-Ok-true.ensures.lines name ls is);
      reads = c.in-Ok-true.ensures.counts ∙ s.reads;
    }
