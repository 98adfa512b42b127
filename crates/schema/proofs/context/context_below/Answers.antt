use Rattle.std.proofs.Common.{◌≡◌, ◌⊎◌, ◌↔◌, true, false, sym, ap, ◌∙◌, subst, inl, inr}
use Rattle.std.specs.Prelude.{IsTrue, ◌||◌, ◌&&◌}
use Rattle.jtree.specs.Data.{object}
use Rattle.schema.specs.Document.Places.{is_junctor}
use Rattle.schema.specs.Internal.PlaceView.{step_of}
use Rattle.schema.specs.Rules.Broken.{HasAnyPattern, HasAllPattern}
use Rattle.schema.specs.Internal.Contexts.{is_any, is_first_of_all}
use Rattle.schema.proofs.ContextLemmas.{context_more, both_true, and_true}
use Rattle.schema.proofs.context.context_below.Goals as goal
use Rattle.schema.proofs.context.context_below.Goals.{then-context, else-context, then-is_any, else-is_any, then-is_first_of_all, else-is_first_of_all, then-is_held, else-is_held+then-not-is_inside, else-is_held+else-not-is_inside, then-not-is_inside-2, else-not-is_inside-2}

pub returns : goal.returns
returns c =
    let s = step_of c.args.step in
    let before = c.args.context in
    let inside : c.if-context.is_inside ≡ (before.is_inside || is_junctor s) = elim c.if-context.branch [
      | then-context w ↦ rw w.if-context.true (w.is_inside-is ∙ w.if-context.true)
      | else-context w ↦ rw w.if-context.false (w.is_inside-is ∙ w.is_junctor-is_inside.ensures)
    ] in
    let pattern : c.if-is_any.result ≡ (is_any s && before.any_are) = elim c.if-is_any.branch [
      | then-is_any w ↦ w.result-is ∙ ap (λ b. b && before.any_are) (sym w.if-is_any.true ∙ c.is_any.ensures)
      | else-is_any w ↦ w.result-is ∙ (w.if-is_any.false ∙ ap (λ b. b && before.any_are) (sym w.if-is_any.false ∙ c.is_any.ensures))
    ] in
    let held : c.if-is_first_of_all.is_held ≡ (is_first_of_all s && before.all_are) = elim c.if-is_first_of_all.branch [
      | then-is_first_of_all w ↦ w.is_held-is ∙ ap (λ b. b && before.all_are) (sym w.if-is_first_of_all.true ∙ c.is_first_of_all.ensures)
      | else-is_first_of_all w ↦ w.is_held-is ∙ (w.if-is_first_of_all.false ∙ ap (λ b. b && before.all_are) (sym w.if-is_first_of_all.false ∙ c.is_first_of_all.ensures))
    ] in
    let any : IsTrue c.if-is_held.result ↔ (((is_first_of_all s ≡ true) × IsTrue before.all_are) ⊎ ((c.if-context.is_inside ≡ false) × HasAnyPattern (object c.args.schema.now))) = elim c.if-is_held.branch [
      | then-is_held w ↦ (λ t. inl (both_true (is_first_of_all s) before.all_are (sym held ∙ w.if-is_held.true)), λ h. w.result-is ∙ w.if-is_held.true)
      | else-is_held+then-not-is_inside w ↦ (
        λ t. inr (w.if-not-is_inside.true, w.has_any_pattern.ensures.0 (subst IsTrue w.result-is t)),
        λ h. elim h [
          | inl both ↦ let yes = held ∙ and_true (is_first_of_all s) before.all_are both.0 both.1 in let no = w.if-is_held.false in cc
          | inr here ↦ subst IsTrue (sym w.result-is) (w.has_any_pattern.ensures.1 here.1)
        ],
      )
      | else-is_held+else-not-is_inside w ↦ (
        λ t. let no = subst IsTrue w.result-is t in cc,
        λ h. elim h [
          | inl both ↦ let yes = held ∙ and_true (is_first_of_all s) before.all_are both.0 both.1 in let no = w.if-is_held.false in cc
          | inr here ↦ let outside = here.0 in let within = w.if-not-is_inside.false in cc
        ],
      )
    ] in
    let all : IsTrue c.if-not-is_inside-2.result ↔ ((c.if-context.is_inside ≡ false) × HasAllPattern (object c.args.schema.now)) = elim c.if-not-is_inside-2.branch [
      | then-not-is_inside-2 w ↦ (
        λ t. (w.if-not-is_inside-2.true, w.has_all_pattern.ensures.0 (subst IsTrue w.result-is t)),
        λ h. subst IsTrue (sym w.result-is) (w.has_all_pattern.ensures.1 h.1),
      )
      | else-not-is_inside-2 w ↦ (
        λ t. let no = subst IsTrue w.result-is t in cc,
        λ h. let outside = h.0 in let within = w.if-not-is_inside-2.false in cc,
      )
    ] in
    λ raw at p h by. context_more raw at p s c.args.schema.now before _ h by
    (record { outer = c.outer_below.ensures; inside = inside; pattern = pattern; any = any; all = all })
