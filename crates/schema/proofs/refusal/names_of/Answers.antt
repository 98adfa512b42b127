use Rattle.std.proofs.Common.{◌≡◌, ◌∷◌, ◌++◌, [], drop, refl, ap, sym, ◌∙◌, ◌+◌}
use Rattle.std.specs.Prelude.{codes}
use Rattle.std.proofs.lemmas.List.{drop_more}
use Rattle.jtree.specs.Path.{under}
use Rattle.jtree.specs.View.{data_of, items_of}
use Rattle.schema.specs.Document.Refusal.{names_of, and_name}
use Rattle.schema.proofs.CrdLemmas.{name_added, no_name}
use Rattle.schema.proofs.refusal.names_of.Goals as goal
use Rattle.schema.proofs.refusal.names_of.Goals.{in-Some+in_ok-from_str+in_ok-push, in_default}

pub loop-version-preserved : goal.loop-version-preserved
loop-version-preserved c =
    let xs = c.deref-version-items.result.now in
    let i = c.loop-version.version-index in
    let x = c.version-item.result in
    let old = c.loop-version.names.items in
    let new = c.match-get_text.names.items in
    let o = under (data_of x) (codes "name") in
    let rest = names_of (items_of (drop (i + 1) xs)) in
    let split : drop i xs ≡ x ∷ drop (i + 1) xs = drop_more xs i x c.loop-version-test.true ∙ ap (λ y. y ∷ drop (i + 1) xs) (sym c.version-item.is) in
    let added : new ++ rest ≡ old ++ and_name o rest = elim c.match-get_text.branch [
      | in-Some+in_ok-from_str+in_ok-push w ↦
          name_added o w.in-Some.name.now old new rest w.in-Some.ensures.some (ap (λ v. v.items) w.names-is ∙ w.in_ok-push.ensures.items ∙ ap (λ s. old ++ s ∷ []) w.in_ok-from_str.ensures)
      | in_default w ↦ ap (λ v. v.items ++ rest) w.names-is ∙ ap (λ r. old ++ r) (no_name o rest (w.in_default.ensures.none refl))
    ] in
    added ∙ ap (λ ys. old ++ names_of (items_of ys)) (sym split) ∙ c.loop-version.invariant
