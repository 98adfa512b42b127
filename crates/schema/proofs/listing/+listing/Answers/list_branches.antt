use Rattle.std.proofs.Common.{◌≡◌, ◌+◌, suc, ◌∷◌, ◌++◌, drop, ap, sym, ◌∙◌, subst, arith}
use Rattle.std.proofs.lemmas.List.{at_drop_all, drop_more}
use Rattle.std.proofs.lemmas.Result.{err_from_is_err_and}
use Rattle.jtree.specs.View.{data_of, items_of}
use Rattle.schema.specs.Internal.Contexts.{HasPart}
use Rattle.schema.specs.Internal.Events.{a_schema, part_events, item_events}
use Rattle.schema.specs.Internal.PlaceView.{step_of, place_of, junctor_of}
use Rattle.schema.proofs.ListingLemmas.{along_more, along_refused, along_all}
use Rattle.schema.proofs.ContextLemmas.{branch_part, item_found}
use Rattle.schema.proofs.listing.+listing.Goals as goal

pub loop-i-preserved : goal.list_branches-loop-i-preserved
loop-i-preserved t c =
    let at = c.args.position.now in
    let xs = c.deref-item-items.result.now in
    let i = c.loop-i.i in
    let x = c.item-item.result in
    let P = place_of at.place.now in
    let j = junctor_of c.args.junctor in
    let step = c.branch-step.ensures in
    let split : drop i xs ≡ x ∷ drop (i + 1) xs = drop_more xs i x c.loop-i-test.true ∙ ap (λ y. y ∷ drop (i + 1) xs) (sym c.item-item.is) in
    let next : suc i ≡ i + 1 = omega arith in
    let events : item_events P j i (items_of (drop i xs)) ≡ part_events P (a_schema (step_of c.branch-step.result)) (data_of x) ++ item_events P j (i + 1) (items_of (drop (i + 1) xs)) =
    ap (λ ys. item_events P j i (items_of ys)) split ∙ (λ k. part_events P (a_schema (sym step k)) (data_of x) ++ item_events P j (next k) (items_of (drop (i + 1) xs))) in
    along_more at.limits _ _ _ _ _ _ _ _ events
    (λ raw h. (h.0, h.1, subst (λ r. HasPart h.0 (a_schema r) (data_of x)) (sym step) (branch_part h.0 j (items_of xs) i (data_of x) h.2 (item_found xs (drop (i + 1) xs) i x split))))
    c.in_ok-list_part.ensures c.loop-i.invariant

pub returns-in_err-list_part : goal.list_branches-returns-in_err-list_part
returns-in_err-list_part t c =
    let at = c.args.position.now in
    let xs = c.deref-item-items.result.now in
    let i = c.loop-i.i in
    let x = c.item-item.result in
    let P = place_of at.place.now in
    let j = junctor_of c.args.junctor in
    let step = c.branch-step.ensures in
    let split : drop i xs ≡ x ∷ drop (i + 1) xs = drop_more xs i x c.loop-i-test.true ∙ ap (λ y. y ∷ drop (i + 1) xs) (sym c.item-item.is) in
    let here = part_events P (a_schema (step_of c.branch-step.result)) (data_of x) in
    let rest = item_events P j (suc i) (items_of (drop (i + 1) xs)) in
    let events : item_events P j i (items_of (drop i xs)) ≡ here ++ rest =
    ap (λ ys. item_events P j i (items_of ys)) split ∙ ap (λ s. part_events P (a_schema s) (data_of x) ++ rest) (sym step) in
    let whole : items_of xs ≡ c.args.items.now = ap items_of c.deref-item-items.ensures.value ∙ c.items.view_is in
    let p = err_from_is_err_and c.from_residual.result c.from_residual.ensures.1 in
    rw (p.1, p.2, ← whole) (along_refused at.limits _ _ _ _ here rest _ _ events c.in_err-list_part.ensures.refused c.loop-i.invariant)

pub returns : goal.list_branches-returns
returns t c =
    let at = c.args.position.now in
    let j = junctor_of c.args.junctor in
    let whole : items_of c.deref-item-items.result.now ≡ c.args.items.now = ap items_of c.deref-item-items.ensures.value ∙ c.items.view_is in
    let nothing = at_drop_all (λ ys. item_events (place_of at.place.now) j c.loop-i.i (items_of ys)) _ _ c.loop-i-test.false in
    rw (← whole) (along_all at.limits _ _ _ _ _ nothing c.loop-i.invariant)
