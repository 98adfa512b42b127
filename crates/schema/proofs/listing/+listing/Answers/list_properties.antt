use Rattle.std.proofs.Common.{◌≡◌, ◌+◌, ◌∷◌, ◌++◌, drop, false, ap, sym, ◌∙◌, subst}
use Rattle.std.proofs.lemmas.List.{at_drop_all, drop_more}
use Rattle.std.proofs.lemmas.Result.{err_from_is_err_and}
use Rattle.jtree.specs.Data.{AreMembers}
use Rattle.jtree.specs.View.{data_of, members_of}
use Rattle.schema.specs.Document.Places.{property}
use Rattle.schema.specs.Internal.Contexts.{HasPart}
use Rattle.schema.specs.Internal.Events.{a_schema, part_events, member_events}
use Rattle.schema.specs.Internal.PlaceView.{place_of}
use Rattle.schema.proofs.ListingLemmas.{along_more, along_refused, along_all}
use Rattle.schema.proofs.ContextLemmas.{property_part, member_found}
use Rattle.schema.proofs.listing.+listing.Goals as goal

pub loop-property-preserved : goal.list_properties-loop-property-preserved
loop-property-preserved t c =
    let at = c.args.position.now in
    let xs = c.deref-property-items.result.now in
    let i = c.loop-property.property-index in
    let m = c.property-item.result in
    let P = place_of at.place.now in
    let d = data_of m.tree in
    let named = c.as_str.ensures in
    let split : drop i xs ≡ m ∷ drop (i + 1) xs = drop_more xs i m c.loop-property-test.true ∙ ap (λ y. y ∷ drop (i + 1) xs) (sym c.property-item.is) in
    let events : member_events P false (members_of (drop i xs)) ≡ part_events P (a_schema (property c.as_str.result.now)) d ++ member_events P false (members_of (drop (i + 1) xs)) =
    ap (λ ys. member_events P false (members_of ys)) split ∙ ap (λ k. part_events P (a_schema (property k)) d ++ member_events P false (members_of (drop (i + 1) xs))) (sym named) in
    let whole : members_of xs ≡ c.args.properties.now = ap members_of c.deref-property-items.ensures.value ∙ c.properties.view_is in
    let member = member_found xs (drop (i + 1) xs) i m (subst AreMembers (sym whole) c.reveal_invariant.ensures) split in
    along_more at.limits _ _ _ _ _ _ _ _ events (λ raw h. (h.0, h.1, subst (λ k. HasPart h.0 (a_schema (property k)) d) (sym named) (property_part h.0 (members_of xs) m.name d h.2 member)))
    c.in_ok-list_part.ensures c.loop-property.invariant

pub returns-in_err-list_part : goal.list_properties-returns-in_err-list_part
returns-in_err-list_part t c =
    let at = c.args.position.now in
    let xs = c.deref-property-items.result.now in
    let i = c.loop-property.property-index in
    let m = c.property-item.result in
    let P = place_of at.place.now in
    let d = data_of m.tree in
    let split : drop i xs ≡ m ∷ drop (i + 1) xs = drop_more xs i m c.loop-property-test.true ∙ ap (λ y. y ∷ drop (i + 1) xs) (sym c.property-item.is) in
    let here = part_events P (a_schema (property c.as_str.result.now)) d in
    let rest = member_events P false (members_of (drop (i + 1) xs)) in
    let events : member_events P false (members_of (drop i xs)) ≡ here ++ rest =
    ap (λ ys. member_events P false (members_of ys)) split ∙ ap (λ k. part_events P (a_schema (property k)) d ++ rest) (sym c.as_str.ensures) in
    let whole : members_of xs ≡ c.args.properties.now = ap members_of c.deref-property-items.ensures.value ∙ c.properties.view_is in
    let p = err_from_is_err_and c.from_residual.result c.from_residual.ensures.1 in
    rw (p.1, p.2, ← whole) (along_refused at.limits _ _ _ _ here rest _ _ events c.in_err-list_part.ensures.refused c.loop-property.invariant)

pub returns : goal.list_properties-returns
returns t c =
    let at = c.args.position.now in
    let whole : members_of c.deref-property-items.result.now ≡ c.args.properties.now = ap members_of c.deref-property-items.ensures.value ∙ c.properties.view_is in
    let nothing = at_drop_all (λ ys. member_events (place_of at.place.now) false (members_of ys)) _ _ c.loop-property-test.false in
    rw (← whole) (along_all at.limits _ _ _ _ _ nothing c.loop-property.invariant)
