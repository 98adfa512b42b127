use Rattle.std.proofs.Common.{◌≡◌, ◌+◌, ◌∷◌, ◌++◌, length, drop, true, ap, sym, ◌∙◌, subst}
use Rattle.std.proofs.lemmas.List.{at_drop_all, drop_more}
use Rattle.std.proofs.lemmas.Result.{err_from_is_err_and}
use Rattle.jtree.specs.Data.{object, AreMembers}
use Rattle.jtree.specs.View.{data_of, members_of}
use Rattle.schema.specs.Internal.Contexts.{HasPart}
use Rattle.schema.specs.Internal.Events.{part_of, keyword_event, part_events, member_events}
use Rattle.schema.specs.Internal.PlaceView.{place_of, part_view}
use Rattle.schema.proofs.ListingLemmas.{along_past, along_more, along_first, along_refused, along_all, same_subschemas}
use Rattle.schema.proofs.ContextLemmas.{part_at_keyword, member_found}
use Rattle.schema.proofs.listing.+listing.Goals as goal

pub loop-member-preserved : goal.list_keywords-loop-member-preserved
loop-member-preserved t c =
    let at = c.args.position.now in
    let xs = c.deref-member-items.result.now in
    let i = c.loop-member.member-index in
    let m = c.member-item.result in
    let P = place_of at.place.now in
    let d = data_of m.tree in
    let k = c.as_str-keyword.result.now in
    let named : k ≡ m.name = c.as_str-keyword.ensures in
    let part : part_view c.part_of.result ≡ part_of m.name = c.part_of.ensures ∙ ap part_of named in
    let here = part_events P (part_view c.part_of.result) d in
    let rest = member_events P true (members_of (drop (i + 1) xs)) in
    let split : drop i xs ≡ m ∷ drop (i + 1) xs = drop_more xs i m c.loop-member-test.true ∙ ap (λ y. y ∷ drop (i + 1) xs) (sym c.member-item.is) in
    let events : member_events P true (members_of (drop i xs)) ≡ keyword_event P k d ++ (here ++ rest) =
    ap (λ ys. member_events P true (members_of ys)) split ∙ (λ j. keyword_event P (sym named j) d ++ (part_events P (sym part j) d ++ rest)) in
    let whole : members_of xs ≡ c.args.members.now = ap members_of c.deref-member-items.ensures.value ∙ c.members.view_is in
    let member = member_found xs (drop (i + 1) xs) i m (subst AreMembers (sym whole) c.reveal_invariant.ensures) split in
    let past = along_past at.limits _ _ _ _ (here ++ rest) _ events (same_subschemas P k d (here ++ rest)) (c.in_ok-check_keyword.ensures.ok (length c.loop-member.subschemas.items) (here ++ rest)) c.loop-member.invariant in
    along_more at.limits _ _ _ _ here rest _ _ (λ j. here ++ rest)
    (λ raw h. (object (members_of xs), h, subst (λ p. HasPart (object (members_of xs)) p d) (sym part) (part_at_keyword (members_of xs) m.name d member)))
    c.in_ok-list_part.ensures past

pub returns-in_err-list_part : goal.list_keywords-returns-in_err-list_part
returns-in_err-list_part t c =
    let at = c.args.position.now in
    let xs = c.deref-member-items.result.now in
    let i = c.loop-member.member-index in
    let m = c.member-item.result in
    let P = place_of at.place.now in
    let d = data_of m.tree in
    let k = c.as_str-keyword.result.now in
    let named : k ≡ m.name = c.as_str-keyword.ensures in
    let part : part_view c.part_of.result ≡ part_of m.name = c.part_of.ensures ∙ ap part_of named in
    let here = part_events P (part_view c.part_of.result) d in
    let rest = member_events P true (members_of (drop (i + 1) xs)) in
    let split : drop i xs ≡ m ∷ drop (i + 1) xs = drop_more xs i m c.loop-member-test.true ∙ ap (λ y. y ∷ drop (i + 1) xs) (sym c.member-item.is) in
    let events : member_events P true (members_of (drop i xs)) ≡ keyword_event P k d ++ (here ++ rest) =
    ap (λ ys. member_events P true (members_of ys)) split ∙ (λ j. keyword_event P (sym named j) d ++ (part_events P (sym part j) d ++ rest)) in
    let whole : members_of xs ≡ c.args.members.now = ap members_of c.deref-member-items.ensures.value ∙ c.members.view_is in
    let past = along_past at.limits _ _ _ _ (here ++ rest) _ events (same_subschemas P k d (here ++ rest)) (c.in_ok-check_keyword.ensures.ok (length c.loop-member.subschemas.items) (here ++ rest)) c.loop-member.invariant in
    let p = err_from_is_err_and c.from_residual-in_err-list_part.result c.from_residual-in_err-list_part.ensures.1 in
    rw (p.1, p.2, ← whole) (along_refused at.limits _ _ _ _ here rest _ _ (λ j. here ++ rest) c.in_err-list_part.ensures.refused past)

pub returns : goal.list_keywords-returns
returns t c =
    let at = c.args.position.now in
    let whole : members_of c.deref-member-items.result.now ≡ c.args.members.now = ap members_of c.deref-member-items.ensures.value ∙ c.members.view_is in
    let nothing = at_drop_all (λ ys. member_events (place_of at.place.now) true (members_of ys)) _ _ c.loop-member-test.false in
    rw (← whole) (along_all at.limits _ _ _ _ _ nothing c.loop-member.invariant)

pub returns-in_err-check_keyword : goal.list_keywords-returns-in_err-check_keyword
returns-in_err-check_keyword t c =
    let at = c.args.position.now in
    let xs = c.deref-member-items.result.now in
    let i = c.loop-member.member-index in
    let m = c.member-item.result in
    let P = place_of at.place.now in
    let d = data_of m.tree in
    let k = c.as_str-keyword.result.now in
    let rest = part_events P (part_of m.name) d ++ member_events P true (members_of (drop (i + 1) xs)) in
    let split : drop i xs ≡ m ∷ drop (i + 1) xs = drop_more xs i m c.loop-member-test.true ∙ ap (λ y. y ∷ drop (i + 1) xs) (sym c.member-item.is) in
    let events : member_events P true (members_of (drop i xs)) ≡ keyword_event P k d ++ rest =
    ap (λ ys. member_events P true (members_of ys)) split ∙ ap (λ k. keyword_event P k d ++ rest) (sym c.as_str-keyword.ensures) in
    let whole : members_of xs ≡ c.args.members.now = ap members_of c.deref-member-items.ensures.value ∙ c.members.view_is in
    let p = err_from_is_err_and c.from_residual.result c.from_residual.ensures.1 in
    rw (p.1, p.2, ← whole) (along_first at.limits _ _ _ _ _ _ _ events (c.in_err-check_keyword.ensures.err (length c.loop-member.subschemas.items) rest) c.loop-member.invariant)
