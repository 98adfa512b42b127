use Rattle.std.proofs.Common.{◌≡◌, ◌<◌, ◌+◌, suc, ◌∷◌, length, drop, Some, None, ap, sym, ◌∙◌, subst, arith}
use Rattle.std.proofs.lemmas.List.{drop_more}
use Rattle.jtree.specs.Data.{list, object, AreMembers}
use Rattle.jtree.specs.Path.{name, index, item_at, member_at, part_by}
use Rattle.jtree.specs.View.{data_of, items_of, members_of}
use Rattle.schema.specs.Document.Refusal.{form_view}
use Rattle.schema.specs.Internal.Faults.{IsFirstBreak}
use Rattle.schema.specs.Internal.FormBreak.{first_break, items_break, members_break, below, or_else}
use Rattle.schema.specs.Document.Forms.{form_below}
use Rattle.schema.proofs.FormLemmas.{first_of_both, item_there}
use Rattle.schema.proofs.ContextLemmas.{member_found}
use Rattle.schema.proofs.forms.+forms.Goals as goal

pub check_items-loop-i-preserved : goal.check_items-loop-i-preserved
check_items-loop-i-preserved t c =
    let form = form_view c.args.form in
    let xs = c.deref-item-items.result.now in
    let i = c.loop-i.i in
    let x = c.item-item.result in
    let within : i < length xs = omega arith in
    let next : i + 1 ≡ suc i = omega arith in
    let rest = items_of (drop (i + 1) xs) in
    let none : first_break (form_below form (index i)) (data_of x) ≡ None = subst (λ f. first_break f (data_of x) ≡ None) (c.form_of_items-item_form.ensures i) c.in-Ok.ensures.ok in
    let split : drop i xs ≡ x ∷ drop (i + 1) xs = drop_more xs i x within ∙ ap (λ y. y ∷ drop (i + 1) xs) (sym c.item-item.is) in
    ap (λ k. items_break form k rest) next ∙ sym (ap (λ ys. items_break form i (items_of ys)) split ∙ ap (λ o. or_else (below (index i) o) (items_break form (suc i) rest)) none)
    ∙ c.loop-i.invariant

pub check_items-returns-in-Err-clause-err : goal.check_items-returns-in-Err-clause-err
check_items-returns-in-Err-clause-err t c =
    let form = form_view c.args.form in
    let xs = c.deref-item-items.result.now in
    let i = c.loop-i.i in
    let x = c.item-item.result in
    let e = c.below_index.result in
    let within : i < length xs = omega arith in
    let f = form_below form (index i) in
    let rest = items_break form (suc i) (items_of (drop (i + 1) xs)) in
    let split : drop i xs ≡ x ∷ drop (i + 1) xs = drop_more xs i x within ∙ ap (λ y. y ∷ drop (i + 1) xs) (sym c.item-item.is) in
    let whole : items_of xs ≡ c.args.items.now = ap items_of c.deref-item-items.ensures.value ∙ c.items.view_is in
    let there : part_by (list c.args.items.now) (index i) ≡ Some (data_of x) = ap (item_at i) (sym whole) ∙ item_there xs i x (drop (i + 1) xs) split in
    let here = c.below_index.ensures form (list c.args.items.now) (data_of x) (first_break f (data_of x)) there
    (subst (λ g. IsFirstBreak g (data_of x) (first_break g (data_of x)) c.in-Err.misformed) (c.form_of_items-item_form.ensures i) c.in-Err.ensures.err) in
    subst (λ o. IsFirstBreak form (list c.args.items.now) o e) (ap (λ ys. items_break form i (items_of ys)) (sym split) ∙ c.loop-i.invariant ∙ ap (items_break form 0) whole)
    (first_of_both form (list c.args.items.now) _ rest e here)

pub check_members-returns-in-Err-clause-err : goal.check_members-returns-in-Err-clause-err
check_members-returns-in-Err-clause-err t c =
    let form = form_view c.args.form in
    let xs = c.deref-member-items.result.now in
    let i = c.loop-member.member-index in
    let m = c.member-item.result in
    let e = c.below_name.result in
    let within : i < length xs = omega arith in
    let rest = members_break form (members_of (drop (i + 1) xs)) in
    let split : drop i xs ≡ m ∷ drop (i + 1) xs = drop_more xs i m within ∙ ap (λ y. y ∷ drop (i + 1) xs) (sym c.member-item.is) in
    let whole : members_of xs ≡ c.args.members.now = ap members_of c.deref-member-items.ensures.value ∙ c.members.view_is in
    let d = object c.args.members.now in
    let found = member_found xs (drop (i + 1) xs) i m (subst AreMembers (sym whole) c.reveal_invariant.ensures) split in
    let there : part_by d (name m.name) ≡ Some (data_of m.tree) = ap (member_at m.name) (sym whole) ∙ found in
    let here = c.below_name.ensures form d (data_of m.tree) (first_break (form_below form (name m.name)) (data_of m.tree)) (ap (λ k. part_by d (name k)) c.as_str-name.ensures ∙ there)
    (subst (λ k. IsFirstBreak (form_below form (name k)) (data_of m.tree) (first_break (form_below form (name m.name)) (data_of m.tree)) c.in-Err.misformed) (sym c.as_str-name.ensures)
    (subst (λ f. IsFirstBreak f (data_of m.tree) (first_break f (data_of m.tree)) c.in-Err.misformed) (c.form_of_member.ensures ∙ ap (λ k. form_below form (name k)) c.as_str-name.ensures) c.in-Err.ensures.err)) in
    subst (λ o. IsFirstBreak form d o e) (ap (λ ys. members_break form (members_of ys)) (sym split) ∙ c.loop-member.invariant ∙ ap (members_break form) whole)
    (first_of_both form d (below (name m.name) (first_break (form_below form (name m.name)) (data_of m.tree))) rest e
    (subst (λ k. IsFirstBreak form d (below (name k) (first_break (form_below form (name m.name)) (data_of m.tree))) e) c.as_str-name.ensures here))
