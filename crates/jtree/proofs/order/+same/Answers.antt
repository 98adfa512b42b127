use Rattle.std.proofs.Common.{arith, ap, sym, ◌∙◌}
use Rattle.std.proofs.lemmas.Map.Text.{is_eq-slice_cmp}
use Rattle.std.specs.Ordering.{is_eq}
use Rattle.jtree.specs.Internal.OrderLaws.{number_ties}
use Rattle.jtree.specs.View.{data_of, items_of, members_of}
use Rattle.jtree.specs.Order.{tree_cmp, items_cmp, members_cmp}
use Rattle.jtree.proofs.OrderSteps.{items_step, members_step, unlike_items, unlike_members, lists_whole, objects_whole, then_tied, then_first, same_name}
use Rattle.jtree.proofs.order.+same.Goals as goal

pub is_same-returns-in-Number-Number : goal.is_same-returns-in-Number-Number
is_same-returns-in-Number-Number t c = rw (c.in-Number-Number.is-0, c.in-Number-Number.is-1)
    (c.eq.ensures ∙ sym (number_ties c.in-Number-Number.a c.in-Number-Number.b))

pub is_same-returns-in-Text-Text : goal.is_same-returns-in-Text-Text
is_same-returns-in-Text-Text t c = rw (c.in-Text-Text.is-0, c.in-Text-Text.is-1)
    (c.eq-in-Text-Text.ensures ∙ sym (is_eq-slice_cmp c.in-Text-Text.a c.in-Text-Text.b))

pub is_same-returns-in-List-List : goal.is_same-returns-in-List-List
is_same-returns-in-List-List t c = rw (c.in-List-List.is-0, c.in-List-List.is-1)
    (let left = ap items_of c.deref.ensures.value ∙ c.a.view_is in
    let right = ap items_of c.deref-in-List-List.ensures.value ∙ c.b.view_is in
    c.are_same_items.ensures ∙ ap (λ ds. is_eq (items_cmp ds (items_of c.deref-in-List-List.result.now))) left
    ∙ ap (λ ds. is_eq (items_cmp c.in-List-List.a ds)) right ∙ lists_whole c.in-List-List.a c.in-List-List.b)

pub is_same-returns-in-Object-Object : goal.is_same-returns-in-Object-Object
is_same-returns-in-Object-Object t c = rw (c.in-Object-Object.is-0, c.in-Object-Object.is-1)
    (let left = ap members_of c.deref-in-Object-Object.ensures.value ∙ c.a-in-Object-Object.view_is in
    let right = ap members_of c.deref-in-Object-Object-2.ensures.value ∙ c.b-in-Object-Object.view_is in
    c.are_same_members.ensures ∙ ap (λ ms. is_eq (members_cmp ms (members_of c.deref-in-Object-Object-2.result.now))) left
    ∙ ap (λ ms. is_eq (members_cmp c.in-Object-Object.a ms)) right ∙ objects_whole c.in-Object-Object.a c.in-Object-Object.b)

pub are_same_items-returns-then-left-right : goal.are_same_items-returns-then-left-right
are_same_items-returns-then-left-right t c = unlike_items c.args.left.now c.args.right.now c.if-left-right.true

pub are_same_members-returns-then-left-right : goal.are_same_members-returns-then-left-right
are_same_members-returns-then-left-right t c = unlike_members c.args.left.now c.args.right.now c.if-left-right.true

pub are_same_items-loop-i-preserved : goal.are_same_items-loop-i-preserved
are_same_items-loop-i-preserved t c =
    let s = items_step c.args.left.now c.args.right.now c.loop-i.i c.index-left-i.result c.index-right-i.result
    (omega arith) (omega arith) c.index-left-i.is c.index-right-i.is in
    sym (ap is_eq s ∙ then_tied _ _ c.if-not-is_same.ensures) ∙ c.loop-i.invariant

pub are_same_members-loop-i-preserved : goal.are_same_members-loop-i-preserved
are_same_members-loop-i-preserved t c =
    let s = members_step c.args.left.now c.args.right.now c.loop-i.i c.index-left-i.result c.index-right-i.result
    (omega arith) (omega arith) c.index-left-i.is c.index-right-i.is in
    sym (ap is_eq s ∙ then_tied _ _ c.if-not-is_same_member.ensures) ∙ c.loop-i.invariant

pub is_same_member-returns-then-eq : goal.is_same_member-returns-then-eq
is_same_member-returns-then-eq t c =
    let p = c.if-eq.ensures ∙ same_name c.args.left.now.name c.args.right.now.name in
    c.is_same.ensures ∙ sym (then_tied _ (tree_cmp (data_of c.args.left.now.tree) (data_of c.args.right.now.tree)) p)

pub is_same_member-returns-else-eq : goal.is_same_member-returns-else-eq
is_same_member-returns-else-eq t c =
    let p = c.if-eq.ensures ∙ same_name c.args.left.now.name c.args.right.now.name in
    c.if-eq.false ∙ then_first _ _ p

pub are_same_items-returns-then-not-is_same : goal.are_same_items-returns-then-not-is_same
are_same_items-returns-then-not-is_same t c =
    let s = items_step c.args.left.now c.args.right.now c.loop-i.i c.index-left-i.result c.index-right-i.result
    (omega arith) (omega arith) c.index-left-i.is c.index-right-i.is in
    then_first _ _ c.if-not-is_same.ensures ∙ ap is_eq (sym s) ∙ c.loop-i.invariant

pub are_same_members-returns-then-not-is_same_member : goal.are_same_members-returns-then-not-is_same_member
are_same_members-returns-then-not-is_same_member t c =
    let s = members_step c.args.left.now c.args.right.now c.loop-i.i c.index-left-i.result c.index-right-i.result
    (omega arith) (omega arith) c.index-left-i.is c.index-right-i.is in
    then_first _ _ c.if-not-is_same_member.ensures ∙ ap is_eq (sym s) ∙ c.loop-i.invariant
