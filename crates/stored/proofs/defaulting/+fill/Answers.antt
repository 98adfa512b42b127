use Rattle.std.proofs.Common.{◌∷◌, ◌++◌, ◌+◌, drop, ap, sym, ◌∙◌, subst}
use Rattle.std.proofs.lemmas.List.{at_drop_more, at_drop_all}
use Rattle.stored.specs.Internal.Defaulting.{IsPassed}
use Rattle.schema.specs.Nodes.View.{node_of}
use Rattle.schema.specs.declared.node.ListNode.{ListNode}
use Rattle.schema.specs.declared.node.MapNode.{MapNode}
use Rattle.std.proofs.lemmas.Result.{IfOk-weaker}
use Rattle.stored.specs.Internal.Defaulting.{AreFilledItems, AreFilledValues}
use Rattle.stored.proofs.FilledParts.{whole_filled, whole_tree, whole_list, whole_object, items_filled, fields_filled, values_filled}
use Rattle.stored.proofs.FilledWalks.{no_more, items_more, items_end, values_more, values_end, fields_more, fields_end}
use Rattle.stored.proofs.defaulting.+fill.Goals as goal

pub fill-returns-in_default : goal.fill-returns-in_default
fill-returns-in_default t c = whole_filled (node_of c.args.node.now) _ (whole_tree (node_of c.args.node.now) c.args.tree c.in_default.not-List c.in_default.not-Object)

pub fill_list-returns-in_default : goal.fill_list-returns-in_default
fill_list-returns-in_default t c = whole_filled (node_of c.args.node.now) _ (whole_list c.args.node.now.nullable c.args.node.now.description c.args.node.now.sort c.args.items c.in_default.not-List)

pub fill_object-returns-in_default : goal.fill_object-returns-in_default
fill_object-returns-in_default t c = whole_filled (node_of c.args.node.now) _ (whole_object c.args.node.now.nullable c.args.node.now.description c.args.node.now.sort c.args.members c.in_default.not-Object c.in_default.not-Map)

pub fill_items-loop-item-preserved : goal.fill_items-loop-item-preserved
fill_items-loop-item-preserved t c =
    items_more (node_of c.args.node.now) c.args.items c.in-Some.item c.in_ok-tree.tree _ _ c.loop-item.filled.items _ c.in-Some.ensures.steps.0 c.in_ok-push.ensures.items c.reveal_invariant.ensures c.in_ok-tree.ensures c.loop-item.invariant

pub fill_items-returns : goal.fill_items-returns
fill_items-returns t c =
    items_end (node_of c.args.node.now) c.args.items _ c.loop-item.filled.items (no_more _ _ c.loop-item.item-iterator.rest.ok.0 c.in-None.ensures.steps.0) c.loop-item.invariant

pub fill_items-invariant_of-result : goal.fill_items-invariant_of-result
fill_items-invariant_of-result t c =
    (items_end (node_of c.args.node.now) c.args.items _ c.loop-item.filled.items (no_more _ _ c.loop-item.item-iterator.rest.ok.0 c.in-None.ensures.steps.0) c.loop-item.invariant).trees

pub fill_values-returns : goal.fill_values-returns
fill_values-returns t c =
    values_end (node_of c.args.node.now) c.args.members _ c.loop-member.filled.items (no_more _ _ c.loop-member.member-iterator.rest.ok.0 c.in-None.ensures.steps.0) c.loop-member.invariant

pub fill_values-invariant_of-result : goal.fill_values-invariant_of-result
fill_values-invariant_of-result t c =
    (values_end (node_of c.args.node.now) c.args.members _ c.loop-member.filled.items (no_more _ _ c.loop-member.member-iterator.rest.ok.0 c.in-None.ensures.steps.0) c.loop-member.invariant).sorted

pub fill_fields-returns : goal.fill_fields-returns
fill_fields-returns t c =
    let e = c.in_ok-append.ensures.items ∙ ap (λ xs. c.loop-field.filled.items ++ xs) c.into_vec.ensures.items in
    fields_end c.args.fields.now c.args.members _ c.loop-field.rest.items c.loop-field.filled.items _ (at_drop_all (λ xs. xs) c.deref-field-items.result.now c.loop-field.field-index c.loop-field-test.false) e c.loop-field.invariant

pub fill_fields-invariant_of-result : goal.fill_fields-invariant_of-result
fill_fields-invariant_of-result t c =
    let e = c.in_ok-append.ensures.items ∙ ap (λ xs. c.loop-field.filled.items ++ xs) c.into_vec.ensures.items in
    (fields_end c.args.fields.now c.args.members _ c.loop-field.rest.items c.loop-field.filled.items _ (at_drop_all (λ xs. xs) c.deref-field-items.result.now c.loop-field.field-index c.loop-field-test.false) e c.loop-field.invariant).sorted

pub fill_list-returns-in-List : goal.fill_list-returns-in-List
fill_list-returns-in-List t c =
    let N = c.args.node.now in
    let below = ap node_of c.deref.ensures ∙ ap (λ (n : ListNode). n.item) c.list.view_is in
    IfOk-weaker c.fill_items.result _ _
    (λ es f. rw c.in-List.is (items_filled N.nullable N.description c.in-List.list c.args.items es (subst (λ M. AreFilledItems M c.args.items es) below f))) c.fill_items.ensures

pub fill_object-returns-in-Object : goal.fill_object-returns-in-Object
fill_object-returns-in-Object t c =
    let N = c.args.node.now in
    IfOk-weaker c.fill_fields.result _ _ (λ ns f. rw c.in-Object.is (fields_filled N.nullable N.description c.in-Object.object c.args.members ns f)) c.fill_fields.ensures

pub fill_object-returns-in-Map : goal.fill_object-returns-in-Map
fill_object-returns-in-Map t c =
    let N = c.args.node.now in
    let below = ap node_of c.deref.ensures ∙ ap (λ (n : MapNode). n.value) c.map.view_is in
    IfOk-weaker c.fill_values.result _ _
    (λ ns f. rw c.in-Map.is (values_filled N.nullable N.description c.in-Map.map c.args.members ns (subst (λ M. AreFilledValues M c.args.members ns) below f))) c.fill_values.ensures

pub fill_values-loop-member-preserved : goal.fill_values-loop-member-preserved
fill_values-loop-member-preserved t c =
    values_more (node_of c.args.node.now) c.args.members c.in-Some.member _ _ c.loop-member.filled.items _ _ c.in-Some.ensures.steps.0 c.in_ok-push_some.ensures c.in_ok-fill_value.ensures c.loop-member.invariant

pub fill_fields-loop-field-preserved : goal.fill_fields-loop-field-preserved
fill_fields-loop-field-preserved t c =
    let i = c.loop-field.field-index in
    let fields = c.deref-field-items.result.now in
    let next = at_drop_more (λ xs. xs) fields i c.field-item.result c.loop-field-test.true ∙ ap (λ f. f ∷ drop (i + 1) fields) (sym c.field-item.is) in
    fields_more c.args.fields.now c.args.members c.field-item.result (drop (i + 1) fields) (drop i fields) _ _ c.loop-field.filled.items _ _ _ _ next
    (subst (λ k. IsPassed k c.loop-field.rest.items c.pass_to.new.members.items c.loop-field.filled.items c.pass_to.new.passed.items c.in_ok-found.found) c.as_str.ensures c.in_ok-found.ensures)
    c.in_ok-fill_field.ensures c.in_ok-push_some.ensures c.loop-field.invariant

pub fill_default-returns : goal.fill_default-returns
fill_default-returns t c =
    rw c.in-Some.is record { becomes = rw (← c.in_ok-try_clone.ensures) c.in_ok-tree.ensures; member = (c.in_ok-name.ensures, c.reveal_invariant.ensures) }
