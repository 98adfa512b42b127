use Rattle.std.proofs.Common.{◌∙◌, ◌++◌, ℕ, List, Some, option_map, sym, ap, subst, append-nil, arith}
use Rattle.std.specs.Option.{option_to_list}
use Rattle.jtree.specs.Data.{AreTrees, AreMembers}
use Rattle.jtree.specs.View.{data_of, items_of, members_of}
use Rattle.schema.specs.Nodes.View.{node_of}
use Rattle.suggest.specs.View.{texts_at}
use Rattle.suggest.specs.Internal.Parts.{place_at}
use Rattle.suggest.specs.Suggested.Without.{place_of_field, members_left, items_left}
use Rattle.suggest.proofs.WithoutLemmas.{members_more, members_done, items_more, items_done, sorted_left, trees_left}
use Rattle.suggest.proofs.without.+without.Goals as goal
use Rattle.suggest.proofs.without.+without.Goals.{items_without-in-Some+in_ok-push, items_without-in_default}

-- ---- members of an object

pub fields_without-loop-member-preserved : goal.fields_without-loop-member-preserved
fields_without-loop-member-preserved t c =
    members_more (texts_at c.args.without.now) (place_of_field c.args.path.now c.args.fields.now) c.deref-member-items.result.now c.loop-member.copies.items _ c.loop-member.member-index c.member-item.result
    (option_map (λ d. data_of d) c.in_ok-tree.tree) _ (omega arith) c.member-item.is c.in_ok-tree.ensures c.in_ok-push_member.ensures c.loop-member.invariant

pub fields_without-invariant_of-result : goal.fields_without-invariant_of-result
fields_without-invariant_of-result t c =
    let ts = texts_at c.args.without.now in
    let places = place_of_field c.args.path.now c.args.fields.now in
    let is = members_done ts places c.deref-member-items.result.now c.loop-member.copies.items c.loop-member.member-index _ c.loop-member-test.false c.loop-member.invariant in
    subst AreMembers (sym (is ∙ ap (λ xs. members_left ts places (members_of xs)) c.deref-member-items.ensures.value)) (sorted_left ts places _ c.members.invariant)

pub fields_without-returns : goal.fields_without-returns
fields_without-returns t c =
    let ts = texts_at c.args.without.now in
    let places = place_of_field c.args.path.now c.args.fields.now in
    let is = members_done ts places c.deref-member-items.result.now c.loop-member.copies.items c.loop-member.member-index _ c.loop-member-test.false c.loop-member.invariant in
    is ∙ ap (members_left ts places) (ap members_of c.deref-member-items.ensures.value ∙ c.members.view_is)

-- ---- members of a map

pub values_without-loop-member-preserved : goal.values_without-loop-member-preserved
values_without-loop-member-preserved t c =
    members_more (texts_at c.args.without.now) (λ k. Some (place_at c.args.path.now (node_of c.args.node.now))) c.deref-member-items.result.now c.loop-member.copies.items _ c.loop-member.member-index c.member-item.result
    (option_map (λ d. data_of d) c.in_ok-tree.tree) _ (omega arith) c.member-item.is c.in_ok-tree.ensures c.in_ok-push_member.ensures c.loop-member.invariant

pub values_without-invariant_of-result : goal.values_without-invariant_of-result
values_without-invariant_of-result t c =
    let ts = texts_at c.args.without.now in
    let places = λ (k : List ℕ). Some (place_at c.args.path.now (node_of c.args.node.now)) in
    let is = members_done ts places c.deref-member-items.result.now c.loop-member.copies.items c.loop-member.member-index _ c.loop-member-test.false c.loop-member.invariant in
    subst AreMembers (sym (is ∙ ap (λ xs. members_left ts places (members_of xs)) c.deref-member-items.ensures.value)) (sorted_left ts places _ c.members.invariant)

pub values_without-returns : goal.values_without-returns
values_without-returns t c =
    let ts = texts_at c.args.without.now in
    let places = λ (k : List ℕ). Some (place_at c.args.path.now (node_of c.args.node.now)) in
    let is = members_done ts places c.deref-member-items.result.now c.loop-member.copies.items c.loop-member.member-index _ c.loop-member-test.false c.loop-member.invariant in
    is ∙ ap (members_left ts places) (ap members_of c.deref-member-items.ensures.value ∙ c.members.view_is)

-- ---- items of a list

pub items_without-loop-item-preserved : goal.items_without-loop-item-preserved
items_without-loop-item-preserved t c =
    let P = place_at c.args.path.now (node_of c.args.node.now) in
    let old = c.loop-item.copies.items in
    elim c.match-branch-2.branch [
      | items_without-in-Some+in_ok-push w ↦
          items_more (texts_at c.args.without.now) P c.deref-item-items.result.now old _ c.loop-item.item-index c.item-item.result c.in_ok-tree.field-0 _ (omega arith) c.item-item.is c.in_ok-tree.ensures
          (ap (λ v. v.items) w.copies-is ∙ (w.in_ok-push.ensures.items ∙ ap (λ o. old ++ option_to_list o) (sym w.in-Some.is))) c.loop-item.invariant
      | items_without-in_default w ↦
          items_more (texts_at c.args.without.now) P c.deref-item-items.result.now old _ c.loop-item.item-index c.item-item.result c.in_ok-tree.field-0 _ (omega arith) c.item-item.is c.in_ok-tree.ensures
          (ap (λ v. v.items) w.copies-is ∙ (sym (append-nil old) ∙ ap (λ o. old ++ option_to_list o) (sym w.in_default.is))) c.loop-item.invariant
    ]

pub items_without-invariant_of-result : goal.items_without-invariant_of-result
items_without-invariant_of-result t c =
    let ts = texts_at c.args.without.now in
    let P = place_at c.args.path.now (node_of c.args.node.now) in
    let is = items_done ts P c.deref-item-items.result.now c.loop-item.copies.items c.loop-item.item-index _ c.loop-item-test.false c.loop-item.invariant in
    subst AreTrees (sym (is ∙ ap (λ xs. items_left ts P (items_of xs)) c.deref-item-items.ensures.value)) (trees_left ts P _ c.items.invariant)

pub items_without-returns : goal.items_without-returns
items_without-returns t c =
    let ts = texts_at c.args.without.now in
    let P = place_at c.args.path.now (node_of c.args.node.now) in
    let is = items_done ts P c.deref-item-items.result.now c.loop-item.copies.items c.loop-item.item-index _ c.loop-item-test.false c.loop-item.invariant in
    is ∙ ap (items_left ts P) (ap items_of c.deref-item-items.ensures.value ∙ c.items.view_is)

-- ---- a part

pub part_without-returns : goal.part_without-returns
part_without-returns t c =
    let stays = sym c.is_path_among.ensures ∙ c.if-is_path_among.false in
    rw stays (ap Some c.in_ok-tree_without.ensures)
