use Rattle.std.proofs.Common.{◌≡◌, ◌+◌, [], ◌∷◌, ◌++◌, take, drop, Some, Err, option_and_then, sym, ap, subst, ◌∙◌, arith}
use Rattle.std.proofs.lemmas.List.{take_more}
use Rattle.std.proofs.lemmas.Result.{err_from_is_err_and}
use Rattle.json.specs.Tree.{ItemsHaveNumbers, MembersHaveNumbers}
use Rattle.json.specs.Value.{items_view, members_view}
use Rattle.jtree.proofs.Reading.{AreTrees-push}
use Rattle.jtree.proofs.ReadingAll.{item_numbers, member_numbers, one_more_item, no_items_tree, members_step}
use Rattle.jtree.specs.Data.{AreMembers}
use Rattle.jtree.specs.MemberPlace.{with_member}
use Rattle.jtree.specs.ReadsAll.{members_in}
use Rattle.jtree.specs.Internal.Entries.{members_of_entries}
use Rattle.jtree.specs.Internal.MemberLaws.{changed_sorted}
use Rattle.jtree.specs.View.{data_of}
use Rattle.jtree.specs.declared.fault.JFault.TheVariants.{NotJson}
use Rattle.jtree.proofs.read_all.+read.Goals as goal

pub read_items-returns-in_err-tree-clause-not_json : goal.read_items-returns-in_err-tree-clause-not_json
read_items-returns-in_err-tree-clause-not_json t c h numbers =
    let vs = c.deref-value-items.result.now in
    let i = c.loop-value.value-index in
    let p = err_from_is_err_and c.from_residual-in_err-tree.result c.from_residual-in_err-tree.ensures.1 in
    let fault : c.in_err-tree.field-0.0 ≡ NotJson = cc (p.1, p.2, h) in
    let here = item_numbers vs i c.value-item.result c.loop-value-test.true c.value-item.is
    (subst (λ us. ItemsHaveNumbers (items_view us)) (sym c.deref-value-items.ensures.value) numbers) in
    rw (← c.deref-value-items.ensures.value)
    (no_items_tree vs i c.value-item.result c.loop-value-test.true
    (rw (← c.value-item.is) (c.in_err-tree.ensures.not_json (ap Err fault) here)))

pub read_members-returns-in_err-tree-clause-not_json : goal.read_members-returns-in_err-tree-clause-not_json
read_members-returns-in_err-tree-clause-not_json t c h numbers =
    let ps = c.deref-name-items.result.now in
    let i = c.loop-name.name-index in
    let q = c.loop-name-item.result in
    let p = err_from_is_err_and c.from_residual.result c.from_residual.ensures.1 in
    let fault : c.in_err-tree.field-0.0 ≡ NotJson = cc (p.1, p.2, h) in
    let here = member_numbers ps i q c.loop-name-test.true c.loop-name-item.is
    (subst (λ us. MembersHaveNumbers (members_view us)) (sym c.deref-name-items.ensures.value) numbers) in
    let found = members_of_entries c.loop-name.map.entries in
    let none = ap (option_and_then (λ d. members_in (members_view (drop (i + 1) ps)) (with_member q.0.now d found))) (c.in_err-tree.ensures.not_json (ap Err fault) here) in
    rw (← c.deref-name-items.ensures.value)
    (sym c.loop-name.invariant.read ∙ members_step ps i q c.loop-name-test.true c.loop-name-item.is found ∙ none)

pub read_members-loop-name-preserved : goal.read_members-loop-name-preserved
read_members-loop-name-preserved t c =
    let ps = c.deref-name-items.result.now in
    let i = c.loop-name.name-index in
    let q = c.loop-name-item.result in
    let found = members_of_entries c.loop-name.map.entries in
    let tree = c.in_ok-tree.tree in
    let step = members_step ps i q c.loop-name-test.true c.loop-name-item.is found
    ∙ ap (option_and_then (λ d. members_in (members_view (drop (i + 1) ps)) (with_member q.0.now d found))) c.in_ok-tree.ensures.ok in
    let new : members_of_entries c.put_entry.new.map.entries ≡ with_member q.0.now (data_of tree) found = c.in_ok-put_entry.ensures ∙ ap (λ k. with_member k (data_of tree) found) c.in_ok-name.ensures in
    record {
      read = ap (members_in (members_view (drop (i + 1) ps))) new ∙ (sym step ∙ c.loop-name.invariant.read);
      trees = subst AreMembers (sym new) (changed_sorted q.0.now (Some (data_of tree)) found c.reveal_invariant.ensures c.loop-name.invariant.trees);
    }

pub read_items-loop-value-preserved : goal.read_items-loop-value-preserved
read_items-loop-value-preserved t c =
    let l = c.loop-value in
    let vs = c.deref-value-items.result.now in
    let v = c.value-item.result in
    let one : take (l.value-index + 1) vs ≡ take l.value-index vs ++ v ∷ [] = take_more vs l.value-index v c.loop-value-test.true ∙ ap (λ w. take l.value-index vs ++ w ∷ []) (sym c.value-item.is) in
    record {
      read = rw (one, c.push_reserved.ensures.items) (one_more_item (take l.value-index vs) v l.items.items c.in_ok-tree.tree l.invariant.read c.in_ok-tree.ensures.ok);
      trees = rw c.push_reserved.ensures.items (AreTrees-push l.items.items c.in_ok-tree.tree l.invariant.trees c.reveal_invariant.ensures);
      count = omega (arith, c.push_reserved.ensures.len, l.invariant.count);
      room = omega (arith, c.push_reserved.ensures.capacity, l.invariant.room);
    }
