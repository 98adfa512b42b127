use Rattle.std.proofs.Common.{◌≡◌, ◌+◌, [], ◌∷◌, ◌++◌, take, Err, sym, ap, ◌∙◌, append_assoc, append-nil, arith}
use Rattle.std.proofs.lemmas.List.{take_more, length-append}
use Rattle.std.proofs.lemmas.Result.{err_from_is_err_and}
use Rattle.serde_json.proofs.Views.{Entry}
use Rattle.jtree.proofs.Reading.{one_more_item, one_more_member, AreTrees-push, HaveTrees-push, no_items_tree, no_members_tree, AreMembers-sorted}
use Rattle.jtree.specs.declared.fault.JFault.TheVariants.{NotAnInteger}
use Rattle.jtree.proofs.read.+read.Goals as goal

pub read_items-returns-in_err-tree-clause-not_an_integer : goal.read_items-returns-in_err-tree-clause-not_an_integer
read_items-returns-in_err-tree-clause-not_an_integer t c h =
    let p = err_from_is_err_and c.from_residual-in_err-tree.result c.from_residual-in_err-tree.ensures.1 in
    let fault : c.in_err-tree.field-0.0 ≡ NotAnInteger = cc (p.1, p.2, h) in
    rw (← c.deref-value-items.ensures.value)
    (no_items_tree c.deref-value-items.result.now c.loop-value.value-index c.value-item.result c.loop-value-test.true
    (rw (← c.value-item.is) (c.in_err-tree.ensures.not_an_integer (ap Err fault))))

pub read_items-loop-value-preserved : goal.read_items-loop-value-preserved
read_items-loop-value-preserved t c =
    let l = c.loop-value in
    let vs = c.deref-value-items.result.now in
    let v = c.value-item.result in
    let one : take (l.value-index + 1) vs ≡ take l.value-index vs ++ v ∷ [] = take_more vs l.value-index v c.loop-value-test.true ∙ ap (λ w. take l.value-index vs ++ w ∷ []) (sym c.value-item.is) in
    record {
      read = rw (one, c.push_reserved.ensures.items) (one_more_item (take l.value-index vs) v l.items.items c.in_ok-tree.tree l.invariant.read c.in_ok-tree.ensures.ok);
      trees = rw c.push_reserved.ensures.items (AreTrees-push l.items.items c.in_ok-tree.tree l.invariant.trees c.reveal_invariant.ensures);
      count = omega (arith, c.push_reserved.ensures.len, l.invariant.count);
      room = omega (arith, c.push_reserved.ensures.capacity, l.invariant.room);
    }

pub read_members-returns-in_err-tree-clause-not_an_integer : goal.read_members-returns-in_err-tree-clause-not_an_integer
read_members-returns-in_err-tree-clause-not_an_integer t c h =
    let l = c.loop-key in
    let done = l.invariant.done in
    let e : Entry = (c.in-Some.key.now, c.in-Some.value.now) in
    let left = c.next.new.self in
    let all : c.args.map.now.entries ≡ done ++ e ∷ left = l.invariant.entries ∙ ap (λ es. done ++ es) c.in-Some.ensures.steps in
    let p = err_from_is_err_and c.from_residual-in_err-tree.result c.from_residual-in_err-tree.ensures.1 in
    let fault : c.in_err-tree.field-0.0 ≡ NotAnInteger = cc (p.1, p.2, h) in
    rw all (no_members_tree done e left (c.in_err-tree.ensures.not_an_integer (ap Err fault)))

pub read_members-loop-key-preserved : goal.read_members-loop-key-preserved
read_members-loop-key-preserved t c =
    let l = c.loop-key in
    let done = l.invariant.done in
    let e : Entry = (c.in-Some.key.now, c.in-Some.value.now) in
    let left = c.next.new.self in
    let all : c.args.map.now.entries ≡ done ++ e ∷ left = l.invariant.entries ∙ ap (λ es. done ++ es) c.in-Some.ensures.steps in
    record {
      done = done ++ e ∷ [];
      entries = all ∙ sym (append_assoc done (e ∷ []) left);
      read = rw c.push_reserved.ensures.items (one_more_member done e l.members.items _ l.invariant.read c.in_ok-tree.ensures.ok (c.in_ok-name.ensures ∙ c.as_str.ensures.value));
      trees = rw c.push_reserved.ensures.items (HaveTrees-push l.members.items _ l.invariant.trees c.reveal_invariant.ensures);
      count = omega (arith, c.push_reserved.ensures.len, l.invariant.count, length-append done (e ∷ []));
      room = omega (arith, c.push_reserved.ensures.capacity, l.invariant.room);
    }

pub read_members-invariant_of-result : goal.read_members-invariant_of-result
read_members-invariant_of-result t c =
    let l = c.loop-key in
    let done = l.invariant.done in
    let all : c.args.map.now.entries ≡ done = l.invariant.entries ∙ ap (λ es. done ++ es) c.in-None.ensures.steps.0 ∙ append-nil done in
    AreMembers-sorted done _ l.invariant.read (rw (← all) c.iter-key-items.ensures.ordered) l.invariant.trees
