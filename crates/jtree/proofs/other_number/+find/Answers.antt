use Rattle.std.proofs.Common.{◌≡◌, ◌+◌, [], ◌∷◌, ◌++◌, take, Some, sym, ap, ◌∙◌, append_assoc, rules}
use Rattle.std.proofs.lemmas.List.{take_more}
use Rattle.serde_json.specs.Data.{number}
use Rattle.serde_json.specs.View.{view, number_view}
use Rattle.serde_json.specs.declared.value.Value.{the_lemmas}
use Rattle.serde_json.proofs.Views.{Entry, get_item_within}
use Rattle.jtree.proofs.OtherNumber.{first_here, first_item, first_member, more_items, more_members}
use Rattle.jtree.proofs.other_number.+find.Goals as goal

pub find_other_number-returns-in-None : goal.find_other_number-returns-in-None
find_other_number-returns-in-None t c =
    let is : view c.args.value.now ≡ number (number_view c.in-Number.number) = ap view c.in-Number.is ∙ search (rules, the_lemmas) in
    rw (c.new.ensures.items, is) (first_here _ (sym c.in-None.ensures))

pub find_in_items-returns-in-Some : goal.find_in_items-returns-in-Some
find_in_items-returns-in-Some t c =
    let vs = c.deref-value-items.result.now in
    let i = c.loop-index.index in
    let v = c.value-item.result in
    let here = sym (get_item_within vs i v c.loop-index-test.true) ∙ ap (λ w. Some (view w)) (sym c.value-item.is) in
    let first = rw c.in-Some.is at c.in_ok-path.ensures in
    rw (c.in_ok-insert.ensures.items, ← c.deref-value-items.ensures.value) (first_item vs i v _ c.loop-index.invariant here first)

pub find_in_items-loop-index-preserved : goal.find_in_items-loop-index-preserved
find_in_items-loop-index-preserved t c =
    let vs = c.deref-value-items.result.now in
    let i = c.loop-index.index in
    let one : take (i + 1) vs ≡ take i vs ++ c.value-item.result ∷ [] = take_more vs i c.value-item.result c.loop-index-test.true ∙ ap (λ w. take i vs ++ w ∷ []) (sym c.value-item.is) in
    rw one (more_items (take i vs) c.value-item.result c.loop-index.invariant (rw c.in_default.is at c.in_ok-path.ensures))

pub find_in_members-returns-in-Some-2 : goal.find_in_members-returns-in-Some-2
find_in_members-returns-in-Some-2 t c =
    let done = c.loop-key.invariant.done in
    let e : Entry = (c.in-Some.key.now, c.in-Some.value.now) in
    let rest = c.next.new.self in
    let all : c.args.map.now.entries ≡ done ++ e ∷ rest = c.loop-key.invariant.entries ∙ ap (λ es. done ++ es) c.in-Some.ensures.steps in
    let first = rw c.in-Some-2.is at c.in_ok-path.ensures in
    let sorted = rw all at c.iter-key-items.ensures.ordered in
    rw (c.in_ok-insert.ensures.items, c.as_str.ensures.value, all) (first_member done e rest _ c.loop-key.invariant.read sorted first)

pub find_in_members-loop-key-preserved : goal.find_in_members-loop-key-preserved
find_in_members-loop-key-preserved t c =
    let done = c.loop-key.invariant.done in
    let e : Entry = (c.in-Some.key.now, c.in-Some.value.now) in
    let rest = c.next.new.self in
    let all : c.args.map.now.entries ≡ done ++ e ∷ rest = c.loop-key.invariant.entries ∙ ap (λ es. done ++ es) c.in-Some.ensures.steps in
    record {
      done = done ++ e ∷ [];
      entries = all ∙ sym (append_assoc done (e ∷ []) rest);
      read = more_members done e c.loop-key.invariant.read (rw c.in_default.is at c.in_ok-path.ensures);
    }
