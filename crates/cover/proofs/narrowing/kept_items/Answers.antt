use Rattle.std.proofs.Common.{◌≡◌, ◌+◌, ◌++◌, ◌∷◌, [], ◌∙◌, sym, ap, arith, take, map, option_map}
use Rattle.std.proofs.lemmas.List.{take_more, take_all}
use Rattle.jtree.specs.View.{data_of}
use Rattle.cover.specs.There.{is_there}
use Rattle.cover.specs.Internal.Narrowed.{kept_of, as_items}
use Rattle.cover.specs.Internal.Ways.{path_of}
use Rattle.cover.proofs.KeptLemmas.{items_are, kept_one, kept_none, trees_one}
use Rattle.cover.proofs.narrowing.kept_items.Goals as goal
use Rattle.cover.proofs.narrowing.kept_items.Goals.{then-is_there+in_ok-try_clone+in_ok-push, else-is_there}

pub loop-tree-preserved : goal.loop-tree-preserved
loop-tree-preserved c =
    let xs = c.args.trees.now in
    let i = c.loop-tree.tree-index in
    let x = c.tree-item.result in
    let test = is_there (option_map (λ w. data_of w.now) c.args.value) (path_of c.args.steps.now) in
    let step : take (i + 1) xs ≡ take i xs ++ x ∷ [] = take_more xs i x c.loop-tree-test.true ∙ ap (λ y. take i xs ++ y ∷ []) (sym c.tree-item.is) in
    let inv = c.loop-tree.invariant in
    elim c.if-is_there.branch [
      | then-is_there+in_ok-try_clone+in_ok-push w ↦
          let pushed : c.if-is_there.kept.items ≡ c.loop-tree.kept.items ++ x ∷ [] = ap (λ v. v.items) w.kept-is ∙ (w.in_ok-push.ensures.items ∙ ap (λ y. c.loop-tree.kept.items ++ y ∷ []) w.in_ok-try_clone.ensures) in
          rw (pushed, step) (record { kept = kept_one test (take i xs) x c.loop-tree.kept.items inv.kept (sym c.is_there.ensures ∙ w.if-is_there.true); trees = trees_one c.loop-tree.kept.items x inv.trees c.reveal_invariant.ensures })
      | else-is_there w ↦
          let kept : c.if-is_there.kept.items ≡ c.loop-tree.kept.items = ap (λ v. v.items) w.kept-is in
          rw (kept, step) (record { kept = kept_none test (take i xs) x c.loop-tree.kept.items inv.kept (sym c.is_there.ensures ∙ w.if-is_there.false); trees = inv.trees })
    ]

pub invariant_of-result : goal.invariant_of-result
invariant_of-result c = c.loop-tree.invariant.trees

pub returns : goal.returns
returns c =
    let xs = c.args.trees.now in
    let i = c.loop-tree.tree-index in
    let all : take i xs ≡ xs = take_all i xs (omega arith) in
    items_are c.loop-tree.kept.items ∙ ap as_items (c.loop-tree.invariant.kept ∙ ap (λ ys. kept_of (is_there (option_map (λ w. data_of w.now) c.args.value) (path_of c.args.steps.now)) (map (λ t. data_of t) ys)) all)
