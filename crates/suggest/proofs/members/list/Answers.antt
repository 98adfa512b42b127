use Rattle.std.proofs.Common.{◌∙◌, ◌++◌, ◌∷◌, [], sym, ap, subst, arith}
use Rattle.std.proofs.lemmas.List.{map_more, map_push, take_all}
use Rattle.jtree.specs.Data.{IsTree}
use Rattle.jtree.specs.Data as trees
use Rattle.jtree.specs.View.{data_of}
use Rattle.suggest.specs.View.{trees_of}
use Rattle.suggest.specs.Suggested.Document.{items_of}
use Rattle.suggest.proofs.DocumentLemmas.{items_are, one_tree_more}
use Rattle.suggest.proofs.members.list.Goals as goal

pub loop-tree-preserved : goal.loop-tree-preserved
loop-tree-preserved c =
    let xs = c.args.trees.now in
    let i = c.loop-tree.tree-index in
    let x = c.tree-item.result in
    let new = c.in_ok-try_clone.field-0 in
    let inv = c.loop-tree.invariant in
    let read = c.in_ok-try_clone.ensures ∙ c.tree-item.is in
    record {
      trees = rw c.in_ok-push.ensures.items (one_tree_more c.loop-tree.items.items new inv.trees (subst (λ t. IsTree (data_of t)) (sym c.in_ok-try_clone.ensures) c.reveal_invariant.ensures));
      are = ap trees_of c.in_ok-push.ensures.items ∙ (map_push data_of c.loop-tree.items.items new ∙ ((λ j. inv.are j ++ data_of (read j) ∷ []) ∙ sym (map_more data_of xs i x (omega arith))));
    }

pub returns : goal.returns
returns c =
    let xs = c.args.trees.now in
    let i = c.loop-tree.tree-index in
    ap (λ ds. trees.list ds) (items_are c.loop-tree.items.items ∙ ap items_of (c.loop-tree.invariant.are ∙ ap trees_of (take_all i xs (omega arith))))
