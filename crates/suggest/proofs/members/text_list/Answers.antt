use Rattle.std.proofs.Common.{◌∙◌, ◌++◌, ◌∷◌, [], map, sym, ap, arith}
use Rattle.std.proofs.lemmas.List.{map_more, map_push, take_all}
use Rattle.jtree.specs.Data as trees
use Rattle.jtree.specs.View.{data_of}
use Rattle.jtree.specs.declared.value.Tree.TheVariants as tree
use Rattle.suggest.specs.View.{trees_of}
use Rattle.suggest.specs.Suggested.Document.{items_of}
use Rattle.suggest.proofs.DocumentLemmas.{items_are, one_tree_more}
use Rattle.suggest.proofs.members.text_list.Goals as goal

pub loop-text-preserved : goal.loop-text-preserved
loop-text-preserved c =
    let xs = c.args.texts.now in
    let i = c.loop-text.text-index in
    let x = c.text-item.result in
    let new = tree.Text c.in_ok-copy.field-0 in
    let inv = c.loop-text.invariant in
    let read = c.in_ok-copy.ensures ∙ c.text-item.is in
    record {
      trees = rw c.in_ok-push.ensures.items (one_tree_more c.loop-text.items.items new inv.trees tt);
      are = ap trees_of c.in_ok-push.ensures.items ∙ (map_push data_of c.loop-text.items.items new ∙ ((λ j. inv.are j ++ trees.text (read j) ∷ []) ∙ sym (map_more (λ t. trees.text t) xs i x (omega arith))));
    }

pub returns : goal.returns
returns c =
    let xs = c.args.texts.now in
    let i = c.loop-text.text-index in
    ap (λ ds. trees.list ds) (items_are c.loop-text.items.items ∙ ap items_of (c.loop-text.invariant.are ∙ ap (map (λ t. trees.text t)) (take_all i xs (omega arith))))
