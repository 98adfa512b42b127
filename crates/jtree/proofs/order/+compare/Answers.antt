use Rattle.std.proofs.Common.{◌≡◌, arith, ◌∙◌, ap, sym, drop, min}
use Rattle.std.proofs.lemmas.Grind.{common_steps}
use Rattle.std.proofs.lemmas.List.{take_rest}
use Rattle.std.specs.Ordering.{ordering_then}
use Rattle.jtree.specs.Nodes.{items_count, members_count, most_nodes}
use Rattle.jtree.specs.View.{data_of, items_of, members_of}
use Rattle.jtree.specs.Order.{text_cmp, tree_cmp}
use Rattle.jtree.proofs.OrderSteps.{then_assoc, order_goes_on, count_ends, items_step, members_step, items_end, members_end}
use Rattle.jtree.proofs.order.+compare.Goals as goal

pub compare_items-loop-i-preserved : goal.compare_items-loop-i-preserved
compare_items-loop-i-preserved t c = record {
  left = grind (arith, common_steps);
  right = grind (arith, common_steps);
  order =
      let x = c.index-left-i.result in
      let y = c.index-right-i.result in
      let both = items_step c.args.left.now c.args.right.now c.loop-i.i x y (omega arith) (omega arith) c.index-left-i.is c.index-right-i.is in
      let next = c.then-found.ensures.order ∙ ap (ordering_then c.loop-i.found.order) c.compare.ensures.order in
      order_goes_on c.loop-i.found.order (tree_cmp (data_of x) (data_of y)) _ _ _ _ next both c.loop-i.invariant.order;
}

pub compare_members-loop-i-preserved : goal.compare_members-loop-i-preserved
compare_members-loop-i-preserved t c = record {
  left = grind (arith, common_steps);
  right = grind (arith, common_steps);
  order =
      let found = c.loop-i.found.order in
      let x = c.index-left-i.result in
      let y = c.index-right-i.result in
      let names = text_cmp y.name x.name in
      let trees = tree_cmp (data_of x.tree) (data_of y.tree) in
      let both = members_step c.args.left.now c.args.right.now c.loop-i.i x y (omega arith) (omega arith) c.index-left-i.is c.index-right-i.is in
      let named = c.then-found.ensures ∙ ap (ordering_then found) c.cmp.ensures in
      let next = c.then-found-in-loop-i.ensures.order ∙ ap (λ o. ordering_then o c.compare.result.order) named
      ∙ ap (ordering_then (ordering_then found names)) c.compare.ensures.order ∙ then_assoc found names trees in
      order_goes_on found (ordering_then names trees) _ _ _ _ next both c.loop-i.invariant.order;
}

pub compare_items-returns : goal.compare_items-returns
compare_items-returns t c =
    let xs = c.args.left.now in
    let ys = c.args.right.now in
    let found = c.loop-i.found in
    let ended : c.min-both.result ≡ c.loop-i.i = omega arith in
    let left = c.items_nodes.ensures ∙ ap (λ zs. min (items_count (items_of zs)) most_nodes) (take_rest xs c.min-both.result ∙ ap (λ n. drop n xs) ended) in
    let right = c.items_nodes-2.ensures ∙ ap (λ zs. min (items_count (items_of zs)) most_nodes) (take_rest ys c.min-both.result ∙ ap (λ n. drop n ys) ended) in
    let order = c.cmp.ensures ∙ items_end xs ys c.loop-i.i (sym ended ∙ c.min-both.ensures) in
    record {
      left = c.then.ensures.left ∙ count_ends found.left _ _ most_nodes _ left c.loop-i.invariant.left;
      right = c.then.ensures.right ∙ count_ends found.right _ _ most_nodes _ right c.loop-i.invariant.right;
      order = c.then.ensures.order ∙ ap (ordering_then found.order) order ∙ c.loop-i.invariant.order;
    }

pub compare_members-returns : goal.compare_members-returns
compare_members-returns t c =
    let xs = c.args.left.now in
    let ys = c.args.right.now in
    let found = c.loop-i.found in
    let ended : c.min-both.result ≡ c.loop-i.i = omega arith in
    let left = c.members_nodes.ensures ∙ ap (λ zs. min (members_count (members_of zs)) most_nodes) (take_rest xs c.min-both.result ∙ ap (λ n. drop n xs) ended) in
    let right = c.members_nodes-2.ensures ∙ ap (λ zs. min (members_count (members_of zs)) most_nodes) (take_rest ys c.min-both.result ∙ ap (λ n. drop n ys) ended) in
    let order = c.cmp-shorter_first.ensures ∙ members_end xs ys c.loop-i.i (sym ended ∙ c.min-both.ensures) in
    record {
      left = c.then.ensures.left ∙ count_ends found.left _ _ most_nodes _ left c.loop-i.invariant.left;
      right = c.then.ensures.right ∙ count_ends found.right _ _ most_nodes _ right c.loop-i.invariant.right;
      order = c.then.ensures.order ∙ ap (ordering_then found.order) order ∙ c.loop-i.invariant.order;
    }
