use Rattle.std.proofs.Common.{◌≡◌, ◌∙◌, ◌++◌, ◌∷◌, [], ◌+◌, sym, ap, take, drop, arith, true, false}
use Rattle.std.specs.Prelude.{filter}
use Rattle.std.proofs.lemmas.List.{at_drop_more, map_push}
use Rattle.jtree.specs.View.{data_of}
use Rattle.schema.specs.Nodes.View.{node_of}
use Rattle.suggest.specs.View.{trees_of}
use Rattle.suggest.specs.Suggested.LeafValues.{takes, few}
use Rattle.suggest.proofs.LeafValueLemmas.{few_taken, few_passed}
use Rattle.suggest.proofs.leaf_values.push_few.Goals as goal
use Rattle.suggest.proofs.leaf_values.push_few.Goals.{then-takes+in_ok-try_clone+in_ok-push, else-takes}

pub loop-value-preserved : goal.loop-value-preserved
loop-value-preserved c =
    let xs = c.args.pool.now in
    let i = c.loop-value.value-index in
    let x = c.value-item.result in
    let T = takes (node_of c.args.node.now) in
    let acc = trees_of c.loop-value.values.items in
    let rest = trees_of (drop (i + 1) xs) in
    let step : trees_of (drop i xs) ≡ data_of x ∷ rest = at_drop_more trees_of xs i x (omega arith) ∙ ap (λ y. data_of y ∷ rest) (sym c.value-item.is) in
    let inv : acc ++ take c.loop-value.left (filter T (data_of x ∷ rest)) ≡ trees_of c.args.values.now.items ++ take few (filter T (trees_of xs)) =
    ap (λ ds. acc ++ take c.loop-value.left (filter T ds)) (sym step) ∙ c.loop-value.invariant in
    elim c.if-takes.branch [
      | then-takes+in_ok-try_clone+in_ok-push w ↦
          let t : T (data_of x) ≡ true = sym c.takes.ensures ∙ w.if-takes.true in
          let made : trees_of w.push.new.self.items ≡ acc ++ data_of x ∷ [] = ap trees_of w.in_ok-push.ensures.items ∙ (map_push data_of c.loop-value.values.items w.in_ok-try_clone.field-0 ∙ ap (λ y. acc ++ data_of y ∷ []) w.in_ok-try_clone.ensures) in
          ap (λ v. trees_of v.items ++ take c.if-takes.left (filter T rest)) w.values-is ∙ (ap (λ ds. ds ++ take c.if-takes.left (filter T rest)) made ∙ (few_taken T acc (data_of x) rest c.loop-value.left c.if-takes.left t (omega (arith, w.left-is)) ∙ inv))
      | else-takes w ↦
          let f : T (data_of x) ≡ false = sym c.takes.ensures ∙ w.if-takes.false in
          ap (λ v. trees_of v.items ++ take c.if-takes.left (filter T rest)) w.values-is ∙ (ap (λ n. acc ++ take n (filter T rest)) w.left-is ∙ (few_passed T acc (data_of x) rest c.loop-value.left f ∙ inv))
    ]
