use Rattle.std.proofs.Common.{◌≡◌, ◌∷◌, ◌++◌, [], drop, sym, ap, ◌∙◌, arith}
use Rattle.std.proofs.lemmas.Grind.{common_steps}
use Rattle.cel_ast.specs.View as ast
use Rattle.cel_ast.specs.declared.operators.Macro.TheVariants.{Filter, Map}
use Rattle.cel_value.specs.Data.{Value}
use Rattle.cel_value.specs.View.{value_of, values_of, entries_of}
use Rattle.cel_eval.specs.Outcome.{bind}
use Rattle.cel_eval.specs.Operators.{strict_of}
use Rattle.cel_eval.specs.Ranges.{filtered, mapped, over, over_range}
use Rattle.cel_eval.specs.Eval.{eval, eval_elements, eval_entries}
use Rattle.cel_eval.specs.View.{outcome_of, bindings_of}
use Rattle.cel_eval.proofs.OperatorLemmas.{binary_strict, answered}
use Rattle.cel_eval.proofs.RangeLemmas.{all_step, any_step, keep_step, skip_step, map_step, ahead_none}
use Rattle.cel_eval.proofs.MakingLemmas.{element_step, entry_step, entries_end}
use Rattle.cel_eval.proofs.+eval.Goals.{ranges::eval_filter-in-Yes+in_ok-copy-in-Yes+in_ok-push-in-Yes, ranges::eval_filter-in-No}
use Rattle.cel_eval.proofs.+eval.Goals as goal

pub ranges::eval_all-loop-item-preserved : goal.ranges::eval_all-loop-item-preserved
ranges::eval_all-loop-item-preserved t c =
    let body = λ (v : Value). eval c.args.body.now ((c.args.name.now, v) ∷ bindings_of c.args.env.now) in
    all_step body c.loop-item.found _ c.and-found.result _ _ c.deref-item-items.result.now c.loop-item.item-index c.item-item.result
    (omega arith) c.item-item.is c.and-found.ensures c.truth.ensures c.in_ok-eval_part.ensures c.loop-item.invariant

pub ranges::eval_exists-loop-item-preserved : goal.ranges::eval_exists-loop-item-preserved
ranges::eval_exists-loop-item-preserved t c =
    let body = λ (v : Value). eval c.args.body.now ((c.args.name.now, v) ∷ bindings_of c.args.env.now) in
    any_step body c.loop-item.found _ c.or-found.result _ _ c.deref-item-items.result.now c.loop-item.item-index c.item-item.result
    (omega arith) c.item-item.is c.or-found.ensures c.truth.ensures c.in_ok-eval_part.ensures c.loop-item.invariant

pub evaluating::eval_binary-returns-in-Ok : goal.evaluating::eval_binary-returns-in-Ok
evaluating::eval_binary-returns-in-Ok t c =
    let strict = binary_strict c.args.operator (outcome_of c.args.left) (eval c.args.right.now (bindings_of c.args.env.now)) c.in_default.not-Or c.in_default.not-And in
    let found = sym c.in-Ok.ensures ∙ c.in_ok-right-in_default.ensures in
    answered c.apply_binary.result _ _ (ap (λ o. bind (outcome_of c.args.left) (λ v. bind o (λ w. strict_of c.args.operator v w))) found ∙ sym strict) c.apply_binary.ensures

pub ranges::eval_range-returns-in_ok-keys-in-Map : goal.ranges::eval_range-returns-in_ok-keys-in-Map
ranges::eval_range-returns-in_ok-keys-in-Map t c =
    let body = λ (v : Value). eval c.args.body.now ((c.args.name.now, v) ∷ bindings_of c.args.env.now) in
    let named = c.in_ok-keys-in-Map in let made = c.in-Map.is in
    answered c.eval_over-in-Map.result _ _ (ap (over c.args.kind body) named.ensures ∙ ap (λ z. over_range (over c.args.kind body) (value_of z)) (sym made)) c.eval_over-in-Map.ensures

pub evaluating::eval_elements-loop-element-preserved : goal.evaluating::eval_elements-loop-element-preserved
evaluating::eval_elements-loop-element-preserved t c =
    let bs = bindings_of c.args.env.now in
    let same = rw c.in-Ok.is at c.in_ok-value.ensures in
    let step = element_step bs c.loop-element.made.items _ c.in-Ok.value _ c.deref-element-items.result.now c.loop-element.element-index c.element-item.result
    (omega arith) c.element-item.is same c.in_ok-eval_required.ensures c.loop-element.invariant in
    rw c.in_ok-push-in-Ok.ensures.items step

pub ranges::eval_map-loop-item-preserved : goal.ranges::eval_map-loop-item-preserved
ranges::eval_map-loop-item-preserved t c =
    let body = λ (v : Value). eval c.args.body.now ((c.args.name.now, v) ∷ bindings_of c.args.env.now) in
    let same = rw c.in-Ok.is at c.in_ok-value.ensures in
    let step = map_step body c.loop-item.made.items _ c.in-Ok.value _ c.deref-item-items.result.now c.loop-item.item-index c.item-item.result
    (omega arith) c.item-item.is same c.in_ok-eval_part.ensures c.loop-item.invariant in
    rw c.in_ok-push-in-Ok.ensures.items step

pub evaluating::eval_elements-returns : goal.evaluating::eval_elements-returns
evaluating::eval_elements-returns t c =
    let bs = bindings_of c.args.env.now in
    let over : drop c.loop-element.element-index c.deref-element-items.result.now ≡ [] = grind (arith, common_steps) in
    ahead_none c.loop-element.made.items _ _ (ap (λ z. eval_elements (ast.elements_of z) bs) over) c.loop-element.invariant

pub ranges::eval_map-returns : goal.ranges::eval_map-returns
ranges::eval_map-returns t c =
    let body = λ (v : Value). eval c.args.body.now ((c.args.name.now, v) ∷ bindings_of c.args.env.now) in
    let over : drop c.loop-item.item-index c.deref-item-items.result.now ≡ [] = grind (arith, common_steps) in
    ahead_none c.loop-item.made.items _ _ (ap (λ z. mapped body (values_of z)) over) c.loop-item.invariant

pub ranges::eval_filter-returns : goal.ranges::eval_filter-returns
ranges::eval_filter-returns t c =
    let body = λ (v : Value). eval c.args.body.now ((c.args.name.now, v) ∷ bindings_of c.args.env.now) in
    let over : drop c.loop-item.item-index c.deref-item-items.result.now ≡ [] = grind (arith, common_steps) in
    ahead_none c.loop-item.made.items _ _ (ap (λ z. filtered body (values_of z)) over) c.loop-item.invariant

pub ranges::eval_macro-returns-in-Ok : goal.ranges::eval_macro-returns-in-Ok
ranges::eval_macro-returns-in-Ok t c =
    let body = λ (v : Value). eval c.args.body.now ((c.args.name.now, v) ∷ bindings_of c.args.env.now) in
    answered c.eval_range.result _ _ (ap (λ o. bind o (over_range (over c.args.kind body))) (sym c.in-Ok.ensures)) c.eval_range.ensures

pub evaluating::eval_entries-loop-entry-preserved : goal.evaluating::eval_entries-loop-entry-preserved
evaluating::eval_entries-loop-entry-preserved t c =
    let bs = bindings_of c.args.env.now in
    let same = rw c.in-Ok.is at c.in_ok-pair.ensures in
    let step = entry_step bs c.loop-entry.made.items c.in-Ok.pair _ c.deref-entry-items.result.now c.loop-entry.entry-index c.entry-item.result
    (omega arith) c.entry-item.is same c.loop-entry.invariant in
    rw c.in_ok-push-in-Ok.ensures.items step

pub evaluating::eval_entries-returns : goal.evaluating::eval_entries-returns
evaluating::eval_entries-returns t c =
    let bs = bindings_of c.args.env.now in
    let over : drop c.loop-entry.entry-index c.deref-entry-items.result.now ≡ [] = grind (arith, common_steps) in
    entries_end c.loop-entry.made.items _ _ (ap (λ z. eval_entries (ast.entries_of z) bs) over) c.loop-entry.invariant

pub ranges::eval_filter-loop-item-preserved : goal.ranges::eval_filter-loop-item-preserved
ranges::eval_filter-loop-item-preserved t c =
    let body = λ (v : Value). eval c.args.body.now ((c.args.name.now, v) ∷ bindings_of c.args.env.now) in
    let xs = c.deref-item-items.result.now in
    let made = c.loop-item.made.items in
    let x = c.item-item.result in
    elim c.match-truth.branch [
      | ranges::eval_filter-in-Yes+in_ok-copy-in-Yes+in_ok-push-in-Yes w ↦
          (let pushed = w.in_ok-push-in-Yes.ensures.items ∙ ap (λ y. made ++ y ∷ []) w.in_ok-copy-in-Yes.ensures in
          let step = keep_step body made c.truth.result _ _ xs c.loop-item.item-index x (omega arith) c.item-item.is c.truth.ensures c.in_ok-eval_part.ensures w.in-Yes.is c.loop-item.invariant in
          rw w.made-is (rw pushed step))
      | ranges::eval_filter-in-No w ↦
          (let step = skip_step body made c.truth.result _ _ xs c.loop-item.item-index x (omega arith) c.item-item.is c.truth.ensures c.in_ok-eval_part.ensures w.in-No.is c.loop-item.invariant in
          rw w.made-is step)
    ]

pub evaluating::eval-returns-in-Macro : goal.evaluating::eval-returns-in-Macro
evaluating::eval-returns-in-Macro t c =
    let bs = bindings_of c.args.env.now in
    let m = c.in-Macro in
    let whole = ap (λ o. bind o (over_range (over m.kind (λ v. eval m.body ((m.name, v) ∷ bs))))) c.in_ok-range-in-Macro.ensures
    ∙ ap (λ e. eval (ast.syntax_of e) bs) (sym m.is) in
    answered c.eval_macro.result _ _ whole c.eval_macro.ensures

pub evaluating::eval-returns : goal.evaluating::eval-returns
evaluating::eval-returns t c =
    let bs = bindings_of c.args.env.now in
    let m = c.in-MapWhere in
    let kept = c.in_ok-kept-in-MapWhere.ensures ∙ ap (λ o. bind o (over_range (over Filter (λ v. eval m.test ((m.name, v) ∷ bs))))) c.in_ok-range-in-MapWhere.ensures in
    let whole = ap (λ o. bind o (over_range (over Map (λ v. eval m.target ((m.name, v) ∷ bs))))) kept ∙ ap (λ e. eval (ast.syntax_of e) bs) (sym m.is) in
    answered c.eval_macro-in-MapWhere-2.result _ _ whole c.eval_macro-in-MapWhere-2.ensures
