use Rattle.std.proofs.Common.{◌≡◌, ◌≤◌, ◌∷◌, drop}
use Rattle.cel_ast.specs.View as ast
use Rattle.cel_value.specs.Data.{Value}
use Rattle.cel_value.specs.View.{values_of, entries_of}
use Rattle.cel_eval.specs.Truth.{both, either}
use Rattle.cel_eval.specs.Ranges.{all_of, any_of, count_of, filtered, mapped}
use Rattle.cel_eval.specs.Eval.{eval, eval_elements, eval_entries}
use Rattle.cel_eval.specs.View.{bindings_of}
use Rattle.cel_eval.proofs.RangeLemmas.{plus, ahead}
use Rattle.cel_eval.proofs.MakingLemmas.{entries_ahead}
use Rattle.cel_eval.proofs.+eval.Given as goal

abbrev pub invariant-ranges::eval_all-loop-item : goal.invariant-ranges::eval_all-loop-item
invariant-ranges::eval_all-loop-item l =
    let body = λ (v : Value). eval l.body ((l.name, v) ∷ bindings_of l.env) in
    both l.found (all_of body (values_of (drop l.item-index l.item-items))) ≡ all_of body l.values

abbrev pub invariant-ranges::eval_exists-loop-item : goal.invariant-ranges::eval_exists-loop-item
invariant-ranges::eval_exists-loop-item l =
    let body = λ (v : Value). eval l.body ((l.name, v) ∷ bindings_of l.env) in
    either l.found (any_of body (values_of (drop l.item-index l.item-items))) ≡ any_of body l.values

abbrev pub invariant-ranges::eval_count-loop-item : goal.invariant-ranges::eval_count-loop-item
invariant-ranges::eval_count-loop-item l =
    let body = λ (v : Value). eval l.body ((l.name, v) ∷ bindings_of l.env) in
    record { few : l.count ≤ l.item-index; left : plus l.count (count_of body (values_of (drop l.item-index l.item-items))) ≡ count_of body l.values }

abbrev pub invariant-ranges::eval_filter-loop-item : goal.invariant-ranges::eval_filter-loop-item
invariant-ranges::eval_filter-loop-item l =
    let body = λ (v : Value). eval l.body ((l.name, v) ∷ bindings_of l.env) in
    ahead (values_of l.made.items) (filtered body (values_of (drop l.item-index l.item-items))) ≡ filtered body l.values

abbrev pub invariant-ranges::eval_map-loop-item : goal.invariant-ranges::eval_map-loop-item
invariant-ranges::eval_map-loop-item l =
    let body = λ (v : Value). eval l.body ((l.name, v) ∷ bindings_of l.env) in
    ahead (values_of l.made.items) (mapped body (values_of (drop l.item-index l.item-items))) ≡ mapped body l.values

abbrev pub invariant-evaluating::eval_elements-loop-element : goal.invariant-evaluating::eval_elements-loop-element
invariant-evaluating::eval_elements-loop-element l =
    ahead (values_of l.made.items) (eval_elements (ast.elements_of (drop l.element-index l.element-items)) (bindings_of l.env)) ≡ eval_elements l.elements (bindings_of l.env)

abbrev pub invariant-evaluating::eval_entries-loop-entry : goal.invariant-evaluating::eval_entries-loop-entry
invariant-evaluating::eval_entries-loop-entry l =
    entries_ahead (entries_of l.made.items) (eval_entries (ast.entries_of (drop l.entry-index l.entry-items)) (bindings_of l.env)) ≡ eval_entries l.entries (bindings_of l.env)
