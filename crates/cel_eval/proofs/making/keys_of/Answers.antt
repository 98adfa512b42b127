use Rattle.std.proofs.Common.{◌≡◌, [], drop, sym, ap, ◌∙◌, arith}
use Rattle.std.proofs.lemmas.Grind.{common_steps}
use Rattle.cel_value.specs.View.{values_of, entries_of}
use Rattle.cel_eval.specs.Operators.{joined}
use Rattle.cel_eval.specs.Ranges.{keys}
use Rattle.cel_eval.proofs.ListLemmas.{joined_none}
use Rattle.cel_eval.proofs.MakingLemmas.{key_step}
use Rattle.cel_eval.proofs.making.keys_of.Goals as goal

pub loop-entry-preserved : goal.loop-entry-preserved
loop-entry-preserved c =
    let step = key_step c.loop-entry.values.items c.deref-entry-items.result.now c.loop-entry.entry-index c.entry-item.result c.in_ok-value.field-0 _
    (omega arith) c.entry-item.is c.in_ok-value.ensures c.loop-entry.invariant in
    rw c.in_ok-push.ensures.items step

pub returns : goal.returns
returns c =
    let over : drop c.loop-entry.entry-index c.deref-entry-items.result.now ≡ [] = grind (arith, common_steps) in
    sym (joined_none (values_of c.loop-entry.values.items)) ∙ ap (λ z. joined (values_of c.loop-entry.values.items) (keys (entries_of z))) (sym over) ∙ c.loop-entry.invariant
