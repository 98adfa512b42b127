use Rattle.std.proofs.Common.{◌≡◌, ◌∙◌, sym, take, true, false}
use Rattle.std.specs.Prelude.{option_map}
use Rattle.std.proofs.lemmas.List.{take_more}
use Rattle.plan.specs.Pools.PlanFault.{IsDeclaredPath}
use Rattle.plan.specs.Internal.PathLists.{IsBeforeText}
use Rattle.plan.proofs.PoolPathLemmas.{good_more, first_more, later_more}
use Rattle.plan.proofs.pool_paths.first_bad_text.Goals.{then-not-leads_to+then-is_before, else-not-leads_to, else-not-leads_to-via-then-not-leads_to+else-is_before, else-not-leads_to-via-else-not-leads_to}
use Rattle.plan.proofs.pool_paths.first_bad_text.Goals as goal

pub loop-text-preserved : goal.loop-text-preserved
loop-text-preserved c =
    let texts = c.args.texts.now in
    let x = c.text-item.result in
    let Good = IsDeclaredPath c.args.schema.now in
    let before = take c.loop-text.text-index texts in
    let first = option_map (λ first. first.now) c.loop-text.first in
    let decides = rw c.as_str.ensures at c.leads_to.ensures in
    rw (take_more texts c.loop-text.text-index x c.loop-text-test.true, ← c.text-item.is)
    (elim c.if-not-leads_to.branch [
      | then-not-leads_to+then-is_before w ↦
          let bad : Good x → ⊥ = λ good. let contrary : false ≡ true = sym w.if-not-leads_to.true ∙ decides.1 good in cc in
          rw (w.first-is, w.as_str-then-is_before.ensures) (first_more Good before x first c.loop-text.invariant bad (rw w.as_str-then-not-leads_to.ensures at (w.is_before.ensures.0 w.if-is_before.true)))
      | else-not-leads_to w ↦
          rw w.first-is (elim w.else-not-leads_to.branch [
            | else-not-leads_to-via-then-not-leads_to+else-is_before v ↦
                let later : IsBeforeText x first → ⊥ = λ before. let contrary : false ≡ true = sym v.if-is_before.false ∙ v.is_before.ensures.1 (rw v.as_str-then-not-leads_to.ensures before) in cc in
                later_more Good before x first c.loop-text.invariant later
            | else-not-leads_to-via-else-not-leads_to v ↦ good_more Good before x first c.loop-text.invariant (decides.0 v.if-not-leads_to.false)
          ])
    ])
