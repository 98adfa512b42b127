use Rattle.std.proofs.Common.{◌≡◌, ◌+◌, ◌-◌, ◌∙◌, ap, arith}
use Rattle.std.proofs.lemmas.List.{length_push}
use Rattle.plan.specs.Samples.Sizes.{IsUpTo}
use Rattle.plan.specs.Internal.Lists.{HasMoreFree}
use Rattle.plan.proofs.SizeLemmas.{each_push}
use Rattle.plan.proofs.ListLemmas.{more_up_to}
use Rattle.plan.proofs.lists.more_sets.Goals as goal

pub loop-taken-preserved : goal.loop-taken-preserved
loop-taken-preserved g c =
    let holds = g.Z.SizeSet.holds in
    let limit = c.args.limit in
    let t = c.loop-taken.taken in
    let whole = c.loop-taken.invariant.whole in
    let many = c.in_ok-following.ensures.whole in
    let set = c.with_room.result in
    let after = c.index.result.now in
    let test = c.loop-taken-test.true in
    let place : limit - (limit - t) ≡ t = omega arith in
    rw c.in_ok-push.ensures.items
    (record {
      whole = length_push c.loop-taken.sets.items set ∙ ap (λ n. n + 1) whole;
      sets = λ P M h.
          let f = c.in_ok-following.ensures.sets P M h (limit - t) after (omega arith) in
          let b = rw (← c.index.ensures, place) at f in
          each_push (λ i x. IsUpTo limit (holds x) (HasMoreFree P limit M c.args.bounds i)) c.loop-taken.sets.items set (c.loop-taken.invariant.sets P M h)
          (rw whole (more_up_to limit (limit - t) P M c.args.bounds t c.least_size-least.result (holds after) (holds set) (omega arith) (c.least_size-least.ensures.least P M h) b c.with_room.ensures));
    })
