use Rattle.std.proofs.Common.{◌≡◌, ◌+◌, ◌-◌, ◌∙◌, ap, arith, []}
use Rattle.std.proofs.lemmas.List.{length_push}
use Rattle.plan.specs.Internal.Lists.{CanFollow}
use Rattle.plan.specs.Samples.Sizes.{IsUpTo}
use Rattle.plan.proofs.SizeLemmas.{each_push}
use Rattle.plan.proofs.ListLemmas.{follow_end, follow_up_to}
use Rattle.plan.proofs.lists.following_sets.Goals as goal

pub loop-done-init : goal.loop-done-init
loop-done-init g c =
    let holds = g.Z.SizeSet.holds in
    let limit = c.args.limit in
    let e = rw c.new-sets.ensures.items at c.in_ok-push.ensures.items in
    let z : limit - 0 ≡ limit = omega arith in
    rw e
    (record {
      whole = omega arith;
      sets = λ P M h. each_push (λ k x. IsUpTo k (holds x) (CanFollow P M c.args.bounds (limit - k))) [] c.end_sizes.result (λ k d l. absurd (omega arith))
          (rw z (follow_end P M c.args.bounds limit (holds c.end_sizes.result) c.end_sizes.ensures));
    })

pub loop-done-preserved : goal.loop-done-preserved
loop-done-preserved g c =
    let holds = g.Z.SizeSet.holds in
    let limit = c.args.limit in
    let k = c.loop-done.done in
    let whole = c.loop-done.invariant.whole in
    let set = c.following_set-set.result in
    let after = c.index.result.now in
    let test = c.loop-done-test.true in
    let next : limit - k ≡ limit - 1 - k + 1 = omega arith in
    let here : limit - (k + 1) ≡ limit - 1 - k = omega arith in
    rw c.in_ok-push-2.ensures.items
    (record {
      whole = length_push c.loop-done.sets.items set ∙ ap (λ n. n + 1) whole;
      sets = λ P M h.
          let before = c.loop-done.invariant.sets P M h k after (omega arith) in
          let b = rw (← c.index.ensures, next) at before in
          each_push (λ i x. IsUpTo i (holds x) (CanFollow P M c.args.bounds (limit - i))) c.loop-done.sets.items set (c.loop-done.invariant.sets P M h)
          (rw (whole, here) (follow_up_to limit k P M c.args.bounds (limit - 1 - k) (holds c.args.sizes) (holds after) (holds set) (omega arith) h b c.following_set-set.ensures));
    })
