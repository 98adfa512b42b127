use Rattle.std.proofs.Common.{◌≡◌, ◌+◌, ◌-◌, ◌∙◌, suc, length, ap, arith}
use Rattle.std.proofs.lemmas.List.{length_push}
use Rattle.plan.proofs.ListEntryLemmas.{HasTuplesFrom, tuples_end, tuples_next, tuples_later}
use Rattle.plan.proofs.SizeLemmas.{each_push}
use Rattle.plan.proofs.entries.later_tuples.Goals as goal

pub loop-done-init : goal.loop-done-init
loop-done-init g c =
    let xs = c.args.slots.now in
    let first : length xs - 0 ≡ length xs = omega arith in
    rw c.in_ok-later.ensures.items
    (record {
      whole = omega arith;
      next = λ P sites i ss right inside slots. rw first (tuples_end P c.args.arena.now.values.names.items sites i xs ss slots);
      later = λ P sites i ss right inside slots k n l. absurd (omega arith);
    })

pub loop-done-preserved : goal.loop-done-preserved
loop-done-preserved g c =
    let xs = c.args.slots.now in
    let done = c.loop-done.done in
    let before = c.loop-done.later.items in
    let inv = c.loop-done.invariant in
    let test = c.loop-done-test.true in
    let place : length xs - done ≡ suc (length xs - 1 - done) = omega arith in
    let next : length xs - (done + 1) ≡ length xs - 1 - done = omega arith in
    rw c.in_ok-push.ensures.items
    (record {
      whole = length_push before c.loop-done.tuples ∙ ap (λ n. n + 1) inv.whole;
      next = λ P sites i ss right inside slots.
          rw next
          (tuples_next P c.args.arena.now.values.names.items sites i xs ss (length xs - 1 - done) c.index-slots-count.result c.loop-done.tuples c.tuples_from-tuples.result slots (omega arith) c.index-slots-count.is
          (λ s rest is leaves h. c.tuples_from-tuples.ensures P sites i s rest right inside is leaves h) (rw place at (inv.next P sites i ss right inside slots)));
      later = λ P sites i ss right inside slots. each_push (λ k n. HasTuplesFrom P ss (length xs - k) n) before c.loop-done.tuples (inv.later P sites i ss right inside slots) (rw inv.whole (inv.next P sites i ss right inside slots));
    })

pub returns-clause-later : goal.returns-clause-later
returns-clause-later g c = λ P sites i ss right inside slots.
    let inv = c.loop-done.invariant in
    let all : length c.loop-done.later.items ≡ length c.args.slots.now = omega (arith, inv.whole, c.loop-done-test.false) in
    rw c.reverse.ensures.items (tuples_later P ss (length c.args.slots.now) c.loop-done.later.items all (inv.later P sites i ss right inside slots))
