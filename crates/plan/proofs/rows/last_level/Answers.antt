use Rattle.std.proofs.Common.{◌+◌, ◌∙◌, ap, []}
use Rattle.std.proofs.lemmas.List.{length_push}
use Rattle.plan.specs.Samples.Sizes.{Before}
use Rattle.plan.proofs.RowLemmas.{level_more, end_up_to}
use Rattle.plan.proofs.rows.last_level.Goals as goal

pub loop-taken-preserved : goal.loop-taken-preserved
loop-taken-preserved g c =
    rw c.in_ok-push.ensures.items
    (record {
      whole = length_push c.loop-taken.level.items c.row_end.result ∙ ap (λ n. n + 1) c.loop-taken.invariant.whole;
      level = λ P e seen bounds holds.
          let x : Before = record { count = c.loop-taken.taken; seen = seen } in
          level_more g.Z.SizeSet.holds c.args.limit e P [] seen c.loop-taken.level.items c.row_end.result (c.loop-taken.invariant.level P e seen bounds holds)
          (rw c.loop-taken.invariant.whole (end_up_to c.args.limit P e x (g.Z.SizeSet.holds c.row_end.result) (rw (← bounds, holds) at c.row_end.ensures)));
    })
