use Rattle.std.proofs.Common.{◌≡◌, ◌+◌, ◌∙◌, ◌∷◌, ap, arith}
use Rattle.std.specs.Prelude.{min}
use Rattle.std.proofs.lemmas.List.{length_push}
use Rattle.plan.specs.Samples.Presence.{with_bit}
use Rattle.plan.specs.Samples.Sizes.{Before, CanFill, IsUpTo}
use Rattle.plan.specs.Internal.Tables.{cap}
use Rattle.plan.proofs.RowLemmas.{level_more, slot_up_to, column_up_to}
use Rattle.plan.proofs.rows.slot_level.Goals as goal

pub loop-taken-preserved : goal.loop-taken-preserved
loop-taken-preserved g c =
    rw c.in_ok-push.ensures.items
    (record {
      whole = length_push c.loop-taken.level.items c.slot_sizes.result ∙ ap (λ n. n + 1) c.loop-taken.invariant.whole;
      level = λ P s ss e seen bounds choice must without with.
          let holds = g.Z.SizeSet.holds in
          let t = c.loop-taken.taken in
          let x : Before = record { count = t; seen = seen } in
          let after = with_bit s.bit seen in
          let more = c.min-more.result in
          let column : more ≡ min (t + 1) (cap e.bounds) = rw bounds (omega (arith, c.min-more.ensures, c.requires.alike, c.loop-taken-test.true, c.columns-taken-end.ensures)) in
          let there : IsUpTo c.args.limit (holds c.index-with-more.result) (CanFill P ss e (record { count = more; seen = after })) = rw c.index-with-more.is (with more c.index-with-more.result (omega arith)) in
          let here : IsUpTo c.args.limit (holds c.slot_sizes.result) (CanFill P (s ∷ ss) e x) = slot_up_to c.args.limit P s ss e x (holds c.args.choice.now.sizes) (holds c.index-without-taken.result)
          (holds c.index-with-more.result) (holds c.slot_sizes.result) choice (rw c.index-without-taken.is (without t c.index-without-taken.result (omega arith)))
          (column_up_to c.args.limit P ss e (t + 1) after (holds c.index-with-more.result) (rw column at there)) (rw must at c.slot_sizes.ensures) in
          level_more holds c.args.limit e P (s ∷ ss) seen c.loop-taken.level.items c.slot_sizes.result (c.loop-taken.invariant.level P s ss e seen bounds choice must without with) (rw c.loop-taken.invariant.whole here);
    })
