use Rattle.std.proofs.Common.{◌+◌, ◌<◌, ◌∙◌, ◌∷◌, ap, length}
use Rattle.std.proofs.lemmas.List.{length_push}
use Rattle.plan.specs.Internal.Tables.{columns}
use Rattle.plan.proofs.RowLemmas.{table_more, table_at, wide_more}
use Rattle.plan.proofs.rows.slot_table.Goals as goal

pub loop-seen-preserved : goal.loop-seen-preserved
loop-seen-preserved g c =
    let inv = c.loop-seen.invariant in
    let level = c.in_ok-level.level in
    let table = c.loop-seen.table.items in
    let seen = c.loop-seen.seen in
    let here = c.index-after-seen.result in
    let there = c.index-after-with.result in
    let test = c.loop-seen-test.true in
    let kinds = length c.args.after.now in
    rw c.in_ok-push.ensures.items
    (record {
      whole = length_push table level ∙ ap (λ n. n + 1) inv.whole;
      wide = wide_more (columns c.args.bounds c.args.before) table level inv.wide c.in_ok-level.ensures.whole;
      table = λ P s ss e bounds choice must bit after.
          let inside : c.seen_with-with.result < kinds = rw c.seen_with-with.ensures (c.requires.closed.1 seen test) in
          let holds = g.Z.SizeSet.holds in
          let without = table_at holds c.args.limit e P ss c.args.after.now seen here c.deref.result.now after test c.index-after-seen.is c.deref.ensures.value in
          let with = table_at holds c.args.limit e P ss c.args.after.now c.seen_with-with.result there c.deref-in-loop-seen.result.now after inside c.index-after-with.is c.deref-in-loop-seen.ensures.value in
          table_more g.Z.SizeSet.holds c.args.limit e P (s ∷ ss) table level (inv.table P s ss e bounds choice must bit after)
          (rw inv.whole (c.in_ok-level.ensures.level P s ss e seen bounds choice must without (rw (← bit, ← c.seen_with-with.ensures) with)));
    })
