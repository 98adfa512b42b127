use Rattle.std.proofs.Common.{◌+◌, ◌∙◌, false, ap, []}
use Rattle.std.proofs.lemmas.List.{length_push}
use Rattle.plan.specs.Internal.Tables.{columns}
use Rattle.plan.proofs.RowLemmas.{table_more, wide_more}
use Rattle.plan.proofs.rows.last_table.Goals as goal

pub loop-seen-preserved : goal.loop-seen-preserved
loop-seen-preserved g c =
    let inv = c.loop-seen.invariant in
    let level = c.in_ok-level.level in
    let table = c.loop-seen.table.items in
    rw c.in_ok-push.ensures.items
    (record {
      whole = length_push table level ∙ ap (λ n. n + 1) inv.whole;
      wide = wide_more (columns c.args.bounds c.args.count) table level inv.wide c.in_ok-level.ensures.whole;
      table = λ P e bounds met.
          table_more g.Z.SizeSet.holds c.args.limit e P [] table level (inv.table P e bounds met) (rw inv.whole (c.in_ok-level.ensures.level P e c.loop-seen.seen bounds (met.each c.loop-seen.seen false c.loop-seen-test.true)));
    })
