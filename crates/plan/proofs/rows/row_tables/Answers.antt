use Rattle.std.proofs.Common.{◌≡◌, ◌+◌, ◌-◌, ◌∙◌, ap, length, arith}
use Rattle.std.proofs.lemmas.List.{length_push}
use Rattle.plan.specs.Internal.Tables.{columns, HasShape}
use Rattle.plan.proofs.RowLemmas.{shape_at, shaped_more, shaped_first, tables_first, tables_next}
use Rattle.plan.proofs.rows.row_tables.Goals as goal

pub loop-done-init : goal.loop-done-init
loop-done-init g c =
    let table = c.in_ok-last_table.field-0 in
    let e = rw c.in_ok-tables.ensures.items at c.in_ok-push.ensures.items in
    rw e
    (record {
      whole = omega arith;
      shaped = shaped_first c.args.bounds (length c.args.choices.now) (length c.args.ends.now) table c.in_ok-last_table.ensures.shape;
      tables = λ P ss e bounds met h. tables_first g.Z.SizeSet.holds c.args.limit e P ss table (c.in_ok-last_table.ensures.table P e bounds met);
    })

pub loop-done-preserved : goal.loop-done-preserved
loop-done-preserved g c =
    let table = c.in_ok-table.table in
    let cs = c.args.choices.now in
    let tables = c.loop-done.tables.items in
    let inv = c.loop-done.invariant in
    let done = c.loop-done.done in
    let test = c.loop-done-test.true in
    let kinds = length c.args.ends.now in
    let after = shape_at c.args.bounds (length cs) kinds tables done c.index.result.now c.deref.result.now inv.shaped (omega (arith, inv.whole)) c.index.ensures c.deref.ensures.value in
    let place : length cs - 1 - done ≡ length cs - length tables = omega (arith, inv.whole) in
    let shape : HasShape kinds (columns c.args.bounds (length cs - length tables)) table.items = rw (after.whole, place) at c.in_ok-table.ensures.shape in
    rw c.in_ok-push-2.ensures.items
    (record {
      whole = length_push tables table ∙ ap (λ n. n + 1) inv.whole;
      shaped = shaped_more c.args.bounds (length cs) (length c.args.ends.now) tables table inv.shaped shape;
      tables = λ P ss e bounds met h. tables_next g.Z.SizeSet.holds c.args.limit e P cs ss tables table c.index.result.now c.index-choices-before.result done (length cs - 1 - done)
          h inv.whole (omega arith) (inv.tables P ss e bounds met h) c.index-choices-before.is c.index.ensures
          (λ s rest a must bit b. c.in_ok-table.ensures.table P s rest e bounds a must bit (rw c.deref.ensures.value b));
    })
