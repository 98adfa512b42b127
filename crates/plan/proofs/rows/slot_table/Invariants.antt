use Rattle.std.proofs.Common.{◌≡◌, length}
use Rattle.plan.specs.Internal.Tables.{columns, MakesTable}
use Rattle.plan.proofs.RowLemmas.{AreWide}
use Rattle.plan.proofs.rows.slot_table.Given as goal

abbrev pub invariant-loop-seen : goal.invariant-loop-seen
invariant-loop-seen g l = record {
  whole : length l.table.items ≡ l.seen;
  wide : AreWide (columns l.bounds l.before) l.table.items;
  table : MakesTable g.Z.SizeSet.holds l.limit l.bounds l.choice l.after l.table.items;
}
