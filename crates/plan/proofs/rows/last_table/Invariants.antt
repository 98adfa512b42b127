use Rattle.std.proofs.Common.{◌≡◌, length, []}
use Rattle.plan.specs.Pools.Pools.{Pools}
use Rattle.plan.specs.Samples.Sizes.{Ending}
use Rattle.plan.specs.Internal.Tables.{columns, AreMet, IsTable}
use Rattle.plan.proofs.RowLemmas.{AreWide}
use Rattle.plan.proofs.rows.last_table.Given as goal

abbrev pub invariant-loop-seen : goal.invariant-loop-seen
invariant-loop-seen g l = record {
  whole : length l.table.items ≡ l.seen;
  wide : AreWide (columns l.bounds l.count) l.table.items;
  table : (P : Pools) (e : Ending) → e.bounds ≡ l.bounds → AreMet e.asked l.ends → IsTable g.Z.SizeSet.holds l.limit e P [] l.table.items;
}
