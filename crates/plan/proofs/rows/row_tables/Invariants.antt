use Rattle.std.proofs.Common.{◌≡◌, ◌+◌, List, length}
use Rattle.plan.specs.Pools.Pools.{Pools}
use Rattle.plan.specs.Samples.Sites.{Slot}
use Rattle.plan.specs.Samples.Sizes.{Ending}
use Rattle.plan.specs.Internal.Tables.{AreMet, AreChoices, AreShaped, AreTables}
use Rattle.plan.proofs.rows.row_tables.Given as goal

abbrev pub invariant-loop-done : goal.invariant-loop-done
invariant-loop-done g l = record {
  whole : length l.tables.items ≡ l.done + 1;
  shaped : AreShaped l.fn.bounds (length l.choices) (length l.ends) l.tables.items;
  tables : (P : Pools) (ss : List Slot) (e : Ending) → e.bounds ≡ l.fn.bounds → AreMet e.asked l.ends → AreChoices g.Z.SizeSet.holds l.limit P l.choices ss → AreTables g.Z.SizeSet.holds l.limit e P ss l.tables.items;
}
