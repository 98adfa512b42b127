use Rattle.std.proofs.Common.{◌≡◌, length}
use Rattle.plan.specs.Internal.Tables.{MakesLevel}
use Rattle.plan.proofs.rows.slot_level.Given as goal

abbrev pub invariant-loop-taken : goal.invariant-loop-taken
invariant-loop-taken g l = record {
  whole : length l.level.items ≡ l.taken;
  level : MakesLevel g.Z.SizeSet.holds l.limit l.fn.bounds l.choice l.without l.with l.level.items;
}
