use Rattle.std.proofs.Common.{◌≡◌, ◌-◌, ◌≤◌, ℕ, List, length}
use Rattle.plan.specs.Pools.Pools.{Pools}
use Rattle.plan.specs.Samples.Sites.{Site, Slot}
use Rattle.plan.specs.Internal.Arena.{AreSlots, AreRightBelow}
use Rattle.plan.proofs.ListEntryLemmas.{HasTuplesFrom, AreTuplesBack}
use Rattle.plan.proofs.entries.later_tuples.Given as goal

abbrev pub invariant-loop-done : goal.invariant-loop-done
invariant-loop-done g l = record {
  whole : length l.later.items ≡ l.done;
  next : (P : Pools) (sites : List Site) (i : ℕ) (ss : List Slot) → AreRightBelow g.Z.SizeSet.holds l.arena.limit P l.arena.values sites i l.arena.entries.items → i ≤ length l.arena.entries.items → AreSlots l.arena.values.names.items sites i l.slots ss
      → HasTuplesFrom P ss (length l.slots - l.done) l.tuples;
  later : (P : Pools) (sites : List Site) (i : ℕ) (ss : List Slot) → AreRightBelow g.Z.SizeSet.holds l.arena.limit P l.arena.values sites i l.arena.entries.items → i ≤ length l.arena.entries.items → AreSlots l.arena.values.names.items sites i l.slots ss
      → AreTuplesBack P ss (length l.slots) l.later.items;
}
