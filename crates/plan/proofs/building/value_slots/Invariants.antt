use Rattle.std.proofs.Common.{◌≡◌, ◌<◌, ◌≤◌, ℕ, List, All, map, take, length}
use Rattle.schema.specs.Nodes.Node.{Node}
use Rattle.explain.specs.Paths.FieldPath.{value}
use Rattle.plan.specs.Pools.Pools.{Pools}
use Rattle.plan.specs.Samples.Sites.{Site, plain, below as under, value_slot}
use Rattle.plan.specs.Internal.Arena.{AreSlots}
use Rattle.plan.specs.Internal.Tables.{IsClosed}
use Rattle.plan.specs.Samples.Sites.{site_at}
use Rattle.plan.specs.declared.arena.SlotEntry.{SlotEntry}
use Rattle.plan.proofs.building.value_slots.Given as goal

abbrev pub invariant-loop-place : goal.invariant-loop-place
invariant-loop-place l = record {
  below : All (λ (s : SlotEntry). s.node ≡ l.node) l.slots.items;
  bits : All (λ (s : SlotEntry). IsClosed 1 s.bit) l.slots.items;
  slots : (names : List (List ℕ)) (sites : List Site) (i : ℕ) (P : Pools) (path : List ℕ) (M : Node) → l.place ≤ length names → l.node < i → site_at sites l.node ≡ plain P (under path value) M → AreSlots names sites i l.slots.items (map (value_slot P path M) (take l.place names));
}
