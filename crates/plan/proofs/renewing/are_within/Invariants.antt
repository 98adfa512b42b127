use Rattle.std.proofs.Common.{ℕ, ◌<◌, get_or}
use Rattle.std.specs.Prelude.{IfSome}
use Rattle.plan.specs.declared.arena.SlotEntry.{SlotEntry}
use Rattle.plan.proofs.renewing.are_within.Given as goal

abbrev pub invariant-loop-slot : goal.invariant-loop-slot
invariant-loop-slot l = record {
  nodes : (k : ℕ) (d : SlotEntry) → k < l.slot-index → SlotEntry.node (get_or l.slots k d) < l.nodes;
  named : (k : ℕ) (d : SlotEntry) → k < l.slot-index → IfSome (SlotEntry.bit (get_or l.slots k d)) (λ j. j < l.named);
}
