use Rattle.std.proofs.Common.{take}
use Rattle.plan.specs.Internal.Arena.{AreChosen}
use Rattle.plan.proofs.entries.choices_for.Given as goal

abbrev pub invariant-loop-slot : goal.invariant-loop-slot
invariant-loop-slot g l = AreChosen l.arena.entries.items l.choices.items (take l.slot-index l.slots)
