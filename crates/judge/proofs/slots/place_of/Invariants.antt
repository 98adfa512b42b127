use Rattle.std.proofs.Common.{◌≡◌}
use Rattle.judge.specs.Internal.FaultsByLevel.{slots_of, with_slot}
use Rattle.judge.proofs.SlotLemmas.{added_past}
use Rattle.judge.proofs.slots.place_of.Given as goal

abbrev pub invariant-loop-i : goal.invariant-loop-i
invariant-loop-i l = with_slot l.name (slots_of l.slots) ≡ added_past l.name l.slots l.i
