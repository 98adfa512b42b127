use Rattle.std.proofs.Common.{◌≡◌, drop}
use Rattle.jtree.specs.View.{items_of}
use Rattle.judge.specs.Keywords.{texts_of}
use Rattle.judge.specs.Internal.FaultsByLevel.{slots_of, with_slots}
use Rattle.judge.proofs.slots.add_names.Given as goal

abbrev pub invariant-loop-name : goal.invariant-loop-name
invariant-loop-name l = with_slots (texts_of (items_of (drop l.name-index l.name-items))) (slots_of l.slots.items) ≡ with_slots (texts_of l.names) (slots_of l.initial.slots.items)
