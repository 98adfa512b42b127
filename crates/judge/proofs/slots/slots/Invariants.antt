use Rattle.std.proofs.Common.{◌≡◌, drop}
use Rattle.judge.specs.Asked.{required, schemas_of}
use Rattle.judge.specs.Internal.FaultsByLevel.{slots_of, member_slots, with_slots}
use Rattle.judge.proofs.slots.slots.Given as goal

abbrev pub invariant-loop-schema : goal.invariant-loop-schema
invariant-loop-schema l = with_slots (required (schemas_of (drop l.schema-index l.schemas))) (slots_of l.slots.items) ≡ with_slots (required (schemas_of l.schemas)) (member_slots l.members)
