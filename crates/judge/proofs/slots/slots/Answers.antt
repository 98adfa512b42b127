use Rattle.std.proofs.Common.{arith}
use Rattle.judge.specs.Internal.FaultsByLevel.{slots_of}
use Rattle.judge.proofs.SlotLemmas.{schemas_more}
use Rattle.judge.proofs.slots.slots.Goals as goal

pub loop-schema-preserved : goal.loop-schema-preserved
loop-schema-preserved c =
    schemas_more c.args.schemas.now c.loop-schema.schema-index c.schema-item.result (slots_of c.loop-schema.slots.items) (slots_of c.add_required.new.slots.items) _
    (omega arith) c.schema-item.is c.in_ok-add_required.ensures c.loop-schema.invariant
