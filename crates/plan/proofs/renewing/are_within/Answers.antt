use Rattle.std.proofs.Common.{◌<◌, arith}
use Rattle.std.specs.Prelude.{IfSome}
use Rattle.plan.specs.declared.arena.SlotEntry.{SlotEntry}
use Rattle.plan.proofs.RenewLemmas.{all_more}
use Rattle.plan.proofs.renewing.are_within.Goals as goal

pub loop-slot-init : goal.loop-slot-init
loop-slot-init c = record { nodes = λ k d l. absurd (omega arith); named = λ k d l. absurd (omega arith) }

pub loop-slot-preserved : goal.loop-slot-preserved
loop-slot-preserved c =
    let s = c.slot-item in
    record {
      nodes = all_more (λ (x : SlotEntry). x.node < c.args.nodes) c.args.slots.now c.loop-slot.slot-index s.result c.loop-slot-test.true s.is c.loop-slot.invariant.nodes (c.is_below.ensures.0 c.if-not-is_below.false);
      named = all_more (λ (x : SlotEntry). IfSome x.bit (λ j. j < c.args.named)) c.args.slots.now c.loop-slot.slot-index s.result c.loop-slot-test.true s.is c.loop-slot.invariant.named (c.is_named.ensures.named c.if-not-is_named.false);
    }

pub returns-clause-nodes : goal.returns-clause-nodes
returns-clause-nodes c = λ t k d l. c.loop-slot.invariant.nodes k d (omega (arith, c.loop-slot-test.false))

pub returns-clause-named : goal.returns-clause-named
returns-clause-named c = λ t k d l. c.loop-slot.invariant.named k d (omega (arith, c.loop-slot-test.false))
