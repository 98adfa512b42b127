use Rattle.std.proofs.Common.{◌≡◌, take, arith, refl}
use Rattle.std.proofs.lemmas.List.{take_all}
use Rattle.plan.specs.Internal.Tables.{IsClosed}
use Rattle.plan.specs.declared.arena.SlotEntry.{SlotEntry}
use Rattle.plan.proofs.SizeLemmas.{each_push}
use Rattle.plan.proofs.BuildingLemmas.{value_slots_push}
use Rattle.plan.proofs.building.value_slots.Goals as goal

pub loop-place-preserved : goal.loop-place-preserved
loop-place-preserved c =
    rw c.in_ok-push.ensures.items
    (record {
      below = each_push (λ k (s : SlotEntry). s.node ≡ c.args.node) c.loop-place.slots.items _ c.loop-place.invariant.below refl;
      bits = each_push (λ k (s : SlotEntry). IsClosed 1 s.bit) c.loop-place.slots.items _ c.loop-place.invariant.bits (tt, λ seen l. l);
      slots = λ names sites i P path M l within site. value_slots_push P names sites i c.loop-place.place c.args.node path M c.loop-place.slots.items (omega arith) within site (c.loop-place.invariant.slots names sites i P path M (omega arith) within site);
    })

pub returns-clause-slots : goal.returns-clause-slots
returns-clause-slots c = λ names sites i P path M same within site.
    let e : take c.loop-place.place names ≡ names = take_all c.loop-place.place names (omega (arith, same)) in
    rw e at (c.loop-place.invariant.slots names sites i P path M (omega (arith, same)) within site)
