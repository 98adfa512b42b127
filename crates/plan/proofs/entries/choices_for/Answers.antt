use Rattle.std.proofs.Common.{take, refl}
use Rattle.std.proofs.lemmas.List.{take_more}
use Rattle.plan.proofs.EntryLemmas.{chosen_push}
use Rattle.plan.proofs.entries.choices_for.Goals as goal

pub loop-slot-preserved : goal.loop-slot-preserved
loop-slot-preserved g c =
    let slots = c.args.slots.now in
    let i = c.loop-slot.slot-index in
    rw (c.in_ok-push.ensures.items, take_more slots i c.slot-item.result c.loop-slot-test.true, ← c.slot-item.is)
    (chosen_push c.args.arena.now.entries.items c.loop-slot.choices.items (take i slots) _ c.slot-item.result c.loop-slot.invariant
    (record { entry = c.entry.result.now; is = c.entry.ensures; below = rw (← c.slot-item.is) at (c.requires i c.slot-item.result c.loop-slot-test.true); sizes = refl; must = refl; bit = refl }))
