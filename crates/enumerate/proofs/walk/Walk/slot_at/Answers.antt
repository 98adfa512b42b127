use Rattle.enumerate.proofs.rows.Slots.{slot_of}
use Rattle.enumerate.proofs.walk.Walk.slot_at.Goals as goal

pub returns-clause-slot : goal.returns-clause-slot
returns-clause-slot g c =
    let e = c.in-Some.ensures in
    slot_of c.args.self.now.plan.now c.args.node c.args.place c.in-Some.slot e.some e.below e.later e.bit e.followed
