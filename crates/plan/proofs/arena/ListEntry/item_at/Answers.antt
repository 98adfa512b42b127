use Rattle.std.proofs.Common.{◌+◌}
use Rattle.plan.proofs.PlanLemmas.{more_past, more_none_at}
use Rattle.plan.proofs.arena.ListEntry.item_at.Goals as goal

pub returns-in-None-next-clause-none : goal.returns-in-None-next-clause-none
returns-in-None-next-clause-none g c = λ P limit sites i m list.
    let l = rw c.deref.ensures.value at c.in-Some.ensures.lookup.3 in
    more_none_at g.Z.SizeSet.holds limit P sites i (c.args.place + 1) m c.args.self.now c.in-Some.more.now list l.0 (l.1 c.in-Some.more.now) c.in-None-next.ensures

pub returns-in-None-clause-none : goal.returns-in-None-clause-none
returns-in-None-clause-none g c = λ P limit sites i m list.
    let l = rw c.deref.ensures.value at c.in-None.ensures.lookup.3 in
    more_past g.Z.SizeSet.holds limit P sites i (c.args.place + 1) m c.args.self.now list l
