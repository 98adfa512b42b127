use Rattle.plan.proofs.arena.Arena.count.Goals as goal

pub returns-in-Some : goal.returns-in-Some
returns-in-Some g c = λ P sites i right l within leaf.
    c.count.ensures P c.args.self.now.limit c.args.self.now.values sites c.args.node (rw (← c.in-Some.ensures.some) at (right c.args.node c.in-Some.entry.now l)) leaf
