use Rattle.std.proofs.Common.{length, arith}
use Rattle.plan.proofs.PlanLemmas.{count_right}
use Rattle.plan.proofs.plan.Plan.count.Goals as goal

pub returns : goal.returns
returns g c =
    count_right g.Z.SizeSet.holds g.Z.SizeSet.BITS c.self.inside.schema c.self.inside.pools c.self.inside.arena.limit c.self.inside.arena.values c.self.inside.arena.entries.items c.self.inside.root c.args.self.now c.args.node c.count.result c.self.invariant c.self.view_is
    (λ Q sites right l leaf. c.count.ensures Q sites (length c.self.inside.arena.entries.items) right l (omega arith) leaf) c.requires.node c.requires.leaf
