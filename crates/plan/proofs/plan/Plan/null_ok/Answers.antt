use Rattle.plan.proofs.PlanLemmas.{entry_right}
use Rattle.plan.proofs.plan.Plan.null_ok.Goals as goal

pub returns : goal.returns
returns g c =
    let r = entry_right g.Z.SizeSet.holds g.Z.SizeSet.BITS c.self.inside.schema c.self.inside.pools c.self.inside.arena.limit c.self.inside.arena.values c.self.inside.arena.entries.items c.self.inside.root c.args.self.now c.args.node c.entry.result.now c.self.invariant c.self.view_is c.requires c.entry.ensures in
    r.nullable
