use Rattle.plan.proofs.PlanSites.{plan_rules}
use Rattle.plan.proofs.plan.Plan.no_dead_end.Goals as goal

pub returns : goal.returns
returns g c =
    let rules =
    plan_rules c.plans_are_sound.ensures.stored c.plans_are_sound.ensures.parts c.plans_are_sound.ensures.schemas g.Z.SizeSet.holds g.Z.SizeSet.BITS c.self.inside.schema c.self.inside.pools c.self.inside.arena.limit c.self.inside.arena.values
    c.self.inside.arena.entries.items c.self.inside.root c.args.self.now c.root.ensures.schema c.self.invariant c.self.view_is
    in
    record { parts = λ s i. (rules s i).0; completed = λ s i. (rules s i).1 }
