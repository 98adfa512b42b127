use Rattle.plan.proofs.PlanSites.{plan_parts, plan_counts}
use Rattle.plan.proofs.TupleLemmas.{some_free}
use Rattle.plan.proofs.plan.Plan.sound_parts.Goals as goal

pub returns : goal.returns
returns g c =
    let rules = plan_parts c.plans_are_sound.ensures.stored c.plans_are_sound.ensures.parts c.plans_are_sound.ensures.schemas c.self.inside.schema c.self.inside.pools c.self.inside.arena.limit c.args.self.now c.root.ensures.schema c.self.view_is in
    let counts =
    plan_counts g.Z.SizeSet.holds g.Z.SizeSet.BITS c.self.inside.schema c.self.inside.pools c.self.inside.arena.limit c.self.inside.arena.values c.self.inside.arena.entries.items c.self.inside.root c.args.self.now c.self.invariant c.self.view_is (λ s i. (rules s i).0)
    in
    record { parts = λ s i. (rules s i).0; items = λ s M i. (rules s i).1 M; counts = counts; free = some_free }
