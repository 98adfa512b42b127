use Rattle.std.proofs.Common.{◌≡◌, ◌++◌, [], refl, ap, subst, ◌∙◌}
use Rattle.plan.specs.Pools.Pools.{Pools, with_paths}
use Rattle.plan.specs.Pools.Along.{beginnings, narrowed, widened, lists_of}
use Rattle.plan.specs.Pools.PathSteps.{path_of}
use Rattle.plan.specs.Samples.Question.{Question}
use Rattle.plan.proofs.ListAtLemmas.{pools_back}
use Rattle.plan.proofs.StepLemmas.{plan_changed}
use Rattle.plan.proofs.plan.Plan.narrow.Goals as goal

pub invariant_of-plan : goal.invariant_of-plan
invariant_of-plan g c =
    let i = c.self.inside in
    let a = i.arena in
    let p = path_of c.args.steps.now in
    let lists = lists_of c.args.lists.items in
    let is : c.in_ok-pools-2.pools ≡ narrowed i.pools lists p = c.in_ok-pools-2.ensures ∙ ap (λ (x : Pools). with_paths x x.fixed (x.present ++ beginnings [] p)) c.in_ok-pools.ensures.pools in
    let renewed = rw c.root.ensures.node at c.in_ok-renew.ensures.renewed in
    rw (c.in_ok-renew.ensures.kept.0, c.in_ok-renew.ensures.kept.1)
    (plan_changed c.paths_have_one_text.ensures c.schemas_are_sound.ensures g.Z.SizeSet.holds g.Z.SizeSet.BITS i.schema i.pools c.in_ok-pools-2.pools p a.limit a.values a.entries.items c.renew.new.arena.entries.items i.root c.args.self (λ P. narrowed P lists p)
    c.self.view_is is (record { scalars = refl; numbers = refl; any = refl; paths = refl; names = refl }) c.root.ensures.schema c.requires.good c.requires.good_then c.requires.along c.requires.declared c.self.invariant renewed)

pub returns-clause-back : goal.returns-clause-back
returns-clause-back g c =
    let p = path_of c.args.steps.now in
    let lists = lists_of c.args.lists.items in
    let olds = lists_of c.in_ok-pools.old.items in
    subst (λ (x : Question). widened (narrowed x.pools lists p) olds p ≡ x.pools) c.self.view_is (pools_back c.self.inside.pools lists olds p c.in_ok-pools.ensures.back)
