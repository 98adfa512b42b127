use Rattle.std.proofs.Common.{◌≡◌, ◌-◌, length, take, refl, sym, ap, ◌∙◌}
use Rattle.std.proofs.lemmas.List.{length-map}
use Rattle.plan.specs.Pools.Pools.{Pools, with_paths}
use Rattle.plan.specs.Pools.Along.{widened, lists_of}
use Rattle.plan.specs.Pools.PathSteps.{step_of, path_of}
use Rattle.plan.proofs.StepLemmas.{plan_changed}
use Rattle.plan.proofs.plan.Plan.widen.Goals as goal

pub invariant_of-result : goal.invariant_of-result
invariant_of-result g c =
    let i = c.self.inside in
    let a = i.arena in
    let p = path_of c.args.steps.now in
    let lists = lists_of c.args.lists.items in
    let count : length c.args.steps.now ≡ length p = sym (length-map c.args.steps.now step_of) in
    let is : c.asking_less-pools.result ≡ widened i.pools lists p =
    c.asking_less-pools.ensures ∙ (ap (λ n. with_paths c.in_ok-pools.pools c.in_ok-pools.pools.fixed (take (length c.in_ok-pools.pools.present - n) c.in_ok-pools.pools.present)) count
    ∙ ap (λ (x : Pools). with_paths x x.fixed (take (length x.present - length p) x.present)) c.in_ok-pools.ensures.pools)
    in
    let renewed = rw c.root.ensures.node at c.in_ok-renew.ensures.renewed in
    rw (c.in_ok-renew.ensures.kept.0, c.in_ok-renew.ensures.kept.1)
    (plan_changed c.paths_have_one_text.ensures c.schemas_are_sound.ensures g.Z.SizeSet.holds g.Z.SizeSet.BITS i.schema i.pools c.asking_less-pools.result p a.limit a.values a.entries.items c.renew.new.arena.entries.items i.root c.args.self (λ P. widened P lists p)
    c.self.view_is is (record { scalars = refl; numbers = refl; any = refl; paths = refl; names = refl }) c.root.ensures.schema c.requires.good c.requires.good_then c.requires.along c.requires.declared c.self.invariant renewed)
