use Rattle.std.proofs.Common.{◌+◌, ◌*◌, ◌<◌, Some, subst, sym, arith}
use Rattle.jtree.specs.Nodes.{node_count}
use Rattle.jtree.specs.View.{data_of}
use Rattle.enumerate.specs.View.{tree_of}
use Rattle.enumerate.proofs.samples.Changes.{differs}
use Rattle.enumerate.specs.Internal.Candidates.{stack_of}
use Rattle.enumerate.specs.Internal.Following.{Continue, ContinueNext}
use Rattle.enumerate.specs.Internal.Moves.{IsNextTree}
use Rattle.enumerate.proofs.samples.Current.{continue_sample}
use Rattle.enumerate.specs.Internal.Nodes.{IsPartOf}
use Rattle.enumerate.specs.Internal.Roots.{IsFirstFrom}
use Rattle.enumerate.specs.Internal.Steps.{CostsLast}
use Rattle.enumerate.proofs.walks.Costs.{costs_thrice_within, costs_then}
use Rattle.enumerate.proofs.samples.Lemmas.{few, next_same_size, next_more, next_none}
use Rattle.enumerate.specs.Live.{IsNextSample}
use Rattle.enumerate.specs.Internal.Nodes.{Costs}
use Rattle.enumerate.proofs.walk.Walk.next_sample.Given.{Over}
use Rattle.enumerate.proofs.walk.Walk.next_sample.Goals as goal
use Rattle.enumerate.proofs.walk.Walk.next_sample.Goals.{After-first_from, In_ok-next-in-Last}

pub returns-in_err-next-clause-steps : goal.returns-in_err-next-clause-steps
returns-in_err-next-clause-steps g c =
    costs_thrice_within c.args.self.now.plan.now c.args.meter.now c.next_part.new.meter (node_count (data_of c.args.tree)) c.args.self.now.plan.now.limit (few c.args.self.now.plan.now (data_of c.args.tree) (omega (arith, c.limit-limit.type_inv, c.limit-limit.ensures)) c.requires.sample) c.next_part.ensures.steps.0

pub returns-in-To-clause-steps : goal.returns-in-To-clause-steps
returns-in-To-clause-steps g c =
    costs_thrice_within c.args.self.now.plan.now c.args.meter.now c.next_part.new.meter (node_count (data_of c.args.tree)) c.args.self.now.plan.now.limit (few c.args.self.now.plan.now (data_of c.args.tree) (omega (arith, c.limit-limit.type_inv, c.limit-limit.ensures)) c.requires.sample) c.next_part.ensures.steps.0

-- what it took to find the first one of more nodes
later_cost : (g : Over) (c : After-first_from g) → Costs c.args.self.now.plan.now c.args.meter.now c.first_from.new.meter (3 * c.args.self.now.plan.now.limit)
later_cost g c =
    costs_then c.args.self.now.plan.now c.args.meter.now c.next_part.new.meter c.first_from.new.meter (node_count (data_of c.args.tree)) c.args.self.now.plan.now.limit (few c.args.self.now.plan.now (data_of c.args.tree) (omega (arith, c.limit-limit.type_inv, c.limit-limit.ensures)) c.requires.sample)
    (subst (λ m. CostsLast m c.args.self.now.plan.now c.args.meter.now c.next_part.new.meter (node_count (data_of c.args.tree))) c.in-Last.is c.in_ok-next.ensures.steps.1) c.first_from.ensures.steps

pub returns-in_err-next-in-Last-clause-steps : goal.returns-in_err-next-in-Last-clause-steps
returns-in_err-next-in-Last-clause-steps g c = later_cost g (goal.at.returns-in_err-next-in-Last-clause-steps g c).After-first_from

pub returns-in-Some-clause-steps : goal.returns-in-Some-clause-steps
returns-in-Some-clause-steps g c = later_cost g (goal.at.returns-in-Some-clause-steps g c).After-first_from

pub returns-in-None-clause-steps : goal.returns-in-None-clause-steps
returns-in-None-clause-steps g c = later_cost g (goal.at.returns-in-None-clause-steps g c).After-first_from

pub returns-else-size-limit-clause-steps : goal.returns-else-size-limit-clause-steps
returns-else-size-limit-clause-steps g c =
    costs_thrice_within c.args.self.now.plan.now c.args.meter.now c.next_part.new.meter (node_count (data_of c.args.tree)) c.args.self.now.plan.now.limit (few c.args.self.now.plan.now (data_of c.args.tree) (omega (arith, c.limit-limit.type_inv, c.limit-limit.ensures)) c.requires.sample) c.next_part.ensures.steps.0

pub returns-in-To-clause-ok : goal.returns-in-To-clause-ok
returns-in-To-clause-ok g c =
    let old = data_of c.args.tree in
    let next = subst (IsNextTree (IsPartOf c.args.self.now.plan.now c.root-root.result (node_count old)) old) c.in-To.is c.in_ok-next.ensures.ok in
    (next_same_size c.args.self.now.plan.now c.root-root.result c.root-root.ensures.site (omega (arith, c.limit-limit.type_inv, c.limit-limit.ensures)) old (data_of c.in-To.next) c.requires.sample next.0, next.1)

-- the first one of more nodes, where there is one
later_here : (g : Over) (c : In_ok-next-in-Last g) → IsNextSample c.args.self.now.plan.now (Some (data_of c.args.tree)) (tree_of c.in_ok-next-in-Last.field-0)
later_here g c =
    let q = c.args.self.now.plan.now in
    let old = data_of c.args.tree in
    let last = subst (IsNextTree (IsPartOf q c.root-root.result (node_count old)) old) c.in-Last.is c.in_ok-next.ensures.ok in
    next_more q c.root-root.result c.root-root.ensures.site (omega (arith, c.limit-limit.type_inv, c.limit-limit.ensures)) old c.requires.sample last.0 (tree_of c.in_ok-next-in-Last.field-0)
    (subst (λ n. IsFirstFrom q (n + 1) (tree_of c.in_ok-next-in-Last.field-0)) (sym last.1) c.in_ok-next-in-Last.ensures.ok)

pub returns-in-Some-clause-ok : goal.returns-in-Some-clause-ok
returns-in-Some-clause-ok g c =
    let q = c.args.self.now.plan.now in
    let old = data_of c.args.tree in
    (subst (λ f. IsNextSample q (Some old) (tree_of f)) c.in-Some.is (later_here g (goal.at.returns-in-Some-clause-ok g c).In_ok-next-in-Last), differs old (data_of c.in-Some.next))

pub returns-in-None-clause-ok : goal.returns-in-None-clause-ok
returns-in-None-clause-ok g c =
    subst (λ f. IsNextSample c.args.self.now.plan.now (Some (data_of c.args.tree)) (tree_of f)) c.in-None.is (later_here g (goal.at.returns-in-None-clause-ok g c).In_ok-next-in-Last)

pub returns-else-size-limit-clause-ok : goal.returns-else-size-limit-clause-ok
returns-else-size-limit-clause-ok g c =
    let old = data_of c.args.tree in
    let last = subst (IsNextTree (IsPartOf c.args.self.now.plan.now c.root-root.result (node_count old)) old) c.in-Last.is c.in_ok-next.ensures.ok in
    next_none c.args.self.now.plan.now c.root-root.result c.root-root.ensures.site (omega (arith, c.limit-limit.type_inv, c.limit-limit.ensures)) old c.requires.sample last.0 (omega (arith, last.1, c.if-size-limit.false, c.limit-limit.ensures))

pub returns-in-To-clause-following : goal.returns-in-To-clause-following
returns-in-To-clause-following g c =
    let q = c.args.self.now.plan.now in
    let i = c.root-root.result in
    let small : q.limit < 4294967296 = omega (arith, c.limit-limit.type_inv, c.limit-limit.ensures) in
    let old = data_of c.args.tree in
    let new = data_of c.in-To.next in
    let cs = stack_of c.next_part.new.scratch.following.items in
    let moved = subst (IsNextTree (IsPartOf q i (node_count old)) old) c.in-To.is c.in_ok-next.ensures.ok in
    let next = next_same_size q i c.root-root.ensures.site small old new c.requires.sample moved.0 in
    let continue = subst (λ m. ContinueNext (IsPartOf q i (node_count old)) m cs) c.in-To.is c.in_ok-next.ensures.following in
    continue_sample q i c.root-root.ensures.site small c.last_node_is_replaced.ensures.count new cs next.is.sample (subst (λ n. Continue (IsPartOf q i n) new cs) (sym moved.0.is.0.nodes_are) continue)
