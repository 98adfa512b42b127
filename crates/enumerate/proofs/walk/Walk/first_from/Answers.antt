use Rattle.std.proofs.Common.{◌<◌, subst, sym}
use Rattle.enumerate.specs.Internal.Candidates.{stack_of}
use Rattle.enumerate.specs.Internal.Following.{Continue}
use Rattle.enumerate.specs.Internal.Nodes.{IsPartOf}
use Rattle.enumerate.proofs.samples.Current.{continue_sample}
use Rattle.jtree.specs.View.{data_of}
use Rattle.enumerate.proofs.walks.Costs.{costs_within}
use Rattle.enumerate.proofs.samples.Lemmas.{found_from, none_from}
use Rattle.enumerate.proofs.walk.Walk.first_from.Goals as goal

pub returns-in_err-first_part-in-Some-clause-steps : goal.returns-in_err-first_part-in-Some-clause-steps
returns-in_err-first_part-in-Some-clause-steps g c = costs_within c.args.self.now.plan.now c.args.meter.now c.first_part.new.meter c.in-Some.size c.args.self.now.plan.now.limit ((c.sizes.ensures c.in-Some.size).0 c.in-Some.ensures.1).0 c.first_part.ensures.steps

pub returns-in_ok-first_part-in-Some-clause-ok : goal.returns-in_ok-first_part-in-Some-clause-ok
returns-in_ok-first_part-in-Some-clause-ok g c =
    found_from c.args.self.now.plan.now c.root-root.result c.root-root.ensures.site c.reveal_limit.ensures
    (g.Z.SizeSet.holds c.sizes.result) c.sizes.ensures c.args.from c.in-Some.size (data_of c.in_ok-first_part-in-Some.field-0) c.in-Some.ensures c.in_ok-first_part-in-Some.ensures.ok

pub returns-in_ok-first_part-in-Some-clause-steps : goal.returns-in_ok-first_part-in-Some-clause-steps
returns-in_ok-first_part-in-Some-clause-steps g c = costs_within c.args.self.now.plan.now c.args.meter.now c.first_part.new.meter c.in-Some.size c.args.self.now.plan.now.limit ((c.sizes.ensures c.in-Some.size).0 c.in-Some.ensures.1).0 c.first_part.ensures.steps

pub returns-in-None-clause-ok : goal.returns-in-None-clause-ok
returns-in-None-clause-ok g c =
    none_from c.args.self.now.plan.now c.root-root.result c.root-root.ensures.site c.reveal_limit.ensures
    (g.Z.SizeSet.holds c.sizes.result) c.sizes.ensures c.args.from c.in-None.ensures

pub returns-in_ok-first_part-in-Some-clause-following : goal.returns-in_ok-first_part-in-Some-clause-following
returns-in_ok-first_part-in-Some-clause-following g c =
    let q = c.args.self.now.plan.now in
    let i = c.root-root.result in
    let small : q.limit < 4294967296 = c.reveal_limit.ensures in
    let v = data_of c.in_ok-first_part-in-Some.field-0 in
    let cs = stack_of c.first_part.new.scratch.following.items in
    let first = c.in_ok-first_part-in-Some.ensures.ok in
    let found = found_from q i c.root-root.ensures.site small (g.Z.SizeSet.holds c.sizes.result) c.sizes.ensures c.args.from c.in-Some.size v c.in-Some.ensures first in
    continue_sample q i c.root-root.ensures.site small c.last_node_is_replaced.ensures.count v cs found.is.0 (subst (λ n. Continue (IsPartOf q i n) v cs) (sym first.is.nodes_are) c.in_ok-first_part-in-Some.ensures.following)
