use Rattle.std.proofs.Common.{◌≡◌, length, arith}
use Rattle.plan.specs.Samples.Sites.{sites_of}
use Rattle.plan.proofs.WidthLemmas.{widest_none, widest_more, width_in}
use Rattle.plan.proofs.plan.Plan.width.Goals as goal

pub loop-entry-init : goal.loop-entry-init
loop-entry-init g c = λ P limit v sites right. widest_none P limit sites

pub loop-entry-preserved : goal.loop-entry-preserved
loop-entry-preserved g c = λ P limit v sites right.
    let i = c.loop-entry.entry-index in
    let e = c.entry-item.result in
    rw c.max-width.ensures (widest_more P limit sites i c.loop-entry.width c.width.result (c.loop-entry.invariant P limit v sites right) (c.width.ensures P limit v sites i (rw (← c.entry-item.is) at (right i e c.loop-entry-test.true))))

pub returns : goal.returns
returns g c =
    let holds = g.Z.SizeSet.holds in
    let a = c.self.inside.arena in
    let all : c.loop-entry.entry-index ≡ length c.deref-entry-items.result.now = omega (arith, c.loop-entry.auto.entry-index-end) in
    let w = c.loop-entry.invariant c.self.inside.pools a.limit a.values (sites_of c.self.inside.pools c.self.inside.schema) (rw c.deref-entry-items.ensures.value c.self.invariant.right) in
    let x = rw (all, c.deref-entry-items.ensures.value) at w in
    width_in holds g.Z.SizeSet.BITS c.self.inside.schema c.self.inside.pools a.limit a.values a.entries.items c.self.inside.root c.args.self.now c.loop-entry.width c.self.invariant c.self.view_is x
