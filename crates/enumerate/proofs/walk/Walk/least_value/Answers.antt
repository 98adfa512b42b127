use Rattle.std.proofs.Common.{◌+◌, subst, arith}
use Rattle.plan.specs.Samples.Sizes.{filled, CanFill, HasSize, IsUpTo}
use Rattle.enumerate.specs.Internal.Rows.{slots_from, slot_in, ending_at}
use Rattle.enumerate.proofs.lists.Lemmas.{split_same, found_from_same}
use Rattle.enumerate.proofs.rows.Slots.{filled_at}
use Rattle.enumerate.proofs.walk.Walk.least_value.Goals as goal

pub returns : goal.returns
returns g c =
    let q = c.args.self.now.plan.now in
    let here = slot_in q c.args.here.now.node c.args.here.now.place in
    let after = slots_from q c.args.here.now.node (c.args.here.now.place + 1) in
    let end = ending_at q c.args.here.now.node in
    let x = filled here.bit c.args.before in
    let sizes = subst (λ s. IsUpTo q.limit (g.Z.SizeSet.holds c.sizes.result) (HasSize q.pools s)) c.requires.here.slot.node c.sizes.ensures in
    let rest = subst (λ y. IsUpTo q.limit (g.Z.SizeSet.holds c.rest-rest.result) (CanFill q.pools after end y)) (filled_at q c.args.here.now.node c.args.here.now.place c.args.here.now.slot c.args.before c.fill.result c.requires.here.slot c.fill.ensures) c.rest-rest.ensures in
    let same = split_same q.limit c.args.room (g.Z.SizeSet.holds c.sizes.result) (g.Z.SizeSet.holds c.rest-rest.result) (HasSize q.pools here.site) (CanFill q.pools after end x) (omega (arith, c.requires.limit)) sizes rest in
    found_from_same _ _ c.args.from c.least_split.result same c.least_split.ensures
