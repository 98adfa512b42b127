use Rattle.std.proofs.Common.{length, ◌+◌, arith}
use Rattle.plan.specs.Samples.Sizes.{HasMore}
use Rattle.enumerate.specs.Internal.Nodes.{site, HasSizeAt}
use Rattle.jtree.specs.View.{items_of}
use Rattle.enumerate.proofs.lists.Lemmas.{few_items, counted, split_same, found_from_same}
use Rattle.enumerate.proofs.walk.Walk.least_item.Goals as goal

pub overflow_cast-items : goal.overflow_cast-items
overflow_cast-items g c = omega (arith, c.laws_of.ensures.limit, c.requires.within, few_items (items_of c.args.items.now), counted c.args.items.now)

pub overflow_add-items : goal.overflow_add-items
overflow_add-items g c = omega (arith, c.laws_of.ensures.limit, c.requires.within, few_items (items_of c.args.items.now), counted c.args.items.now)

pub least_split-requires : goal.least_split-requires
least_split-requires g c = omega (arith, c.laws_of.ensures.limit, c.requires.within)

pub returns : goal.returns
returns g c =
    let q = c.args.self.now.plan.now in
    let list = c.args.list.now in
    let more = HasMore q.pools q.limit (site q list.node) (length c.args.items.now + 1) in
    let same = split_same q.limit c.args.room (g.Z.SizeSet.holds c.sizes.result) (g.Z.SizeSet.holds c.more-more.result) (HasSizeAt q list.child) more (omega (arith, c.requires.within)) c.sizes.ensures c.more-more.ensures in
    found_from_same _ _ c.args.from c.least_split.result same c.least_split.ensures
