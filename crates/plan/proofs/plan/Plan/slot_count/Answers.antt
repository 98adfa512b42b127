use Rattle.std.proofs.Common.{arith}
use Rattle.plan.specs.Samples.Sites.{sites_of}
use Rattle.plan.proofs.EntryLemmas.{slot_count}
use Rattle.plan.proofs.PlanLemmas.{entry_right, no_row}
use Rattle.plan.proofs.plan.Plan.slot_count.Goals as goal

pub returns-in-Row : goal.returns-in-Row
returns-in-Row g c =
    let holds = g.Z.SizeSet.holds in
    let r = entry_right holds g.Z.SizeSet.BITS c.self.inside.schema c.self.inside.pools c.self.inside.arena.limit c.self.inside.arena.values c.self.inside.arena.entries.items c.self.inside.root c.args.self.now c.args.node c.entry.result.now c.self.invariant c.self.view_is c.requires.node c.entry.ensures in
    let row = rw c.in-Row.is at r.content in
    let count = slot_count _ _ _ _ _ row.are in
    omega (arith, count, c.len.ensures)

pub returns-in-Leaf-2 : goal.returns-in-Leaf-2
returns-in-Leaf-2 g c =
    let holds = g.Z.SizeSet.holds in
    let r = entry_right holds g.Z.SizeSet.BITS c.self.inside.schema c.self.inside.pools c.self.inside.arena.limit c.self.inside.arena.values c.self.inside.arena.entries.items c.self.inside.root c.args.self.now c.args.node c.entry.result.now c.self.invariant c.self.view_is c.requires.node c.entry.ensures in
    absurd (no_row holds c.args.self.now.limit c.args.self.now.pools c.self.inside.arena.values (sites_of c.args.self.now.pools c.args.self.now.root) c.args.node c.entry.result.now r c.in-Leaf.is c.requires.row)
