use Rattle.std.proofs.Common.{arith}
use Rattle.plan.specs.Samples.Sites.{sites_of}
use Rattle.plan.proofs.PlanLemmas.{entry_right, row_named, no_row}
use Rattle.plan.proofs.plan.Plan.names_fields.Goals as goal

pub returns-in-Row-clause-names : goal.returns-in-Row-clause-names
returns-in-Row-clause-names g c =
    let holds = g.Z.SizeSet.holds in
    let r = entry_right holds g.Z.SizeSet.BITS c.self.inside.schema c.self.inside.pools c.self.inside.arena.limit c.self.inside.arena.values c.self.inside.arena.entries.items c.self.inside.root c.args.self.now c.args.node c.entry.result.now c.self.invariant c.self.view_is c.requires.node c.entry.ensures in
    let row = rw c.in-Row.is at r.content in
    (row_named holds c.args.self.now.limit c.args.self.now.pools c.self.inside.arena.values.names.items (sites_of c.args.self.now.pools c.args.self.now.root) c.args.node c.len.result c.in-Row.row c.index.result.now row c.index.ensures (omega (arith, c.len.ensures))).0

pub returns-in-Row-clause-no_bit : goal.returns-in-Row-clause-no_bit
returns-in-Row-clause-no_bit g c =
    let holds = g.Z.SizeSet.holds in
    let r = entry_right holds g.Z.SizeSet.BITS c.self.inside.schema c.self.inside.pools c.self.inside.arena.limit c.self.inside.arena.values c.self.inside.arena.entries.items c.self.inside.root c.args.self.now c.args.node c.entry.result.now c.self.invariant c.self.view_is c.requires.node c.entry.ensures in
    let row = rw c.in-Row.is at r.content in
    (row_named holds c.args.self.now.limit c.args.self.now.pools c.self.inside.arena.values.names.items (sites_of c.args.self.now.pools c.args.self.now.root) c.args.node c.len.result c.in-Row.row c.index.result.now row c.index.ensures (omega (arith, c.len.ensures))).1

pub returns-in-Leaf-2-clause-names : goal.returns-in-Leaf-2-clause-names
returns-in-Leaf-2-clause-names g c =
    let holds = g.Z.SizeSet.holds in
    let r = entry_right holds g.Z.SizeSet.BITS c.self.inside.schema c.self.inside.pools c.self.inside.arena.limit c.self.inside.arena.values c.self.inside.arena.entries.items c.self.inside.root c.args.self.now c.args.node c.entry.result.now c.self.invariant c.self.view_is c.requires.node c.entry.ensures in
    absurd (no_row holds c.args.self.now.limit c.args.self.now.pools c.self.inside.arena.values (sites_of c.args.self.now.pools c.args.self.now.root) c.args.node c.entry.result.now r c.in-Leaf.is c.requires.row)

pub returns-in-Leaf-2-clause-no_bit : goal.returns-in-Leaf-2-clause-no_bit
returns-in-Leaf-2-clause-no_bit g c =
    let holds = g.Z.SizeSet.holds in
    let r = entry_right holds g.Z.SizeSet.BITS c.self.inside.schema c.self.inside.pools c.self.inside.arena.limit c.self.inside.arena.values c.self.inside.arena.entries.items c.self.inside.root c.args.self.now c.args.node c.entry.result.now c.self.invariant c.self.view_is c.requires.node c.entry.ensures in
    absurd (no_row holds c.args.self.now.limit c.args.self.now.pools c.self.inside.arena.values (sites_of c.args.self.now.pools c.args.self.now.root) c.args.node c.entry.result.now r c.in-Leaf.is c.requires.row)
