use Rattle.std.proofs.Common.{arith, ◌≡◌, ◌+◌, ◌-◌, ◌%◌, ap, length}
use Rattle.std.specs.Prelude.{min}
use Rattle.plan.specs.Samples.Sites.{sites_of}
use Rattle.plan.proofs.PlanLemmas.{entry_right, table_rest, no_row}
use Rattle.plan.proofs.EntryLemmas.{slot_count}
use Rattle.plan.proofs.plan.Plan.rest.Goals as goal

pub overflow_sub-len : goal.overflow_sub-len
overflow_sub-len g c =
    let holds = g.Z.SizeSet.holds in
    let r = entry_right holds g.Z.SizeSet.BITS c.self.inside.schema c.self.inside.pools c.self.inside.arena.limit c.self.inside.arena.values c.self.inside.arena.entries.items c.self.inside.root c.args.self.now c.args.node c.entry.result.now c.self.invariant c.self.view_is c.requires.node c.entry.ensures in
    let row = rw c.in-Row.is at r.content in
    let count = slot_count _ _ _ _ _ row.are in
    omega (arith, count, c.requires.place, c.len.ensures)

pub returns-in-Leaf : goal.returns-in-Leaf
returns-in-Leaf g c =
    let holds = g.Z.SizeSet.holds in
    let r = entry_right holds g.Z.SizeSet.BITS c.self.inside.schema c.self.inside.pools c.self.inside.arena.limit c.self.inside.arena.values c.self.inside.arena.entries.items c.self.inside.root c.args.self.now c.args.node c.entry.result.now c.self.invariant c.self.view_is c.requires.node c.entry.ensures in
    absurd (no_row holds c.args.self.now.limit c.args.self.now.pools c.self.inside.arena.values (sites_of c.args.self.now.pools c.args.self.now.root) c.args.node c.entry.result.now r c.in-Leaf.is c.requires.row)

pub returns-in-Row : goal.returns-in-Row
returns-in-Row g c =
    let holds = g.Z.SizeSet.holds in
    let r = entry_right holds g.Z.SizeSet.BITS c.self.inside.schema c.self.inside.pools c.self.inside.arena.limit c.self.inside.arena.values c.self.inside.arena.entries.items c.self.inside.root c.args.self.now c.args.node c.entry.result.now c.self.invariant c.self.view_is c.requires.node c.entry.ensures in
    let row = rw c.in-Row.is at r.content in
    let sites = sites_of c.args.self.now.pools c.args.self.now.root in
    let table = c.index-table.result.now in
    let level = c.index-level.result.now in
    let k = c.len.result - c.args.place in
    let count = slot_count _ _ _ _ _ row.are in
    let long : c.len-in-Row.result ≡ length table.items = omega (arith, c.len-in-Row.ensures) in
    let at : k + c.args.place ≡ length c.in-Row.row.slots.items = omega (arith, count, c.requires.place, c.len.ensures) in
    let column : c.min.result ≡ min c.args.taken (length level.items - 1) = omega (arith, c.min.ensures, c.len-in-Row-2.ensures) in
    table_rest holds c.args.self.now.limit c.args.self.now.pools _ sites c.args.node c.in-Row.row k c.args.place c.args.taken c.args.seen (c.args.seen % c.len-in-Row.result) c.min.result table level c.index.result.now row at c.requires.taken c.index-table.ensures
    (ap (λ n. c.args.seen % n) long) c.index-level.ensures column c.index.ensures
