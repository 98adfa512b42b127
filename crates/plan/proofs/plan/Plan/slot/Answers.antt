use Rattle.std.proofs.Common.{arith, refl}
use Rattle.plan.specs.Samples.Sites.{sites_of, site_at}
use Rattle.plan.proofs.EntryLemmas.{slot_count}
use Rattle.plan.proofs.PlanLemmas.{entry_right, row_slot, row_later, site_among, slot_at, slice_get_at, no_row}
use Rattle.plan.proofs.plan.Plan.slot.Goals as goal

pub returns-in-Some-clause-some : goal.returns-in-Some-clause-some
returns-in-Some-clause-some g c =
    let holds = g.Z.SizeSet.holds in
    let r = entry_right holds g.Z.SizeSet.BITS c.self.inside.schema c.self.inside.pools c.self.inside.arena.limit c.self.inside.arena.values c.self.inside.arena.entries.items c.self.inside.root c.args.self.now c.args.node c.entry.result.now c.self.invariant c.self.view_is c.requires.node c.entry.ensures in
    let row = rw c.in-Row.is at r.content in
    let l = rw c.deref.ensures.value at c.in-Some.ensures.lookup.3 in
    let is = slice_get_at c.in-Row.row.slots.items c.args.place c.in-Some.slot.now l.0 (l.1 c.in-Some.slot.now) in
    (row_slot holds c.args.self.now.limit c.args.self.now.pools c.self.inside.arena.values.names.items (sites_of c.args.self.now.pools c.args.self.now.root) c.args.node c.args.place c.in-Row.row c.in-Some.slot.now _ row is c.name.ensures refl refl refl refl).0

pub returns-in-Some-clause-below : goal.returns-in-Some-clause-below
returns-in-Some-clause-below g c =
    let holds = g.Z.SizeSet.holds in
    let r = entry_right holds g.Z.SizeSet.BITS c.self.inside.schema c.self.inside.pools c.self.inside.arena.limit c.self.inside.arena.values c.self.inside.arena.entries.items c.self.inside.root c.args.self.now c.args.node c.entry.result.now c.self.invariant c.self.view_is c.requires.node c.entry.ensures in
    let row = rw c.in-Row.is at r.content in
    let l = rw c.deref.ensures.value at c.in-Some.ensures.lookup.3 in
    let is = slice_get_at c.in-Row.row.slots.items c.args.place c.in-Some.slot.now l.0 (l.1 c.in-Some.slot.now) in
    (slot_at c.self.inside.arena.values.names.items (sites_of c.args.self.now.pools c.args.self.now.root) c.args.node c.in-Row.row.slots.items _ c.args.place c.in-Some.slot.now row.are is).1.1.below

pub returns-in-Some-clause-within : goal.returns-in-Some-clause-within
returns-in-Some-clause-within g c =
    let holds = g.Z.SizeSet.holds in
    let r = entry_right holds g.Z.SizeSet.BITS c.self.inside.schema c.self.inside.pools c.self.inside.arena.limit c.self.inside.arena.values c.self.inside.arena.entries.items c.self.inside.root c.args.self.now c.args.node c.entry.result.now c.self.invariant c.self.view_is c.requires.node c.entry.ensures in
    let row = rw c.in-Row.is at r.content in
    let l = rw c.deref.ensures.value at c.in-Some.ensures.lookup.3 in
    let is = slice_get_at c.in-Row.row.slots.items c.args.place c.in-Some.slot.now l.0 (l.1 c.in-Some.slot.now) in
    let count = slot_count _ _ _ _ _ row.are in
    omega (arith, l.0, count)

pub returns-in-None-clause-none : goal.returns-in-None-clause-none
returns-in-None-clause-none g c =
    let holds = g.Z.SizeSet.holds in
    let r = entry_right holds g.Z.SizeSet.BITS c.self.inside.schema c.self.inside.pools c.self.inside.arena.limit c.self.inside.arena.values c.self.inside.arena.entries.items c.self.inside.root c.args.self.now c.args.node c.entry.result.now c.self.invariant c.self.view_is c.requires.node c.entry.ensures in
    let row = rw c.in-Row.is at r.content in
    let count = slot_count _ _ _ _ _ row.are in
    let l = rw c.deref.ensures.value at c.in-None.ensures.lookup.3 in
    omega (arith, count)

pub returns-in-Leaf-clause-none : goal.returns-in-Leaf-clause-none
returns-in-Leaf-clause-none g c =
    let holds = g.Z.SizeSet.holds in
    let r = entry_right holds g.Z.SizeSet.BITS c.self.inside.schema c.self.inside.pools c.self.inside.arena.limit c.self.inside.arena.values c.self.inside.arena.entries.items c.self.inside.root c.args.self.now c.args.node c.entry.result.now c.self.invariant c.self.view_is c.requires.node c.entry.ensures in
    absurd (no_row holds c.args.self.now.limit c.args.self.now.pools c.self.inside.arena.values (sites_of c.args.self.now.pools c.args.self.now.root) c.args.node c.entry.result.now r c.in-Leaf.is c.requires.row)

pub returns-in-Some-clause-later : goal.returns-in-Some-clause-later
returns-in-Some-clause-later g c =
    let holds = g.Z.SizeSet.holds in
    let sites = sites_of c.args.self.now.pools c.args.self.now.root in
    let r = entry_right holds g.Z.SizeSet.BITS c.self.inside.schema c.self.inside.pools c.self.inside.arena.limit c.self.inside.arena.values c.self.inside.arena.entries.items c.self.inside.root c.args.self.now c.args.node c.entry.result.now c.self.invariant c.self.view_is c.requires.node c.entry.ensures in
    let row = rw c.in-Row.is at r.content in
    let l = rw c.deref.ensures.value at c.in-Some.ensures.lookup.3 in
    let sound = c.sound_parts.ensures.parts (site_at sites c.args.node) (site_among sites c.args.node c.requires.node) in
    row_later holds c.args.self.now.limit c.args.self.now.pools _ sites c.args.node c.args.place c.index.result.now c.in-Row.row row sound.keys l.0 c.index.ensures

pub returns-in-Some-clause-bit : goal.returns-in-Some-clause-bit
returns-in-Some-clause-bit g c =
    let holds = g.Z.SizeSet.holds in
    let r = entry_right holds g.Z.SizeSet.BITS c.self.inside.schema c.self.inside.pools c.self.inside.arena.limit c.self.inside.arena.values c.self.inside.arena.entries.items c.self.inside.root c.args.self.now c.args.node c.entry.result.now c.self.invariant c.self.view_is c.requires.node c.entry.ensures in
    let row = rw c.in-Row.is at r.content in
    let l = rw c.deref.ensures.value at c.in-Some.ensures.lookup.3 in
    rw (← l.1 c.in-Some.slot.now) at (row.bits c.args.place c.in-Some.slot.now l.0)
