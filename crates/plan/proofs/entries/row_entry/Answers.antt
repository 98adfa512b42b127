use Rattle.std.proofs.Common.{arith, ap, length, refl, ◌≡◌, ◌-◌, ◌<◌, ◌∙◌}
use Rattle.plan.specs.Samples.Sites.{slots as slots_of}
use Rattle.plan.specs.Samples.Sites.{site_at}
use Rattle.plan.specs.Samples.Sizes.{Ending}
use Rattle.plan.specs.Internal.Tables.{columns}
use Rattle.plan.proofs.EntryLemmas.{chosen_count, chosen_choices, chosen_closed, row_right}
use Rattle.plan.proofs.RowLemmas.{shape_at, width_at}
use Rattle.plan.proofs.entries.row_entry.Goals as goal

pub row_tables-requires-clause-closed : goal.row_tables-requires-clause-closed
row_tables-requires-clause-closed g c =
    let slots = c.args.slots.items in
    let chosen = rw c.deref.ensures.value at c.in_ok-choices.ensures in
    rw c.deref-3.ensures.value (chosen_closed c.args.arena.now.entries.items c.in_ok-choices.choices.items slots (length c.args.ends.now) chosen c.requires.closed)

pub index-requires : goal.index-requires
index-requires g c =
    let n = chosen_count c.args.arena.now.entries.items c.in_ok-choices.choices.items c.deref.result.now c.in_ok-choices.ensures in
    let w = c.in_ok-tables.ensures.whole in
    let a = ap length c.deref.ensures.value in
    let b = ap length c.deref-3.ensures.value in
    omega (arith, c.len.ensures)

pub index-requires-2 : goal.index-requires-2
index-requires-2 g c =
    let n = chosen_count c.args.arena.now.entries.items c.in_ok-choices.choices.items c.deref.result.now c.in_ok-choices.ensures in
    let w = c.in_ok-tables.ensures.whole in
    let a = ap length c.deref.ensures.value in
    let b = ap length c.deref-3.ensures.value in
    let table = c.index.result.now in
    let shape = shape_at c.args.bounds (length c.deref-3.result.now) (length c.args.ends.now) c.in_ok-tables.tables.items c.len.result table table.items c.in_ok-tables.ensures.shaped (omega (arith, c.len.ensures)) c.index.ensures refl in
    omega (arith, shape.whole, c.requires.some)

pub index-requires-3 : goal.index-requires-3
index-requires-3 g c =
    let n = chosen_count c.args.arena.now.entries.items c.in_ok-choices.choices.items c.deref.result.now c.in_ok-choices.ensures in
    let w = c.in_ok-tables.ensures.whole in
    let a = ap length c.deref.ensures.value in
    let b = ap length c.deref-3.ensures.value in
    let table = c.index.result.now in
    let count = length c.deref-3.result.now in
    let kinds = length c.args.ends.now in
    let shape = shape_at c.args.bounds count kinds c.in_ok-tables.tables.items c.len.result table table.items c.in_ok-tables.ensures.shaped (omega (arith, c.len.ensures)) c.index.ensures refl in
    let inside : 0 < length table.items = omega (arith, shape.whole, c.requires.some) in
    let wide = width_at kinds (columns c.args.bounds (count - c.len.result)) table.items 0 c.index-2.result.now shape inside c.index-2.ensures in
    omega (arith, wide, c.len.ensures)

pub returns : goal.returns
returns g c = λ P sites i cs right inside o sort ending met null are.
    let limit = c.args.arena.now.limit in
    let values = c.args.arena.now.values in
    let entries = c.args.arena.now.entries.items in
    let slots = c.args.slots.items in
    let holds = g.Z.SizeSet.holds in
    let e : Ending = record { bounds = c.args.bounds; asked = cs } in
    let chosen = rw c.deref.ensures.value at c.in_ok-choices.ensures in
    let count : length c.deref-3.result.now ≡ length slots = ap length c.deref-3.ensures.value ∙ chosen_count entries c.in_ok-choices.choices.items slots chosen in
    let place : c.len.result ≡ length slots = omega (arith, c.len.ensures) in
    let choices = rw (← c.deref-3.ensures.value) at (chosen_choices holds limit P values sites entries i c.in_ok-choices.choices.items slots (slots_of P (site_at sites i)) right chosen are) in
    row_right holds limit P values sites i c.args.slots c.in_ok-later.later c.in_ok-tables.tables e c.args.ends.now c.args.nullable c.index.result.now c.index-2.result.now c.index-3.result.now c.whole_sizes-sizes.result
    c.parts_one_level.ensures c.requires.limit.0 o sort ending met null are c.requires.closed (rw c.deref-2.ensures.value at c.in_ok-later.ensures.whole) (c.in_ok-later.ensures.later P sites i (slots_of P (site_at sites i)) right inside (rw c.deref-2.ensures.value are))
    (rw count at c.in_ok-tables.ensures.whole) (rw count at c.in_ok-tables.ensures.shaped) (c.in_ok-tables.ensures.tables P (slots_of P (site_at sites i)) e refl met choices) (rw place at c.index.ensures) c.index-2.ensures c.index-3.ensures c.whole_sizes-sizes.ensures
