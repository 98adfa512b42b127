use Rattle.std.proofs.Common.{◌≡◌, length, ap, ◌∙◌, arith}
use Rattle.std.proofs.lemmas.List.{length-set}
use Rattle.plan.proofs.RenewLemmas.{must_below, must_closed, row_remade, row_aside}
use Rattle.plan.proofs.renewing.remake_row.Goals as goal

pub returns-then-not-are_within-clause-remade : goal.returns-then-not-are_within-clause-remade
returns-then-not-are_within-clause-remade g c =
    let a = c.args.arena.now in
    let r = c.args.rules in
    let items = c.deref.ensures.value ∙ c.row_of-slots.ensures in
    let all = rw items at c.are_within.ensures.all in
    row_aside g.Z.SizeSet.holds a.limit a.values c.args.number r.bounds r.named.now r.ends.now r.place r.must c.args.nullable a.entries.items c.put.new.self.entries.items c.blank.result c.put.result c.put.ensures.entries c.put.ensures.old
    (λ inside nodes bits.
    let wide : length c.put.new.self.entries.items ≡ length a.entries.items = ap length c.put.ensures.entries ∙ length-set a.entries.items c.args.number c.blank.result in
    let within = all (λ k d l. let h = nodes k d l in omega (arith, c.len.ensures, wide, c.put.new.self.entries.ok.0)) bits in
    let not_within = c.if-not-are_within.true in
    cc)

pub row_entry-requires-clause-below : goal.row_entry-requires-clause-below
row_entry-requires-clause-below g c =
    rw c.with_must-slots.ensures (must_below c.args.rules.must c.row_of-slots.result.slots.items c.args.rules.place (length c.put.new.self.entries.items) (λ k d l.
    let h = rw c.deref.ensures.value at (c.are_within.ensures.nodes c.if-not-are_within.false) in
    let less = h k d l in
    omega (arith, c.len.ensures, c.put.new.self.entries.ok.0)))

pub row_entry-requires-clause-closed : goal.row_entry-requires-clause-closed
row_entry-requires-clause-closed g c =
    rw (c.with_must-slots.ensures, c.requires.ends) (must_closed c.args.rules.must c.row_of-slots.result.slots.items c.args.rules.place (length c.args.rules.named.now) c.requires.few (rw c.deref.ensures.value at (c.are_within.ensures.named c.if-not-are_within.false)))

pub returns-clause-remade : goal.returns-clause-remade
returns-clause-remade g c =
    let a = c.args.arena.now in
    let r = c.args.rules in
    row_remade g.Z.SizeSet.holds a.limit a.values c.args.number r.bounds r.named.now r.ends.now r.place r.must c.args.nullable a.entries.items c.put.new.self.entries.items c.put-2.new.self.entries.items c.blank.result c.put.result c.in_ok-entry.entry
    c.put.ensures.entries c.put-2.ensures.entries c.put.ensures.old
    (rw (c.with_must-slots.ensures, c.row_of-slots.ensures, c.put.ensures.kept.0, c.put.ensures.kept.1) at c.in_ok-entry.ensures)
