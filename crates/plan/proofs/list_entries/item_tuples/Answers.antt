use Rattle.std.proofs.Common.{arith}
use Rattle.plan.specs.Samples.Sites.{site_at, slots}
use Rattle.plan.proofs.ListEntryLemmas.{HasTuplesFrom, tuples_next}
use Rattle.plan.proofs.list_entries.item_tuples.Goals as goal

pub returns-in-Some-Some : goal.returns-in-Some-Some
returns-in-Some-Some g c = λ P sites i right below inside row leaves.
    let r = rw (← c.entry.ensures) at (right c.args.node c.entry.result.now below) in
    let content = rw c.in-Row.is at r.content in
    let slot = rw c.deref.ensures.value at c.in-Some-Some.ensures.item in
    let later = rw c.deref-in-Row.ensures.value at c.in-Some-Some.ensures'.item in
    let ss = slots P (site_at sites c.args.node) in
    let after : HasTuplesFrom P ss 1 c.in-Some-Some.later.now = rw (← later.1) at (content.later 0 c.in-Some-Some.later.now later.3.0) in
    tuples_next P c.args.arena.now.values.names.items sites c.args.node c.in-Row.row.slots.items ss 0 c.in-Some-Some.slot.now c.in-Some-Some.later.now c.tuples_from.result content.are slot.3.0 slot.1
    (λ s rest is keys h. c.tuples_from.ensures P sites c.args.node s rest (λ j e l. right j e (omega arith)) (omega arith) is keys h) after leaves
