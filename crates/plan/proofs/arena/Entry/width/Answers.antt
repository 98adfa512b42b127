use Rattle.std.proofs.Common.{arith}
use Rattle.plan.proofs.EntryLemmas.{slot_count}
use Rattle.plan.proofs.arena.Entry.width.Goals as goal

pub returns-in-Row : goal.returns-in-Row
returns-in-Row g c = λ P limit v sites i right.
    let row = rw c.in-Row.is at right.content in
    let count = slot_count _ _ _ _ _ row.are in
    rw row.sort (omega (arith, count, c.len-in-Row.ensures))
