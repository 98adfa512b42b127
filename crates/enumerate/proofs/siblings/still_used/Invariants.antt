use Rattle.std.proofs.Common.{◌≡◌, take}
use Rattle.jtree.specs.View.{data_of}
use Rattle.enumerate.specs.Internal.Candidates.{used_rows, rows_of, agreeing_if}
use Rattle.enumerate.proofs.siblings.still_used.Given as goal

abbrev pub invariant-loop-place : goal.invariant-loop-place
invariant-loop-place l = rows_of l.some.items ≡ agreeing_if l.slot.key l.slot.name.now (data_of l.value) (take l.place (used_rows l.used))
