use Rattle.std.proofs.Common.{◌≡◌, ◌≤◌, length, take}
use Rattle.jtree.specs.View.{data_of}
use Rattle.enumerate.specs.Internal.Candidates.{used_rows, agreeing}
use Rattle.enumerate.proofs.siblings.count_agreeing.Given as goal

abbrev pub invariant-loop-place : goal.invariant-loop-place
invariant-loop-place l = (l.count ≡ length (agreeing l.name (data_of l.value) (take l.place (used_rows l.rows)))) × (l.count ≤ l.place)
