use Rattle.std.proofs.Common.{◌≡◌, drop}
use Rattle.jtree.specs.View.{items_of}
use Rattle.judge.specs.Keywords.{some_index, repeats}
use Rattle.judge.proofs.repetition.are_distinct.Given as goal

abbrev pub invariant-loop-i : goal.invariant-loop-i
invariant-loop-i l = some_index (repeats l.schema (items_of l.items)) l.i (items_of (drop l.i l.items)) ≡ some_index (repeats l.schema (items_of l.items)) 0 (items_of l.items)
