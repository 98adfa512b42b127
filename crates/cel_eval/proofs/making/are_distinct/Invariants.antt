use Rattle.std.proofs.Common.{◌≡◌, drop}
use Rattle.cel_value.specs.View.{entries_of}
use Rattle.cel_eval.specs.Making.{are_distinct}
use Rattle.cel_eval.proofs.making.are_distinct.Given as goal

abbrev pub invariant-loop-i : goal.invariant-loop-i
invariant-loop-i l = are_distinct (entries_of (drop l.i l.entries)) ≡ are_distinct (entries_of l.entries)
