use Rattle.std.proofs.Common.{◌≡◌, drop}
use Rattle.cel_value.specs.View.{values_of, entries_of}
use Rattle.cel_eval.specs.Operators.{joined}
use Rattle.cel_eval.specs.Ranges.{keys}
use Rattle.cel_eval.proofs.making.keys_of.Given as goal

abbrev pub invariant-loop-entry : goal.invariant-loop-entry
invariant-loop-entry l = joined (values_of l.values.items) (keys (entries_of (drop l.entry-index l.entry-items))) ≡ keys l.entries
