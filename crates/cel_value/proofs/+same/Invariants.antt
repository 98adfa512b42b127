use Rattle.std.proofs.Common.{◌≡◌, drop}
use Rattle.cel_value.specs.Same.{same_values, has_entries}
use Rattle.cel_value.specs.View.{values_of, entries_of}
use Rattle.cel_value.proofs.+same.Given as goal

abbrev pub invariant-same::are_same-loop-i : goal.invariant-same::are_same-loop-i
invariant-same::are_same-loop-i l = same_values (values_of (drop l.i l.left)) (values_of (drop l.i l.right)) ≡ same_values (values_of l.left) (values_of l.right)

abbrev pub invariant-same::are_in-loop-i : goal.invariant-same::are_in-loop-i
invariant-same::are_in-loop-i l = has_entries (entries_of (drop l.i l.entries)) l.map ≡ has_entries (entries_of l.entries) l.map
