use Rattle.std.proofs.Common.{◌≡◌, drop}
use Rattle.cel_value.specs.View.{value_of, values_of}
use Rattle.cel_eval.specs.Operators.{is_item}
use Rattle.cel_eval.proofs.binary.is_item.Given as goal

abbrev pub invariant-loop-item : goal.invariant-loop-item
invariant-loop-item l = is_item (value_of l.value) (values_of (drop l.item-index l.item-items)) ≡ is_item (value_of l.value) l.values
