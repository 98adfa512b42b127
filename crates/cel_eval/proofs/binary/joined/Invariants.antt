use Rattle.std.proofs.Common.{◌≡◌, ◌++◌, take}
use Rattle.cel_eval.proofs.binary.joined.Given as goal

abbrev pub invariant-loop-item : goal.invariant-loop-item
invariant-loop-item l = l.values.items ≡ take l.item-index l.item-items

abbrev pub invariant-loop-next : goal.invariant-loop-next
invariant-loop-next l = l.values.items ≡ l.initial.values.items ++ take l.next-index l.next-items
