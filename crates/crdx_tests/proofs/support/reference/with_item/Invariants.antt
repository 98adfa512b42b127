use Rattle.std.proofs.Common.{◌≡◌, ◌++◌, take}
use Rattle.crdx_tests.proofs.support.reference.with_item.Given as goal

-- the new item, and after it the list's so far
abbrev pub invariant-loop-item : goal.invariant-loop-item
invariant-loop-item l = l.items.items ≡ l.initial.items.items ++ take l.item-index l.item-items
