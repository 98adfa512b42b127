use Rattle.std.proofs.Common.{◌≡◌, ◌≤◌, length, take}
use Rattle.std.specs.Prelude.{vec_len, vec_capacity}
use Rattle.explain.proofs.describing.copied_items.Given as goal

abbrev pub invariant-loop-item : goal.invariant-loop-item
invariant-loop-item l = record {
  copied : l.copies.items ≡ take l.item-index l.item-items;
  count : vec_len l.copies ≡ l.item-index;
  room : length l.item-items ≤ vec_capacity l.copies;
}
