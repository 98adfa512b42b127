use Rattle.std.proofs.Common.{◌≡◌, ◌≤◌, length, take}
use Rattle.std.specs.Prelude.{vec_len, vec_capacity}
use Rattle.jtree.proofs.copy.+copy.Given as goal

abbrev pub invariant-copy_items-loop-item : goal.invariant-copy_items-loop-item
invariant-copy_items-loop-item l = record {
  copied : l.copies.items ≡ take l.item-index l.item-items;
  count : vec_len l.copies ≡ l.item-index;
  room : length l.item-items ≤ vec_capacity l.copies;
}

abbrev pub invariant-copy_members-loop-member : goal.invariant-copy_members-loop-member
invariant-copy_members-loop-member l = record {
  copied : l.copies.items ≡ take l.member-index l.member-items;
  count : vec_len l.copies ≡ l.member-index;
  room : length l.member-items ≤ vec_capacity l.copies;
}
