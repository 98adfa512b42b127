use Rattle.std.proofs.Common.{◌≡◌, ◌≤◌, length, take}
use Rattle.std.specs.Prelude.{vec_len, vec_capacity}
use Rattle.cel_value.proofs.+copy.Given as goal

abbrev pub invariant-copy::copy_values-loop-value : goal.invariant-copy::copy_values-loop-value
invariant-copy::copy_values-loop-value l = record {
  copied : l.copies.items ≡ take l.value-index l.value-items;
  count : vec_len l.copies ≡ l.value-index;
  room : length l.value-items ≤ vec_capacity l.copies;
}

abbrev pub invariant-copy::copy_entries-loop-entry : goal.invariant-copy::copy_entries-loop-entry
invariant-copy::copy_entries-loop-entry l = record {
  copied : l.copies.items ≡ take l.entry-index l.entry-items;
  count : vec_len l.copies ≡ l.entry-index;
  room : length l.entry-items ≤ vec_capacity l.copies;
}
