use Rattle.std.proofs.Common.{◌≡◌, ◌≤◌, length, take}
use Rattle.std.specs.Prelude.{vec_len, vec_capacity}
use Rattle.explain.proofs.describing.copied_texts.Given as goal

abbrev pub invariant-loop-text : goal.invariant-loop-text
invariant-loop-text l = record {
  copied : l.copies.items ≡ take l.text-index l.texts;
  count : vec_len l.copies ≡ l.text-index;
  room : length l.texts ≤ vec_capacity l.copies;
}
