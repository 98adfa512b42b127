use Rattle.std.proofs.Common.{◌≡◌, ◌+◌, ◌*◌, ◌%◌, ◌<◌, drop, length}
use Rattle.formats.specs.Digits.{isbn_digits, isbn_sum}
use Rattle.formats.proofs.digits.has_isbn_check.Given as goal

abbrev pub invariant-loop-byte : goal.invariant-loop-byte
invariant-loop-byte l = record {
  value : (l.sum + l.so_far * length (isbn_digits (drop l.byte-index l.byte-items)) + isbn_sum (isbn_digits (drop l.byte-index l.byte-items))) % 11 ≡ isbn_sum (isbn_digits l.text) % 11;
  so_far : l.so_far < 11;
  sum : l.sum < 11;
}
