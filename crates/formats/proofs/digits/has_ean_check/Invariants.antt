use Rattle.std.proofs.Common.{◌≡◌, ◌+◌, ◌%◌, ◌<◌, drop, if◌then◌else◌}
use Rattle.formats.specs.Digits.{by_turns, digits}
use Rattle.formats.proofs.digits.has_ean_check.Given as goal

abbrev pub invariant-loop-byte : goal.invariant-loop-byte
invariant-loop-byte l = record {
  value : (l.sum + (if l.three then by_turns 3 1 (digits (drop l.byte-index l.byte-items)) else by_turns 1 3 (digits (drop l.byte-index l.byte-items)))) % 10 ≡ by_turns 1 3 (digits l.text) % 10;
  sum : l.sum < 10;
}
