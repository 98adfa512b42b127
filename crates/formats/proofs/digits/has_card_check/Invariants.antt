use Rattle.std.proofs.Common.{◌≡◌, ◌+◌, ◌%◌, ◌<◌, ◌==◌, drop, length, if◌then◌else◌}
use Rattle.formats.specs.Digits.{digits, card_sum}
use Rattle.formats.proofs.digits.has_card_check.Given as goal

abbrev pub invariant-loop-byte : goal.invariant-loop-byte
invariant-loop-byte l = record {
  value : ((if length (digits (drop l.byte-index l.byte-items)) % 2 == 1 then l.twice else l.once) + card_sum (digits (drop l.byte-index l.byte-items))) % 10 ≡ card_sum (digits l.text) % 10;
  once : l.once < 10;
  twice : l.twice < 10;
}
