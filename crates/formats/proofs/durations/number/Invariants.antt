use Rattle.std.proofs.Common.{◌≡◌, ◌-◌, ◌^◌, ◌<◌, min, drop}
use Rattle.std.specs.List.{take_while}
use Rattle.std.specs.Str.Parse.{digits_value_after}
use Rattle.formats.specs.Digits.{is_digit}
use Rattle.formats.specs.Durations as spec
use Rattle.formats.proofs.durations.number.Given as goal

abbrev pub invariant-loop-byte : goal.invariant-loop-byte
invariant-loop-byte l = record {
  value : min (digits_value_after 10 l.number (take_while is_digit (drop l.byte-index l.part))) (2 ^ 64 - 1) ≡ min (spec.number l.part) (2 ^ 64 - 1);
  small : l.number < 2 ^ 64;
}
