use Rattle.std.proofs.Common.{◌≡◌, ◌+◌, ◌-◌, ◌^◌, ◌<◌, min}
use Rattle.formats.specs.Durations as spec
use Rattle.formats.proofs.durations.nanoseconds.Given as goal

abbrev pub invariant-loop-part : goal.invariant-loop-part
invariant-loop-part l = record {
  value : min (l.total + spec.nanoseconds l.part-iterator.rest.now) (2 ^ 64 - 1) ≡ min (spec.nanoseconds l.parts) (2 ^ 64 - 1);
  small : l.total < 2 ^ 64;
}
