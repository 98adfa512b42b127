use Rattle.std.proofs.Common.{◌≡◌, length}
use Rattle.formats.specs.Durations.{unit_of}
use Rattle.formats.proofs.durations.unit_of.Given as goal

abbrev pub invariant-loop-rest : goal.invariant-loop-rest
invariant-loop-rest l = unit_of l.rest ≡ unit_of l.part

abbrev pub decreases-loop-rest : goal.decreases-loop-rest
decreases-loop-rest l = length l.rest
