use Rattle.std.proofs.Common.{◌≡◌, length}
use Rattle.formats.specs.Addresses.{has_gap}
use Rattle.formats.proofs.addresses.has_gap.Given as goal

abbrev pub invariant-loop-rest : goal.invariant-loop-rest
invariant-loop-rest l = has_gap l.rest ≡ has_gap l.bytes

abbrev pub decreases-loop-rest : goal.decreases-loop-rest
decreases-loop-rest l = length l.rest
