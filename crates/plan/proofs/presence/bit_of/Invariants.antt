use Rattle.std.proofs.Common.{◌≡◌, None, take}
use Rattle.plan.specs.Samples.Presence.{bit_of}
use Rattle.plan.proofs.presence.bit_of.Given as goal

abbrev pub invariant-loop-place : goal.invariant-loop-place
invariant-loop-place l = bit_of l.name (take l.place l.names) ≡ None
