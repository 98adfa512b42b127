use Rattle.std.proofs.Common.{◌≡◌, drop}
use Rattle.stored.specs.Objects.Fault.{agree}
use Rattle.stored.proofs.validity.agree.Given as goal

-- the objects agree on all keys exactly where they do on those that are left
abbrev pub invariant-loop-key : goal.invariant-loop-key
invariant-loop-key l = agree l.equality (drop l.key-index l.keys) l.members l.others ≡ agree l.equality l.keys l.members l.others
