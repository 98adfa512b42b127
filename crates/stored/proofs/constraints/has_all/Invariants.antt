use Rattle.std.proofs.Common.{◌≡◌, drop}
use Rattle.stored.specs.Objects.Tests.{has_all, has_member}
use Rattle.stored.proofs.constraints.has_all.Given as goal

-- there are members of all names exactly where there are of those that are left
abbrev pub invariant-loop-name : goal.invariant-loop-name
invariant-loop-name l = has_all (drop l.name-index l.names) (has_member l.members) ≡ has_all l.names (has_member l.members)
