use Rattle.std.proofs.Common.{◌≡◌, drop}
use Rattle.stored.specs.Objects.Tests.{has_all}
use Rattle.plan.specs.Internal.Tables.{is_seen}
use Rattle.plan.proofs.presence.has_all.Given as goal

abbrev pub invariant-loop-name : goal.invariant-loop-name
invariant-loop-name l = has_all (drop l.name-index l.name-items) (is_seen l.names l.seen) ≡ has_all l.required (is_seen l.names l.seen)
