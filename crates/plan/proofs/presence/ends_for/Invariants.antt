use Rattle.std.proofs.Common.{◌≡◌, ◌<◌, ℕ, Bool, length, get_or}
use Rattle.schema.specs.Nodes.View.{validations_of}
use Rattle.stored.specs.Objects.Tests.{meets_presence}
use Rattle.plan.specs.Internal.Tables.{is_seen}
use Rattle.plan.proofs.presence.ends_for.Given as goal

abbrev pub invariant-loop-seen : goal.invariant-loop-seen
invariant-loop-seen l = record {
  whole : length l.ends.items ≡ l.seen;
  each : (seen : ℕ) (b : Bool) → seen < length l.ends.items → get_or l.ends.items seen b ≡ meets_presence (validations_of l.junctors) (is_seen l.names seen);
}
