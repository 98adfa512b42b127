use Rattle.std.proofs.Common.{◌≡◌, ℕ, length, []}
use Rattle.plan.specs.Pools.Pools.{Pools}
use Rattle.plan.specs.Samples.Presence.{meets_seen}
use Rattle.plan.specs.Samples.Sizes.{Ending}
use Rattle.plan.specs.Internal.Tables.{IsLevel}
use Rattle.plan.proofs.rows.last_level.Given as goal

abbrev pub invariant-loop-taken : goal.invariant-loop-taken
invariant-loop-taken g l = record {
  whole : length l.level.items ≡ l.taken;
  level : (P : Pools) (e : Ending) (seen : ℕ) → e.bounds ≡ l.bounds → l.holds ≡ meets_seen e.asked seen → IsLevel g.Z.SizeSet.holds l.limit e P [] seen l.level.items;
}
