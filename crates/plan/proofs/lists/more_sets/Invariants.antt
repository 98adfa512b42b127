use Rattle.std.proofs.Common.{◌≡◌, length}
use Rattle.plan.specs.Pools.Pools.{Pools}
use Rattle.plan.specs.Samples.Sites.{Site}
use Rattle.plan.specs.Samples.Sizes.{HasSize, IsUpTo}
use Rattle.plan.specs.Internal.Lists.{AreMore}
use Rattle.plan.proofs.lists.more_sets.Given as goal

abbrev pub invariant-loop-taken : goal.invariant-loop-taken
invariant-loop-taken g l = record {
  whole : length l.sets.items ≡ l.taken;
  sets : (P : Pools) (M : Site) → IsUpTo l.limit (g.Z.SizeSet.holds l.fn.sizes) (HasSize P M) → AreMore g.Z.SizeSet.holds l.limit P M l.fn.bounds l.sets.items;
}
