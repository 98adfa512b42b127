use Rattle.std.proofs.Common.{◌≡◌, ◌+◌, length}
use Rattle.plan.specs.Pools.Pools.{Pools}
use Rattle.plan.specs.Samples.Sites.{Site}
use Rattle.plan.specs.Samples.Sizes.{HasSize, IsUpTo}
use Rattle.plan.specs.Internal.Lists.{AreFollowing}
use Rattle.plan.proofs.lists.following_sets.Given as goal

abbrev pub invariant-loop-done : goal.invariant-loop-done
invariant-loop-done g l = record {
  whole : length l.sets.items ≡ l.done + 1;
  sets : (P : Pools) (M : Site) → IsUpTo l.limit (g.Z.SizeSet.holds l.sizes) (HasSize P M) → AreFollowing g.Z.SizeSet.holds l.limit P M l.bounds l.sets.items;
}
