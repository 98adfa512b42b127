use Rattle.std.proofs.Common.{take}
use Rattle.plan.specs.Samples.Sizes.{IsUpTo}
use Rattle.plan.specs.Internal.Values.{base_of, at_places}
use Rattle.plan.proofs.LeafLemmas.{HasNodes}
use Rattle.plan.proofs.leaf.leaf_sizes.Given as goal

abbrev pub invariant-loop-place : goal.invariant-loop-place
invariant-loop-place g l = IsUpTo l.limit (g.Z.SizeSet.holds l.sizes) (HasNodes (at_places l.values.null (base_of l.values l.leaf.base) (take l.place-index l.place-items)))
