use Rattle.std.proofs.Common.{◌≡◌, take}
use Rattle.plan.specs.Internal.Values.{trees_of, at_places, base_of}
use Rattle.plan.proofs.leaf.copies.Given as goal

abbrev pub invariant-loop-place : goal.invariant-loop-place
invariant-loop-place l = trees_of l.copies.items ≡ at_places l.values.null (base_of l.values l.leaf.base) (take l.place-index l.place-items)
