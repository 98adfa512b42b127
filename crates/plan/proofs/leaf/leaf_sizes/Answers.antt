use Rattle.std.proofs.Common.{take}
use Rattle.std.proofs.lemmas.List.{map_more, take_all}
use Rattle.jtree.specs.View.{data_of}
use Rattle.plan.specs.Internal.Values.{tree_of, at_places, base_of}
use Rattle.plan.proofs.LeafLemmas.{sizes_more, sizes_all}
use Rattle.plan.proofs.leaf.leaf_sizes.Goals as goal

pub loop-place-preserved : goal.loop-place-preserved
loop-place-preserved g c =
    let v = c.args.values.now in
    let b = c.args.leaf.now.base in
    let places = c.deref-place-items.result.now in
    rw (map_more (λ i. data_of (tree_of v b i)) places c.loop-place.place-index 0 c.loop-place-test.true, ← c.tree.ensures)
    (sizes_more c.args.limit (g.Z.SizeSet.holds c.loop-place.sizes) (g.Z.SizeSet.holds c.with_size-sizes.result) (at_places v.null (base_of v b) (take c.loop-place.place-index places)) (data_of c.tree.result.now)
    c.loop-place.invariant c.with_size-sizes.ensures)

pub returns : goal.returns
returns g c = λ P s are.
    sizes_all P s c.args.limit (g.Z.SizeSet.holds c.loop-place.sizes) _ are
    (rw (take_all c.loop-place.place-index c.deref-place-items.result.now c.loop-place-test.false, c.deref-place-items.ensures.value) at c.loop-place.invariant)
