use Rattle.schema.specs.Nodes.View.{node_of}
use Rattle.plan.specs.Internal.Values.{IsStoredWithin}
use Rattle.std.proofs.lemmas.Bool.{iff_false}
use Rattle.plan.proofs.LeafLemmas.{place_more, place_less}
use Rattle.plan.proofs.leaf.stored_places.Goals.{then-branch+in_ok-push, else-branch}
use Rattle.plan.proofs.leaf.stored_places.Goals as goal

pub loop-place-preserved : goal.loop-place-preserved
loop-place-preserved c = λ past.
    let tree = c.index-trees-place in
    let A = IsStoredWithin c.args.limit (node_of c.args.node.now) in
    elim c.if-branch.branch [
      | then-branch+in_ok-push w ↦ rw (w.places-is, w.in_ok-push.ensures.items) (place_more A past c.args.trees.now c.loop-place.places.items c.loop-place.place tree.result
          c.loop-place-test.true tree.is (c.loop-place.invariant past) (c.in_ok-is_stored_within.ensures.0 w.if-branch.true))
      | else-branch w ↦ rw w.places-is (place_less A past c.args.trees.now c.loop-place.places.items c.loop-place.place tree.result
          c.loop-place-test.true tree.is (c.loop-place.invariant past) (iff_false c.in_ok-is_stored_within.ensures w.if-branch.false))
    ]
