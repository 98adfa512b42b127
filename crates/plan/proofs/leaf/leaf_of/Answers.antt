use Rattle.std.proofs.Common.{◌≡◌, refl}
use Rattle.schema.specs.Nodes.View.{node_of}
use Rattle.plan.specs.Samples.Sites.{where_fixed}
use Rattle.plan.specs.Samples.Candidates.{sort_at}
use Rattle.plan.specs.Internal.Values.{base_of}
use Rattle.plan.specs.declared.sort.Sort.TheVariants.{Leaf}
use Rattle.plan.proofs.LeafLemmas.{candidates_from}
use Rattle.plan.proofs.leaf.leaf_of.Goals as goal

pub returns : goal.returns
returns c = λ s are is at fixed leaf.
    let here : where_fixed s.fixed Leaf (sort_at (node_of c.args.node.now)) ≡ Leaf = rw (← is) leaf in
    candidates_from c.parts_one_level.ensures c.args.pools.now c.args.limit s s.fixed (base_of c.args.values.now c.in_ok-base.base) _ refl leaf
    (rw (is, at, fixed) (c.in_ok-base.ensures c.args.values.now are (rw fixed at here)))
    (rw is (c.in_ok-places.ensures are.kinds c.args.values.now.null))
