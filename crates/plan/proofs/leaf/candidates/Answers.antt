use Rattle.std.proofs.Common.{◌≡◌, refl, sym, subst}
use Rattle.std.proofs.lemmas.Result.{IfOk-weaker}
use Rattle.schema.specs.Nodes.View.{node_of}
use Rattle.plan.specs.Samples.Sites.{plain}
use Rattle.plan.specs.Samples.Candidates.{sort_at, AreCandidates}
use Rattle.plan.specs.Internal.Values.{trees_of, candidates_of}
use Rattle.plan.specs.declared.sort.Sort.TheVariants.{Leaf as LeafSort}
use Rattle.plan.proofs.FixedLemmas.{leaf_any}
use Rattle.plan.proofs.leaf.candidates.Goals as goal

pub returns : goal.returns
returns c =
    let N = node_of c.args.node.now in
    let P = c.args.pools.now in
    let s = plain P c.args.path.now N in
    IfOk-weaker c.copies.result (λ vs. trees_of vs.items ≡ candidates_of c.in_ok-values.values c.in_ok-leaf.leaf) (λ vs. sort_at N ≡ LeafSort → AreCandidates P c.args.limit s (trees_of vs.items))
    (λ vs e leaf. subst (AreCandidates P c.args.limit s) (sym e) (c.in_ok-leaf.ensures s c.in_ok-values.ensures refl refl (sym c.fixed_at-fixed.ensures) (leaf_any s.fixed (sort_at N) leaf)))
    c.copies.ensures
