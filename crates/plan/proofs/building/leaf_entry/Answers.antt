use Rattle.std.proofs.Common.{sym, refl}
use Rattle.std.specs.Prelude.{option_map}
use Rattle.schema.specs.Nodes.View.{node_of}
use Rattle.plan.specs.Samples.Sites.{Site}
use Rattle.plan.specs.Samples.Candidates.{AreCandidates}
use Rattle.plan.specs.Internal.Values.{trees_of, candidates_of}
use Rattle.plan.proofs.building.leaf_entry.Goals as goal

pub returns : goal.returns
returns g c = λ sites i keys values here takes.
    let N = node_of c.args.node.now in
    let fixed = option_map (λ ts. trees_of ts.now) c.args.fixed in
    let s : Site = record { node = N; keys = keys; path = c.args.path.now; fixed = fixed } in
    let v = c.args.arena.now.values in
    let are : AreCandidates c.args.pools.now c.args.arena.now.limit s (candidates_of v c.in_ok-leaf.leaf) = c.in_ok-leaf.ensures s values refl refl refl c.requires.leaf in
    record {
      sizes = rw here (c.leaf_sizes-sizes.ensures c.args.pools.now s are);
      nullable = rw here (sym takes);
      content = record { sort = rw here c.requires.leaf; candidates = rw here are };
    }
