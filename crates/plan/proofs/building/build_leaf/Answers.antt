use Rattle.std.specs.Prelude.{option_map}
use Rattle.schema.specs.Nodes.View.{node_of}
use Rattle.plan.specs.Internal.Values.{trees_of}
use Rattle.plan.proofs.BuildingLemmas.{leaf_built, three_ok}
use Rattle.plan.proofs.building.build_leaf.Goals as goal

pub returns : goal.returns
returns g c =
    let a = c.args.arena.now in
    three_ok c.add.result _ _ _ _ c.add.ensures.number c.add.ensures.count c.add.ensures.added (λ n number count added keys takes. record {
      kept = c.add.ensures.kept;
      built =
          leaf_built g.Z.SizeSet.holds a.limit c.args.pools.now a.values a.entries.items c.add.new.self.entries.items (option_map (λ ts. trees_of ts.now) c.args.fixed) c.args.path.now (node_of c.args.node.now) keys n c.in_ok-entry.entry
          c.requires.leaf added number count (λ sites i values here. c.in_ok-entry.ensures sites i keys values here takes);
    })
