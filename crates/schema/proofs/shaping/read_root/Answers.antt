use Rattle.std.proofs.Common.{true, sym, subst}
use Rattle.jtree.specs.Data.{IsTree}
use Rattle.jtree.specs.View.{data_of}
use Rattle.schema.specs.Internal.Building.{HasNodes}
use Rattle.schema.specs.Internal.NodeOf.{IsNodeOf}
use Rattle.schema.specs.Nodes.View.{node_of}
use Rattle.schema.proofs.ByPlaceLemmas.{nodes_by_place}
use Rattle.schema.proofs.OwnParts.{have_own_parts}
use Rattle.schema.proofs.ShapeLemmas.{all_have_nodes}
use Rattle.schema.proofs.shaping.read_root.Goals as goal

-- where no rule is broken each place has a node
pub read_node-requires : goal.read_node-requires
read_node-requires c =
    let raw = c.args.raw.now in
    subst (λ p. HasNodes p true (data_of c.tree-schema.result.now)) (sym c.profile.ensures)
    (subst (HasNodes raw.profile true) (sym c.tree-schema.ensures.data) (all_have_nodes raw.profile raw.tree c.requires))

pub returns : goal.returns
returns c =
    let raw = c.args.raw.now in
    let whole = c.tree-schema.ensures.data in
    let root = node_of c.in_ok-read_node.field-0 in
    record {
      forms = c.tree-schema.ensures.forms;
      unbroken = c.requires;
      nodes = nodes_by_place raw.profile root raw.tree true (subst IsTree whole c.reveal_invariant.ensures) (have_own_parts raw.profile raw.tree c.requires)
          (subst (λ p. IsNodeOf p true root raw.tree) c.profile.ensures (subst (IsNodeOf c.profile.result true root) whole c.in_ok-read_node.ensures));
    }
