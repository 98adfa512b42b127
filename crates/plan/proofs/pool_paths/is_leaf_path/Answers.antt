use Rattle.schema.specs.Nodes.View.{node_of}
use Rattle.plan.proofs.PoolPathLemmas.{leaf_found, found_leaf, no_path}
use Rattle.plan.proofs.pool_paths.is_leaf_path.Goals as goal

pub returns-in-Ok : goal.returns-in-Ok
returns-in-Ok c =
    let root = c.args.schema.now in
    let N = node_of c.in-Ok.node.now in
    let text = c.args.text.now in (
      λ is. leaf_found root N text c.in-Ok.ensures.node (c.is_leaf.ensures.0 is),
      λ leaf. c.is_leaf.ensures.1 (found_leaf c.paths_have_one_text.ensures root N text c.in-Ok.ensures.node leaf),
    )

pub returns-in-Err : goal.returns-in-Err
returns-in-Err c = (
  λ is. cc,
  λ leaf. absurd (no_path c.paths_have_one_text.ensures c.args.schema.now c.args.text.now c.in-Err.field-0 c.in-Err.ensures.fault (leaf.0, leaf.1, leaf.2.0)),
)
