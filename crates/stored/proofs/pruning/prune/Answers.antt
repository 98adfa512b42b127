use Rattle.std.proofs.Common.{sym, ap, ◌∙◌, subst}
use Rattle.jtree.specs.View.{data_of}
use Rattle.schema.specs.Nodes.View.{node_of}
use Rattle.stored.specs.Objects.Becomes.{IsPruned}
use Rattle.stored.proofs.PrunedTrees.{data_back}
use Rattle.stored.proofs.PrunedPaths.{pruned_paths}
use Rattle.stored.proofs.pruning.prune.Goals as goal

pub returns : goal.returns
returns c =
    let N = node_of c.args.node.now in
    let v = data_of c.args.tree.now in
    subst (IsPruned N v) (sym (ap data_of c.prune_tree.ensures ∙ data_back _)) (pruned_paths N v)
