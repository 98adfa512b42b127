use Rattle.std.proofs.Common.{sym, ◌∙◌}
use Rattle.jtree.specs.View.{data_of}
use Rattle.schema.specs.Nodes.View.{node_of}
use Rattle.stored.proofs.PrunedTest.{test_sound, test_complete}
use Rattle.stored.proofs.is_pruned.is_pruned.Goals as goal

pub returns : goal.returns
returns c =
    let N = node_of c.args.node.now in
    let v = data_of c.args.tree.now in
    let is = c.is_tree_pruned.ensures in
    (λ t. test_sound N v (sym is ∙ t), λ p. is ∙ test_complete N v c.reveal_invariant.ensures p)
