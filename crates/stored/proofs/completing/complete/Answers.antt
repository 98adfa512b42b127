use Rattle.std.proofs.Common.{sym, subst}
use Rattle.jtree.specs.View.{data_of}
use Rattle.schema.specs.Nodes.View.{node_of}
use Rattle.stored.specs.Objects.Becomes.{leads_uncut, IsPruned, IsCompleted}
use Rattle.stored.proofs.FilledAgain.{filled_again}
use Rattle.stored.proofs.OneTree.{becomes_one, completed_one}
use Rattle.stored.proofs.PrunedAgain.{filled_pruned, good_below}
use Rattle.stored.proofs.completing.complete.Goals as goal

pub returns-clause-again : goal.returns-clause-again
returns-clause-again c = λ root p w good there tree.
    let N = node_of c.args.node.now in
    let t = data_of c.in_ok-completed.completed in
    let is_tree = c.reveal_invariant-2.ensures in
    let filled = c.in_ok-completed.ensures in
    let pruned : IsPruned N t t = filled_pruned N _ _ t (good_below root p N good there) c.prune.ensures filled in
    let completed : IsCompleted N t t = record { between = t; tree = is_tree; pruned = pruned; filled = filled_again N _ t filled } in (
      (λ b. becomes_one leads_uncut N t w t tree is_tree b pruned, λ e. subst (IsPruned N t) (sym e) pruned),
      (λ b. completed_one N t w t tree is_tree b completed, λ e. subst (IsCompleted N t) (sym e) completed),
    )
