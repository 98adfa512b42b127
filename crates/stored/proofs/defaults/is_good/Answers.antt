use Rattle.std.proofs.Common.{subst}
use Rattle.jtree.specs.View.{data_of}
use Rattle.schema.specs.Nodes.View.{node_of}
use Rattle.stored.specs.Objects.Becomes.{IsFilled, leads_filled}
use Rattle.stored.specs.Objects.Fault.{IsValid}
use Rattle.stored.proofs.OneTree.{becomes_one}
use Rattle.stored.proofs.defaults.is_good.Goals as goal

pub returns : goal.returns
returns c =
    let N = node_of c.args.node.now in
    let value = data_of c.in_ok-value.value in
    let filled : IsFilled N (data_of c.args.default.now) value = subst (λ t. IsFilled N (data_of t) value) c.in_ok-try_clone.ensures c.in_ok-value.ensures in (
      λ t. record { pruned = c.is_pruned.ensures.0 c.if-not-is_pruned.false; value = value; tree = c.reveal_invariant.ensures; filled = filled; valid = c.in_ok-is_faultless.ensures.0 t },
      λ good. c.in_ok-is_faultless.ensures.1 (subst (IsValid N) (becomes_one leads_filled N (data_of c.args.default.now) good.value value good.tree c.reveal_invariant.ensures good.filled filled) good.valid),
    )
