use Rattle.cluster.specs.Internal.Trees.{meta_member}
use Rattle.cluster.proofs.TreeLemmas.{mapped_more}
use Rattle.cluster.proofs.object_meta.prune_values.Goals as goal

pub loop-member-preserved : goal.loop-member-preserved
loop-member-preserved c =
    let l = c.loop-member in
    mapped_more meta_member c.deref_mut-member-items.result.now l.member-items l.member-index c.member-item.result _ c.loop-member-test.true l.invariant c.member-item.is c.prune_value.ensures
