use Rattle.cluster.specs.Internal.Trees.{entry_tree}
use Rattle.cluster.proofs.TreeLemmas.{mapped_more}
use Rattle.cluster.proofs.object_meta.prune_each.Goals as goal

pub loop-item-preserved : goal.loop-item-preserved
loop-item-preserved c =
    let l = c.loop-item in
    mapped_more (entry_tree c.args.managed) c.deref_mut-item-items.result.now l.item-items l.item-index c.item-item.result _ c.loop-item-test.true l.invariant c.item-item.is c.prune_entry.ensures
