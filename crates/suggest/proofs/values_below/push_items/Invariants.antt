use Rattle.std.proofs.Common.{◌≡◌, ◌++◌, drop}
use Rattle.jtree.specs.View.{items_of}
use Rattle.plan.specs.Pools.Pools.{items_list}
use Rattle.suggest.specs.View.{trees_at}
use Rattle.suggest.proofs.values_below.push_items.Given as goal

abbrev pub invariant-loop-item : goal.invariant-loop-item
invariant-loop-item l = trees_at l.below.items ++ items_list (items_of (drop l.item-index l.item-items)) ≡ trees_at l.initial.below.items ++ items_list (items_of l.item-items)
