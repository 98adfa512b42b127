use Rattle.std.proofs.Common.{◌≡◌, length}
use Rattle.jtree.specs.View.{items_of}
use Rattle.stored.specs.Internal.ItemKeys.{item_cmp, ascend}
use Rattle.stored.proofs.ascending.ascend.Given as goal

-- all items ascend exactly where those that are left do
abbrev pub invariant-loop-rest : goal.invariant-loop-rest
invariant-loop-rest l = ascend (item_cmp l.list.list_type l.list.keys.items) (items_of l.rest) ≡ ascend (item_cmp l.list.list_type l.list.keys.items) l.items

abbrev pub decreases-loop-rest : goal.decreases-loop-rest
decreases-loop-rest l = length l.rest
