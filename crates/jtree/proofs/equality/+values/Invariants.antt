use Rattle.std.proofs.Common.{◌≡◌, drop}
use Rattle.jtree.specs.Equality.{kind_cmp}
use Rattle.jtree.specs.NumberOrder.{value_cmp}
use Rattle.jtree.specs.OrderBy.{items_by, members_by}
use Rattle.jtree.specs.View.{items_of, members_of}
use Rattle.jtree.proofs.equality.+values.Given as goal

-- all parts compare as those that are left
abbrev pub invariant-compare_item_values-loop-i : goal.invariant-compare_item_values-loop-i
invariant-compare_item_values-loop-i l =
    items_by kind_cmp value_cmp (items_of (drop l.i l.left)) (items_of (drop l.i l.right)) ≡ items_by kind_cmp value_cmp (items_of l.left) (items_of l.right)

abbrev pub invariant-compare_member_values-loop-i : goal.invariant-compare_member_values-loop-i
invariant-compare_member_values-loop-i l =
    members_by kind_cmp value_cmp (members_of (drop l.i l.left)) (members_of (drop l.i l.right))
    ≡ members_by kind_cmp value_cmp (members_of l.left) (members_of l.right)
