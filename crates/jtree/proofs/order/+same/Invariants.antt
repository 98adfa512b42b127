use Rattle.std.proofs.Common.{◌≡◌, drop}
use Rattle.std.specs.Ordering.{is_eq}
use Rattle.jtree.specs.View.{items_of, members_of}
use Rattle.jtree.specs.Order.{items_cmp, members_cmp}
use Rattle.jtree.proofs.order.+same.Given as goal

abbrev pub invariant-are_same_items-loop-i : goal.invariant-are_same_items-loop-i
invariant-are_same_items-loop-i l =
    is_eq (items_cmp (items_of (drop l.i l.left)) (items_of (drop l.i l.right))) ≡ is_eq (items_cmp (items_of l.left) (items_of l.right))

abbrev pub invariant-are_same_members-loop-i : goal.invariant-are_same_members-loop-i
invariant-are_same_members-loop-i l =
    is_eq (members_cmp (members_of (drop l.i l.left)) (members_of (drop l.i l.right)))
    ≡ is_eq (members_cmp (members_of l.left) (members_of l.right))
