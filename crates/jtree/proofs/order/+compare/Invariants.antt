use Rattle.std.proofs.Common.{◌≡◌, ◌+◌, min, drop}
use Rattle.std.specs.Ordering.{ordering_then}
use Rattle.jtree.specs.View.{items_of, members_of}
use Rattle.jtree.specs.Nodes.{items_count, members_count, most_nodes}
use Rattle.jtree.specs.Order.{items_cmp, members_cmp}
use Rattle.jtree.proofs.order.+compare.Given as goal

abbrev pub invariant-compare_items-loop-i : goal.invariant-compare_items-loop-i
invariant-compare_items-loop-i l = record {
  left : min (l.found.left + items_count (items_of (drop l.i l.left))) most_nodes ≡ min (items_count (items_of l.left)) most_nodes;
  right : min (l.found.right + items_count (items_of (drop l.i l.right))) most_nodes ≡ min (items_count (items_of l.right)) most_nodes;
  order : ordering_then l.found.order (items_cmp (items_of (drop l.i l.left)) (items_of (drop l.i l.right)))
      ≡ items_cmp (items_of l.left) (items_of l.right);
}

abbrev pub invariant-compare_members-loop-i : goal.invariant-compare_members-loop-i
invariant-compare_members-loop-i l = record {
  left : min (l.found.left + members_count (members_of (drop l.i l.left))) most_nodes
      ≡ min (members_count (members_of l.left)) most_nodes;
  right : min (l.found.right + members_count (members_of (drop l.i l.right))) most_nodes
      ≡ min (members_count (members_of l.right)) most_nodes;
  order : ordering_then l.found.order (members_cmp (members_of (drop l.i l.left)) (members_of (drop l.i l.right)))
      ≡ members_cmp (members_of l.left) (members_of l.right);
}
