use Rattle.std.proofs.Common.{◌≡◌, ◌≤◌, min, ◌+◌, drop}
use Rattle.jtree.specs.Nodes.{items_count, members_count, most_nodes}
use Rattle.jtree.specs.View.{items_of, members_of}
use Rattle.jtree.proofs.+nodes.Given as goal

abbrev pub invariant-nodes::items_nodes-loop-item : goal.invariant-nodes::items_nodes-loop-item
invariant-nodes::items_nodes-loop-item l = record {
  fits : l.sum ≤ most_nodes;
  counted : min (l.sum + items_count (items_of (drop l.item-index l.items))) most_nodes ≡ min (items_count (items_of l.items)) most_nodes;
}

abbrev pub invariant-nodes::members_nodes-loop-member : goal.invariant-nodes::members_nodes-loop-member
invariant-nodes::members_nodes-loop-member l = record {
  fits : l.sum ≤ most_nodes;
  counted : min (l.sum + members_count (members_of (drop l.member-index l.members))) most_nodes
      ≡ min (members_count (members_of l.members)) most_nodes;
}
