-- The size of a tree: 1 for null and a scalar, and 1 plus the sum over the parts for a list or object. Names do not count (this
-- project's own).
use Rattle.std.specs.Prelude.{ℕ, ◌+◌, ◌-◌, ◌^◌, min}
use Rattle.jtree.specs.Data.{Data, list, object, Items, no_items, item, Members, no_members, member}

abbrev mutual
  pub node_count : Data → ℕ
  node_count (list ds) = 1 + items_count ds
  node_count (object ms) = 1 + members_count ms
  node_count _ = 1

  pub items_count : Items → ℕ
  items_count no_items = 0
  items_count (item d ds) = node_count d + items_count ds

  pub members_count : Members → ℕ
  members_count no_members = 0
  members_count (member k d ms) = node_count d + members_count ms

abbrev pub most_nodes : ℕ
most_nodes = 2 ^ 64 - 1

-- the count is capped
abbrev pub nodes : Data → ℕ
nodes d = min (node_count d) most_nodes
