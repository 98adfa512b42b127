-- The last node of a tree, reached by going to the last item or member while there is one (this project's own).
use Rattle.std.specs.Prelude.{ℕ, zero, suc}
use Rattle.jtree.specs.Data.{Data, list, object, Items, no_items, item, Members, no_members, member}

-- a scalar, an empty list and an empty object have no part, and are their own last node
abbrev mutual
  pub last_of : Data → Data
  last_of (list ds) = last_of_items ds
  last_of (object ms) = last_of_members ms
  last_of d = d

  pub last_of_items : Items → Data
  last_of_items no_items = list no_items
  last_of_items (item d no_items) = last_of d
  last_of_items (item d ds) = last_of_items ds

  pub last_of_members : Members → Data
  last_of_members no_members = object no_members
  last_of_members (member k d no_members) = last_of d
  last_of_members (member k d ms) = last_of_members ms

-- the tree with another one in place of its last node
abbrev mutual
  pub with_last : Data → Data → Data
  with_last (list no_items) v = v
  with_last (list ds) v = list (items_with_last ds v)
  with_last (object no_members) v = v
  with_last (object ms) v = object (members_with_last ms v)
  with_last d v = v

  pub items_with_last : Items → Data → Items
  items_with_last no_items v = no_items
  items_with_last (item d no_items) v = item (with_last d v) no_items
  items_with_last (item d ds) v = item d (items_with_last ds v)

  pub members_with_last : Members → Data → Members
  members_with_last no_members v = no_members
  members_with_last (member k d no_members) v = member k (with_last d v) no_members
  members_with_last (member k d ms) v = member k d (members_with_last ms v)

-- how many steps down lead to the last node
abbrev mutual
  pub last_depth : Data → ℕ
  last_depth (list no_items) = 0
  last_depth (list ds) = suc (items_last_depth ds)
  last_depth (object no_members) = 0
  last_depth (object ms) = suc (members_last_depth ms)
  last_depth d = 0

  pub items_last_depth : Items → ℕ
  items_last_depth no_items = 0
  items_last_depth (item d no_items) = last_depth d
  items_last_depth (item d ds) = items_last_depth ds

  pub members_last_depth : Members → ℕ
  members_last_depth no_members = 0
  members_last_depth (member k d no_members) = last_depth d
  members_last_depth (member k d ms) = members_last_depth ms

-- the tree with another one in place of the part that this many steps, each to the last item or member, lead to; the tree itself where
-- there is no such part
abbrev mutual
  pub with_part : ℕ → Data → Data → Data
  with_part zero d v = v
  with_part (suc n) (list ds) v = list (items_with_part n ds v)
  with_part (suc n) (object ms) v = object (members_with_part n ms v)
  with_part (suc n) d v = d

  pub items_with_part : ℕ → Items → Data → Items
  items_with_part n no_items v = no_items
  items_with_part n (item d no_items) v = item (with_part n d v) no_items
  items_with_part n (item d ds) v = item d (items_with_part n ds v)

  pub members_with_part : ℕ → Members → Data → Members
  members_with_part n no_members v = no_members
  members_with_part n (member k d no_members) v = member k (with_part n d v) no_members
  members_with_part n (member k d ms) v = member k d (members_with_part n ms v)
