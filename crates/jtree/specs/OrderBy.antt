-- The order of trees that two other orders make: one of whole trees, which ties only within a kind, and one of numbers (this project's
-- own). Within a kind it is as the tree order is.
use Rattle.std.specs.Prelude.{ℕ, List}
use Rattle.std.specs.Ordering.{int_cmp, bool_cmp, ordering_then}
use Rattle.std.specs.declared.cmp.Ordering.{Ordering}
use Rattle.std.specs.declared.cmp.Ordering.TheVariants.{Less, Equal, Greater}
use Rattle.jtree.specs.Data.{Data, boolean, integer, number, text, list, object, Items, no_items, item, Members, no_members, member}
use Rattle.jtree.specs.Order.{text_cmp}

abbrev mutual
  pub content_by : (Data → Data → Ordering) → (List ℕ → List ℕ → Ordering) → Data → Data → Ordering
  content_by R N (boolean a) (boolean b) = bool_cmp a b
  content_by R N (integer a) (integer b) = int_cmp a b
  content_by R N (number a) (number b) = N a b
  content_by R N (text a) (text b) = text_cmp a b
  content_by R N (list ds) (list es) = items_by R N ds es
  content_by R N (object ms) (object ns) = members_by R N ms ns
  content_by R N u v = Equal

  pub items_by : (Data → Data → Ordering) → (List ℕ → List ℕ → Ordering) → Items → Items → Ordering
  items_by R N no_items no_items = Equal
  items_by R N no_items (item e es) = Less
  items_by R N (item d ds) no_items = Greater
  items_by R N (item d ds) (item e es) = ordering_then (ordering_then (R d e) (content_by R N d e)) (items_by R N ds es)

  pub members_by : (Data → Data → Ordering) → (List ℕ → List ℕ → Ordering) → Members → Members → Ordering
  members_by R N no_members no_members = Equal
  members_by R N no_members (member l e ns) = Less
  members_by R N (member k d ms) no_members = Greater
  members_by R N (member k d ms) (member l e ns) =
      ordering_then (text_cmp l k) (ordering_then (ordering_then (R d e) (content_by R N d e)) (members_by R N ms ns))

abbrev pub tree_by : (Data → Data → Ordering) → (List ℕ → List ℕ → Ordering) → Data → Data → Ordering
tree_by R N u v = ordering_then (R u v) (content_by R N u v)
