-- The tree order as a comparison (this project's own). `specs/Before.antt` says it in words, and the two are proved to agree.
use Rattle.std.specs.Prelude.{ℕ, List}
use Rattle.std.specs.Ordering.{nat_cmp, int_cmp, bool_cmp, ordering_then}
use Rattle.std.specs.Cmp.Lexicographic.{slice_cmp}
use Rattle.std.specs.declared.cmp.Ordering.{Ordering}
use Rattle.std.specs.declared.cmp.Ordering.TheVariants.{Less, Equal, Greater}
use Rattle.jtree.specs.Data.{Data, null, boolean, integer, number, text, list, object, Items, no_items, item, Members, no_members, member}
use Rattle.jtree.specs.Nodes.{nodes}
use Rattle.jtree.specs.NumberOrder.{number_cmp}

-- the rank of a tree's kind: null, boolean, integer, other number, string, list, object
abbrev pub kind : Data → ℕ
kind null = 0
kind (boolean b) = 1
kind (integer z) = 2
kind (number s) = 3
kind (text s) = 4
kind (list ds) = 5
kind (object ms) = 6

-- texts compare by their bytes
abbrev pub text_cmp : List ℕ → List ℕ → Ordering
text_cmp = slice_cmp nat_cmp

-- by node count, then by kind
abbrev pub rank_cmp : Data → Data → Ordering
rank_cmp u v = ordering_then (nat_cmp (nodes u) (nodes v)) (nat_cmp (kind u) (kind v))

-- `content_cmp` compares two trees of one kind. A list that ends first comes first; where a name is on one side
-- only, the side without it comes first.
abbrev mutual
  pub content_cmp : Data → Data → Ordering
  content_cmp (boolean a) (boolean b) = bool_cmp a b
  content_cmp (integer a) (integer b) = int_cmp a b
  content_cmp (number a) (number b) = number_cmp a b
  content_cmp (text a) (text b) = text_cmp a b
  content_cmp (list ds) (list es) = items_cmp ds es
  content_cmp (object ms) (object ns) = members_cmp ms ns
  content_cmp u v = Equal

  pub items_cmp : Items → Items → Ordering
  items_cmp no_items no_items = Equal
  items_cmp no_items (item e es) = Less
  items_cmp (item d ds) no_items = Greater
  items_cmp (item d ds) (item e es) = ordering_then (ordering_then (rank_cmp d e) (content_cmp d e)) (items_cmp ds es)

  pub members_cmp : Members → Members → Ordering
  members_cmp no_members no_members = Equal
  members_cmp no_members (member l e ns) = Less
  members_cmp (member k d ms) no_members = Greater
  members_cmp (member k d ms) (member l e ns) =
      ordering_then (text_cmp l k) (ordering_then (ordering_then (rank_cmp d e) (content_cmp d e)) (members_cmp ms ns))

-- the tree order
abbrev pub tree_cmp : Data → Data → Ordering
tree_cmp u v = ordering_then (rank_cmp u v) (content_cmp u v)
