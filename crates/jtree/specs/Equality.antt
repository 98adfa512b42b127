-- Which trees count as the same, and an order in which just these tie (this project's own).
use Rattle.std.specs.Prelude.{ℕ, Bool}
use Rattle.std.specs.Ordering.{nat_cmp, ordering_then, is_eq}
use Rattle.std.specs.declared.cmp.Ordering.{Ordering}
use Rattle.jtree.specs.Data.{Data}
use Rattle.jtree.specs.NumberOrder.{value_cmp}
use Rattle.jtree.specs.Order.{kind, tree_cmp}
use Rattle.jtree.specs.OrderBy.{tree_by}
use Rattle.jtree.specs.SameValue.{same_value}
use Rattle.jtree.specs.View.{data_of}
use Rattle.jtree.specs.declared.equality.Equality.{Equality}
use Rattle.jtree.specs.declared.equality.Equality.TheVariants.{Exact, ByValue}
use Rattle.jtree.specs.declared.equality.TreeKey.{TreeKey}

-- the two count as the same
abbrev pub equal_by : Equality → Data → Data → Bool
equal_by Exact u v = is_eq (tree_cmp u v)
equal_by ByValue u v = same_value u v

abbrev pub kind_cmp : Data → Data → Ordering
kind_cmp u v = nat_cmp (kind u) (kind v)

-- by kind, and then within it, where numbers compare by their values alone
abbrev pub value_order : Data → Data → Ordering
value_order = tree_by kind_cmp value_cmp

abbrev pub order_by : Equality → Data → Data → Ordering
order_by Exact u v = tree_cmp u v
order_by ByValue u v = value_order u v

-- ---- a tree as a key, with what it is compared by

abbrev pub rank : Equality → ℕ
rank Exact = 0
rank ByValue = 1

-- keys that are compared by the same tie where their trees count as the same
abbrev pub keyed_cmp : Equality × Data → Equality × Data → Ordering
keyed_cmp k l = ordering_then (nat_cmp (rank k.0) (rank l.0)) (order_by k.0 k.1 l.1)

abbrev pub keyed : TreeKey → Equality × Data
keyed k = (k.equality, data_of k.tree.now)
