-- The plain data that a `Tree` of the code represents.
use Rattle.std.specs.Prelude.{List, [], ◌∷◌}
use Rattle.jtree.specs.Data.{Data, null, boolean, integer, number, text, list, object, Items, no_items, item, Members, no_members, member}
use Rattle.jtree.specs.declared.value.Tree.{Tree}
use Rattle.jtree.specs.declared.value.Tree.TheVariants as tree
use Rattle.jtree.specs.declared.value.Member.{Member}

abbrev pub data_of : Tree → Data
data_of tree.Null = null
data_of (tree.Bool b) = boolean b
data_of (tree.Int z) = integer z
data_of (tree.Number s) = number s
data_of (tree.Text s) = text s
data_of (tree.List ds) = list ds
data_of (tree.Object ms) = object ms

abbrev pub tree_from : Data → Tree
tree_from null = tree.Null
tree_from (boolean b) = tree.Bool b
tree_from (integer z) = tree.Int z
tree_from (number s) = tree.Number s
tree_from (text s) = tree.Text s
tree_from (list ds) = tree.List ds
tree_from (object ms) = tree.Object ms

abbrev pub items_of : List Tree → Items
items_of [] = no_items
items_of (t ∷ ts) = item (data_of t) (items_of ts)

abbrev pub members_of : List Member → Members
members_of [] = no_members
members_of (m ∷ ms) = member m.name (data_of m.tree) (members_of ms)
