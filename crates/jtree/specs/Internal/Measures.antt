-- A part of a list or an object nests less deep than the whole: the measure of recursions over a tree.
use Rattle.std.specs.Prelude.{◌≤◌, max, List, [], ◌∷◌}
use Rattle.std.proofs.Common.{arith}
use Rattle.jtree.specs.Data.{depth, items_depth, members_depth}
use Rattle.jtree.specs.View.{data_of, items_of, members_of}
use Rattle.jtree.specs.declared.value.Tree.{Tree}
use Rattle.jtree.specs.declared.value.Tree.TheVariants as tree
use Rattle.jtree.specs.declared.value.Member.{Member}
use Rattle.jtree.specs.declared.value.Items.TheDeep.{deep-Tree, deep-Member}
use denote.Param.Weighed.{most}

tree_decreases : (t : Tree) → deep-Tree t ≤ depth (data_of t)
tree_decreases (tree.List ds) = omega arith
tree_decreases _ = omega arith

pub items_decrease : (ts : List Tree) → max (most (λ t. deep-Tree t) ts) 0 ≤ items_depth (items_of ts)
items_decrease [] = omega arith
items_decrease (t ∷ ts) = omega (arith, tree_decreases t, items_decrease ts)

pub members_decrease : (ms : List Member) → max (most (λ m. deep-Member m) ms) 0 ≤ members_depth (members_of ms)
members_decrease [] = omega arith
members_decrease (m ∷ ms) = omega (arith, tree_decreases m.tree, members_decrease ms)
