-- What the trees that a call takes and answers are to a contract: a tree, if any, and the trees of a page.
use Rattle.std.specs.Prelude.{List, map, Option, option_map}
use Rattle.std.specs.Borrow.{Bor}
use Rattle.jtree.specs.Data.{Data}
use Rattle.jtree.specs.View.{data_of}
use Rattle.jtree.specs.declared.value.Tree.{Tree}

-- the tree to go on from
abbrev pub resume_point : Option (Bor Tree) → Option Data
resume_point after = option_map (λ t. data_of t.now) after

abbrev pub tree_of : Option Tree → Option Data
tree_of tree = option_map (λ t. data_of t) tree

abbrev pub trees_of : List Tree → List Data
trees_of ts = map (λ t. data_of t) ts
