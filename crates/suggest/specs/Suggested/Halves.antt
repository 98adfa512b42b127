-- The numbers that are suggested where a schema has a place of numbers: for each suggested integer the half after its digits, 3.5 for 3
-- and -3.5 for -3 (this project's own).
use Rattle.std.specs.Prelude.{ℤ, List, [], ◌∷◌, ◌++◌, Bool, true, false, ◌||◌, if◌then◌else◌, filter, Option, option_and_then, codes}
use Rattle.std.specs.Option.{option_to_list}
use Rattle.jtree.specs.Data.{Data, integer}
use Rattle.jtree.specs.ReadsAll.{tree_in, document_of}
use Rattle.jtree.specs.Text.{compact}
use Rattle.schema.specs.Nodes.Node.{Node, node, Sort, scalar, object, map, list, open_, Fields, no_fields, field}
use Rattle.schema.specs.declared.node.ScalarKind.{ScalarKind}
use Rattle.schema.specs.declared.node.ScalarKind.TheVariants.{Number}
use Rattle.plan.specs.Pools.Document.{is_any_number}

abbrev pub are_numbers : ScalarKind → Bool
are_numbers Number = true
are_numbers _ = false

-- the node is one of numbers, or has one below it
abbrev mutual
  pub has_numbers : Node → Bool
  has_numbers (node nullable description sort) = has_numbers_in sort

  pub has_numbers_in : Sort → Bool
  has_numbers_in (scalar kind cs) = are_numbers kind
  has_numbers_in (object fs preserves type bounds cs) = have_numbers fs
  has_numbers_in (map N type bounds) = has_numbers N
  has_numbers_in (list N type keys bounds) = has_numbers N
  has_numbers_in open_ = false

  pub have_numbers : Fields → Bool
  have_numbers no_fields = false
  have_numbers (field k N required default fs) = has_numbers N || have_numbers fs

-- what the digits of the integer, a point and a 5 read as
abbrev pub half_read : ℤ → Option Data
half_read z = option_and_then tree_in (document_of (compact (integer z) ++ codes ".5"))

-- where that is a number
abbrev pub half_after : ℤ → List Data
half_after z = filter is_any_number (option_to_list (half_read z))

abbrev pub halves : List ℤ → List Data
halves [] = []
halves (z ∷ zs) = half_after z ++ halves zs

abbrev pub numbers_for : Node → List ℤ → List Data
numbers_for root zs = if has_numbers root then halves zs else []
