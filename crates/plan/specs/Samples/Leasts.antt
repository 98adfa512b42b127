-- Of numbers of one value the least in the tree order alone: `0.5`, and not `0.50` beside it (this project's own, so that no value is
-- there twice).
use Rattle.std.specs.Prelude.{List, [], ◌∷◌, Bool, false, ◌&&◌, ◌||◌, not, filter, Contains}
use Rattle.std.specs.Ordering.{is_lt}
use Rattle.jtree.specs.Data.{Data, number}
use Rattle.jtree.specs.OnlyIntegers.{HasOnlyIntegers}
use Rattle.jtree.specs.Order.{tree_cmp}
use Rattle.jtree.specs.SameValue.{same_value}

abbrev pub same_number : Data → Data → Bool
same_number (number s) (number t) = same_value (number s) (number t)
same_number _ _ = false

-- a lesser number of the same value is among them
abbrev pub has_lesser : Data → List Data → Bool
has_lesser v [] = false
has_lesser v (d ∷ ds) = (same_number d v && is_lt (tree_cmp d v)) || has_lesser v ds

abbrev pub leasts : List Data → List Data
leasts ds = filter (λ v. not (has_lesser v ds)) ds

-- nothing is left out of what has integers alone
abbrev pub KeepsIntegers : Type 0
KeepsIntegers = (ds : List Data) (v : Data) → HasOnlyIntegers v → Contains ds v → Contains (leasts ds) v
