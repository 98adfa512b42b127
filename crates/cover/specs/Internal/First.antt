-- The first sample in which what is wanted is there.
use Rattle.std.specs.Prelude.{◌≡◌, Option, Some, None, true}
use Rattle.jtree.specs.Data.{Data}
use Rattle.jtree.specs.Order.{tree_cmp}
use Rattle.explain.specs.Paths.FieldPath.{FieldPath}
use Rattle.plan.specs.Samples.Question.{Question}
use Rattle.enumerate.specs.Least.{IsLeast}
use Rattle.enumerate.specs.Page.{IsSampleOf}
use Rattle.cover.specs.There.{is_there}

-- a sample in which the path is there, with the value where one is wanted
abbrev pub IsSampleWith : Question → Option Data → FieldPath → Data → Type 0
IsSampleWith q o p v = IsSampleOf q v × (is_there o p v ≡ true)

-- the first one; or there is none
abbrev pub IsFirstSample : Question → Option Data → FieldPath → Option Data → Type 0
IsFirstSample q o p (Some v) = IsLeast tree_cmp (IsSampleWith q o p) v
IsFirstSample q o p None = (v : Data) → IsSampleWith q o p v → ⊥
