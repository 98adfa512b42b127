-- The samples from a size on.
use Rattle.std.specs.Prelude.{ℕ, ◌≤◌, Option, Some, None}
use Rattle.jtree.specs.Data.{Data}
use Rattle.jtree.specs.Nodes.{node_count}
use Rattle.jtree.specs.Order.{tree_cmp}
use Rattle.plan.specs.Samples.Question.{Question}
use Rattle.enumerate.specs.Least.{IsLeast}
use Rattle.enumerate.specs.Page.{IsSampleOf}

-- a sample of at least so many nodes
abbrev pub IsSampleFrom : Question → ℕ → Data → Type 0
IsSampleFrom q from v = IsSampleOf q v × (from ≤ node_count v)

-- the least sample of at least so many nodes; or there is none
abbrev pub IsFirstFrom : Question → ℕ → Option Data → Type 0
IsFirstFrom q from (Some v) = IsLeast tree_cmp (IsSampleFrom q from) v
IsFirstFrom q from None = (v : Data) → IsSampleFrom q from v → ⊥
