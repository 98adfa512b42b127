-- A page of samples: the first ones past a place, each once, in the tree order (this project's own). A question has at most one page of
-- a count past a place (`pages_agree`), whatever sets of sizes its plan has.
use Rattle.std.specs.Prelude.{◌≡◌, ◌≤◌, ◌⊎◌, ◌↔◌, ℕ, List, length, Bool, false, IsTrue, Option, Some, None, All, AllPairs, Contains}
use Rattle.std.specs.declared.cmp.Ordering.TheVariants.{Less}
use Rattle.jtree.specs.Data.{Data}
use Rattle.jtree.specs.Order.{tree_cmp}
use Rattle.plan.specs.Samples.Part.{IsSample}
use Rattle.plan.specs.Samples.Question.{Question}

-- u is before v in the tree order
abbrev pub Precedes : Data → Data → Type 0
Precedes u v = tree_cmp u v ≡ Less

-- past the given tree, or past nothing
abbrev pub IsPast : Option Data → Data → Type 0
IsPast None v = Unit {0}
IsPast (Some a) v = Precedes a v

-- a sample of the plan that asks this question
abbrev pub IsSampleOf : Question → Data → Type 0
IsSampleOf q v = IsSample q.root q.pools q.limit v

-- a sample that a page past this place has to list or leave for later
pub record IsPastSample (q : Question) (after : Option Data) (v : Data) : Type 0 where
  pub sample : IsSampleOf q v
  pub past : IsPast after v

pub record IsPage (q : Question) (after : Option Data) (count : ℕ) (items : List Data) (end : Bool) : Type 0 where
  pub samples : All (IsPastSample q after) items
  -- each item is before all later ones
  pub ascending : AllPairs Precedes items
  pub short : length items ≤ count
  -- a sample past the place that is no item comes after all items
  pub rest : (v : Data) → IsPastSample q after v → Contains items v ⊎ All (λ u. Precedes u v) items
  -- the end is answered exactly where no sample past the place is left out
  pub exact_end : IsTrue end ↔ ((v : Data) → IsPastSample q after v → Contains items v)
  pub full : end ≡ false → length items ≡ count
