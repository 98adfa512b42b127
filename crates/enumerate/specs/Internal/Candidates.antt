-- Which of a leaf's candidates are free, where some values are used.
use Rattle.std.specs.Prelude.{◌<◌, ℕ, List, Bool, true, false, map, filter, length, reverse, Contains, Option, Some, None}
use Rattle.std.specs.Borrow.{Bor}
use Rattle.jtree.specs.Data.{Data}
use Rattle.jtree.specs.Path.{under}
use Rattle.jtree.specs.View.{data_of}
use Rattle.jtree.specs.declared.value.Tree.{Tree}
use Rattle.stored.specs.Objects.Tests.{is_same}
use Rattle.plan.specs.Samples.Question.{Question}
use Rattle.enumerate.specs.Page.{IsPast}
use Rattle.enumerate.specs.View.{trees_of}
use Rattle.enumerate.specs.Internal.Nodes.{IsPartOf}
use Rattle.enumerate.specs.declared.siblings.Rows.{Rows}
use Rattle.enumerate.specs.declared.siblings.Rows.TheVariants.{Listed, Chosen}
use Rattle.enumerate.specs.declared.siblings.Used.{Used}
use Rattle.enumerate.specs.declared.siblings.Used.TheVariants.{Items, Key}

abbrev pub rows_of : List (Bor Tree) → List Data
rows_of rs = map (λ r. data_of r.now) rs

-- objects that are used already
abbrev pub used_rows : Rows → List Data
used_rows (Listed ts) = trees_of ts.now
used_rows (Chosen rs) = rows_of rs.rows.now

-- the trees, the last one first
abbrev pub stack_of : List (Bor Tree) → List Data
stack_of rs = reverse (rows_of rs)

abbrev pub is_there : Option Data → Data → Bool
is_there None v = false
is_there (Some w) v = is_same w v

-- the object has the value under the name
abbrev pub has_under : List ℕ → Data → Data → Bool
has_under k v u = is_there (under u k) v

-- the objects that have the value under the name
abbrev pub agreeing : List ℕ → Data → List Data → List Data
agreeing k v us = filter (has_under k v) us

-- where the name is a key
abbrev pub agreeing_if : Bool → List ℕ → Data → List Data → List Data
agreeing_if true k v us = agreeing k v us
agreeing_if false k v us = us

abbrev pub IsFree : Used → Data → Type 0
IsFree (Items ts) v = Contains (trees_of ts.now) v → ⊥
IsFree (Key k) v = length (agreeing k.name.now v (used_rows k.rows)) < k.later

-- a part that is none of the items
abbrev pub IsUnusedPart : Question → ℕ → ℕ → List Data → Data → Type 0
IsUnusedPart q i n used v = IsPartOf q i n v × (Contains used v → ⊥)

-- a part that fewer of the rows have under the key than there are tuples of later keys
abbrev pub IsFreeKey : Question → ℕ → ℕ → List ℕ → List Data → ℕ → Data → Type 0
IsFreeKey q i n k rows later v = IsPartOf q i n v × (length (agreeing k v rows) < later)

-- a candidate of this size, past a place, that is free
pub record IsChoice (q : Question) (i n : ℕ) (after : Option Data) (used : Used) (v : Data) : Type 0 where
  pub part : IsPartOf q i n v
  pub past : IsPast after v
  pub free : IsFree used v
