-- The candidates of a leaf, and how wide a plan is (this project's own).
use Rattle.std.specs.Prelude.{◌≡◌, ℕ, ◌≤◌, ◌⊎◌, ◌↔◌, List, length, Contains, AllPairs}
use Rattle.std.specs.declared.cmp.Ordering.TheVariants.{Less}
use Rattle.jtree.specs.Data.{Data}
use Rattle.jtree.specs.Nodes.{node_count}
use Rattle.jtree.specs.Order.{tree_cmp}
use Rattle.schema.specs.Nodes.Node.{Node, node, scalar, list, open_}
use Rattle.schema.specs.declared.node.ListType.{ListType}
use Rattle.schema.specs.declared.node.ListType.TheVariants as list_type
use Rattle.plan.specs.Pools.Pools.{Pools}
use Rattle.plan.specs.Samples.Part.{IsPart}
use Rattle.plan.specs.Samples.Question.{Question}
use Rattle.plan.specs.Samples.Sites.{Site, where_fixed, sites_of, slots}
use Rattle.plan.specs.declared.sort.Distinct.{Distinct}
use Rattle.plan.specs.declared.sort.Distinct.TheVariants.{Free, Whole, Keys}
use Rattle.plan.specs.declared.sort.Sort.{Sort}
use Rattle.plan.specs.declared.sort.Sort.TheVariants.{Leaf, Row, List as ListSort}

-- a leaf holds one of its candidates, a row members under its slots, a list items that are parts of one site
abbrev pub sort_at : Node → Sort
sort_at (node nullable description (scalar kind cs)) = Leaf
sort_at (node nullable description open_) = Leaf
sort_at (node nullable description (list N type keys bounds)) = ListSort
sort_at _ = Row

-- a site whose values are fixed is a leaf, whatever its node is
abbrev pub sort_of : Site → Sort
sort_of s = where_fixed s.fixed Leaf (sort_at s.node)

-- which items may not be in one list (`x-kubernetes-list-type`)
abbrev pub distinct_by : ListType → Distinct
distinct_by (list_type.Set e) = Whole
distinct_by (list_type.Map e) = Keys
distinct_by _ = Free

abbrev pub distinct_at : Node → Distinct
distinct_at (node nullable description (list N type keys bounds)) = distinct_by type
distinct_at _ = Free

abbrev pub distinct_of : Site → Distinct
distinct_of s = where_fixed s.fixed Free (distinct_at s.node)

-- the values for which A holds, in the tree order, each once
pub record AreAll (A : Data → Type 0) (vs : List Data) : Type 0 where
  pub each : (v : Data) → Contains vs v ↔ A v
  pub ascending : AllPairs (λ u v. tree_cmp u v ≡ Less) vs

-- A holds for this many values
pub record HasCount (A : Data → Type 0) (count : ℕ) : Type 0 where
  pub values : List Data
  pub are : AreAll A values
  pub count_is : length values ≡ count

-- a part with at most as many nodes as the limit; null is one where it is accepted
abbrev pub IsCandidate : Pools → ℕ → Site → Data → Type 0
IsCandidate P limit s v = IsPart P s v × (node_count v ≤ limit)

abbrev pub AreCandidates : Pools → ℕ → Site → List Data → Type 0
AreCandidates P limit s vs = AreAll (IsCandidate P limit s) vs

-- how wide a site is: by the candidates of a leaf, by the slots of a row
abbrev pub HasWidthBy : Sort → Pools → ℕ → Site → ℕ → Type 0
HasWidthBy Leaf P limit s width = HasCount (IsCandidate P limit s) width
HasWidthBy Row P limit s width = length (slots P s) ≡ width
HasWidthBy ListSort P limit s width = width ≡ 0

abbrev pub HasWidth : Pools → ℕ → Site → ℕ → Type 0
HasWidth P limit s width = HasWidthBy (sort_of s) P limit s width

-- the width of the widest site
pub record IsWidth (q : Question) (width : ℕ) : Type 0 where
  pub each : (s : Site) (w : ℕ) → Contains (sites_of q.pools q.root) s → HasWidth q.pools q.limit s w → w ≤ width
  pub reached : (width ≡ 0) ⊎ ((s : Site) × (Contains (sites_of q.pools q.root) s × HasWidth q.pools q.limit s width))
