-- The parts of the nodes of a plan, by the nodes' numbers, and what it costs to find them.
use Rattle.std.specs.Prelude.{◌≡◌, ◌≢◌, ◌↔◌, ℕ, zero, suc, ◌+◌, ◌*◌, ◌≤◌, ◌<◌, List, [], All, AllPairs, length, filter}
use Rattle.jtree.specs.Data.{Data}
use Rattle.jtree.specs.Nodes.{node_count}
use Rattle.plan.specs.Pools.Pools.{Pools}
use Rattle.plan.specs.Samples.Keys.{HasSoundParts}
use Rattle.plan.specs.Samples.NoDeadEnd.{IsTuple, AreCounts, product, HasFree, NoDeadEnd, is_key}
use Rattle.plan.specs.Samples.Part.{IsPart}
use Rattle.plan.specs.Samples.RuleOfParts.{RuleOfParts}
use Rattle.plan.specs.Samples.Sites.{Site, Slot, site_at, sites_of, slots}
use Rattle.plan.specs.Samples.Sizes.{HasSize}
use Rattle.plan.specs.Samples.Candidates.{IsCandidate, IsWidth, sort_of}
use Rattle.plan.specs.Samples.Question.{Question}
use Rattle.plan.specs.declared.sort.Sort.{Sort}

-- the site of a node of the plan of this question
abbrev pub site : Question → ℕ → Site
site q i = site_at (sites_of q.pools q.root) i

abbrev pub IsNodeOf : Question → ℕ → Type 0
IsNodeOf q i = i < length (sites_of q.pools q.root)

pub record IsNodeOfSort (q : Question) (i : ℕ) (s : Sort) : Type 0 where
  pub node : IsNodeOf q i
  pub sort : sort_of (site q i) ≡ s

-- a node of this sort, and so many nodes are within the limit
pub record IsNodeWithin (q : Question) (i : ℕ) (s : Sort) (n : ℕ) : Type 0 where
  pub node : IsNodeOfSort q i s
  pub limit : n ≤ q.limit

-- a part of so many nodes
pub record IsPartOf (q : Question) (i n : ℕ) (v : Data) : Type 0 where
  pub part : IsPart q.pools (site q i) v
  pub nodes_are : node_count v ≡ n

-- a candidate, where the node is a leaf
abbrev pub IsCandidateOf : Question → ℕ → Data → Type 0
IsCandidateOf q i v = IsCandidate q.pools q.limit (site q i) v

abbrev pub HasSizeAt : Question → ℕ → ℕ → Type 0
HasSizeAt q i n = HasSize q.pools (site q i) n

-- for each of n nodes, at most as many steps as the plan is wide, and one
abbrev pub Costs : Question → ℕ → ℕ → ℕ → Type 0
Costs q old new n = (w : ℕ) → IsWidth q w → new ≤ old + (w + 1) * n

-- how much there is to go through at the nodes before a number: a measure of recursions
abbrev pub weight : Question → ℕ → ℕ
weight q zero = 0
weight q (suc i) = weight q i + (4 * length (slots q.pools (site q i)) + (4 * q.limit + 8))

-- a number of which the other set has what is left of m
abbrev pub IsSplit : (ℕ → Type 0) → (ℕ → Type 0) → ℕ → ℕ → Type 0
IsSplit A B m n = A n × ((j : ℕ) × (B j × (n + j ≡ m)))

-- A tuple of candidates is left exactly where fewer are used than there are.
abbrev pub FreeLaw : Type 0
FreeLaw = (P : Pools) (ss : List Slot) (used : List (List Data)) (counts : List ℕ) → All (IsTuple P ss) used → AllPairs (λ t u. t ≢ u) used → AreCounts P ss counts → HasFree P ss used [] ↔ (length used < product counts)

-- the laws of a node's parts
pub record HasLaws (q : Question) (i : ℕ) : Type 0 where
  pub rule : RuleOfParts q.pools q.limit (site q i)
  pub completed : NoDeadEnd q.pools q.limit (site q i)
  pub sound : HasSoundParts q.pools (site q i)
  pub counts : (counts : List ℕ) × AreCounts q.pools (filter is_key (slots q.pools (site q i))) counts
  pub free : FreeLaw
  pub limit : q.limit < 4294967296
