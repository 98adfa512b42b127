-- Why there is no plan: a node limit that is 0 or too great for the sets of sizes, or a path of the pools that does not lead where it
-- has to (this project's own).
use Rattle.std.specs.Prelude.{◌≡◌, ◌≢◌, ◌≤◌, ◌<◌, ◌⊎◌, ℕ, List, Some, Contains, string_bytes}
use Rattle.std.specs.declared.cmp.Ordering.TheVariants.{Less}
use Rattle.jtree.specs.Data.{Data, Members}
use Rattle.jtree.specs.Order.{text_cmp}
use Rattle.jtree.specs.Path.{member_at}
use Rattle.schema.specs.Nodes.Node.{Node}
use Rattle.schema.specs.Nodes.ByPlace.{node_at}
use Rattle.explain.specs.Paths.FieldPath.{place_of}
use Rattle.explain.specs.Fields.Declared.{IsDeclared}
use Rattle.explain.specs.Fields.PathFault.{IsTextOf}
use Rattle.plan.specs.Pools.Pools.{Pools}
use Rattle.plan.specs.Pools.FixedPaths.{IsFixablePath}
use Rattle.plan.specs.Samples.Candidates.{sort_at}
use Rattle.plan.specs.declared.sort.Sort.TheVariants.{Leaf}
use Rattle.plan.specs.declared.fault.PFault.{PFault}
use Rattle.plan.specs.declared.fault.PFault.TheVariants.{BadLimit, BadPath, NoMemory}

-- ---- where the paths of each member have to lead

-- under `paths`: the text is that of a declared path at which there is a scalar or an open node
abbrev pub IsLeafPath : Node → List ℕ → Type 0
IsLeafPath root text = IsTextOf (λ p. IsDeclared root p × ((N : Node) × ((node_at root (place_of p) ≡ Some N) × (sort_at N ≡ Leaf)))) text

-- in `present`: the text is that of a declared path
abbrev pub IsDeclaredPath : Node → List ℕ → Type 0
IsDeclaredPath root text = IsTextOf (IsDeclared root) text

-- there is a member of this name
abbrev pub HasName : Members → List ℕ → Type 0
HasName ms text = (d : Data) × (member_at text ms ≡ Some d)

-- ---- all texts of one member

abbrev pub AreGood : (List ℕ → Type 0) → (List ℕ → Type 0) → Type 0
AreGood Has Good = (text : List ℕ) → Has text → Good text

abbrev pub IsBad : (List ℕ → Type 0) → (List ℕ → Type 0) → List ℕ → Type 0
IsBad Has Good text = Has text × (Good text → ⊥)

-- the first bad text by bytes
abbrev pub IsFirstBad : (List ℕ → Type 0) → (List ℕ → Type 0) → List ℕ → Type 0
IsFirstBad Has Good text = IsBad Has Good text × ((other : List ℕ) → IsBad Has Good other → text_cmp other text ≢ Less)

-- ---- of all members

pub record HasGoodPaths (root : Node) (P : Pools) : Type 0 where
  pub paths : AreGood (HasName P.paths) (IsLeafPath root)
  pub fixed : AreGood (HasName P.fixed) (IsFixablePath root)
  pub present : AreGood (Contains P.present) (IsDeclaredPath root)

-- the first bad text of `paths`, else of `fixed`, else of `present`
pub data IsFirstBadPath (root : Node) (P : Pools) (text : List ℕ) : Type 0 where
  in_paths : IsFirstBad (HasName P.paths) (IsLeafPath root) text → IsFirstBadPath root P text
  in_fixed : AreGood (HasName P.paths) (IsLeafPath root) → IsFirstBad (HasName P.fixed) (IsFixablePath root) text → IsFirstBadPath root P text
  in_present : AreGood (HasName P.paths) (IsLeafPath root) → AreGood (HasName P.fixed) (IsFixablePath root)
      → IsFirstBad (Contains P.present) (IsDeclaredPath root) text → IsFirstBadPath root P text

-- the limit is judged before the paths
abbrev pub IsPlanFault : Node → Pools → ℕ → ℕ → PFault → Type 0
IsPlanFault root P limit bits BadLimit = (limit ≡ 0) ⊎ (bits ≤ limit)
IsPlanFault root P limit bits (BadPath text) = ((1 ≤ limit) × (limit < bits)) × IsFirstBadPath root P (string_bytes text)
IsPlanFault root P limit bits NoMemory = (1 ≤ limit) × (limit < bits)
IsPlanFault root P limit bits _ = ⊥
