-- The sites of a schema over pools that differ along a path.
use Rattle.std.specs.Prelude.{◌≡◌, ◌++◌, ◌<◌, ◌+◌, ℕ, List, length, Option, Some, None, true}
use Rattle.schema.specs.Nodes.Node.{Node, node, map, IsNode}
use Rattle.schema.specs.Nodes.ByPlace.{node_at}
use Rattle.explain.specs.Paths.FieldPath.{FieldPath, place_of}
use Rattle.explain.specs.Paths.FieldPath as step
use Rattle.explain.specs.Paths.PathText.{path_text}
use Rattle.plan.specs.Pools.Pools.{Pools, fixed_at}
use Rattle.plan.specs.Pools.FixedPaths.{is_map_list}
use Rattle.plan.specs.Pools.Along.{DifferAlong}
use Rattle.plan.specs.Samples.Sites.{Site, plain, below, site_at}
use Rattle.plan.specs.Samples.Candidates.{sort_of}
use Rattle.plan.specs.Internal.Frame.{ListTheSame}
use Rattle.plan.specs.Internal.Building.{IsSound}
use Rattle.plan.specs.declared.sort.Sort.TheVariants.{Leaf}

-- the same site over other pools
abbrev pub over : Pools → Site → Site
over P s = record { node = s.node; keys = s.keys; path = s.path; fixed = fixed_at s.path P }

-- the place of a site, whose values are fixed where the pools fix those at its path
pub record IsPlaced (root : Node) (P : Pools) (s : Site) : Type 0 where
  pub front : FieldPath
  pub leads : node_at root (place_of front) ≡ Some s.node
  pub path_is : s.path ≡ path_text front
  pub fixed_is : s.fixed ≡ fixed_at s.path P

-- the second is not at or below the first; and where the first is below it, it is no leaf
pub record IsEarlier (s t : Site) : Type 0 where
  pub apart : (x : FieldPath) → t.path ≡ s.path ++ path_text x → ⊥
  pub open_above : (x : FieldPath) → s.path ≡ t.path ++ path_text x → sort_of t ≡ Leaf → ⊥

-- the node of the values of a map
abbrev pub values_node : Node → Option Node
values_node (node nullable description (map N type bounds)) = Some N
values_node _ = None

-- the site of the values of a map is the one before it
pub record IsAfterValues (P : Pools) (sites : List Site) (j : ℕ) (s : Site) (N : Node) : Type 0 where
  pub before : ℕ
  pub next : before + 1 ≡ j
  pub site : site_at sites before ≡ plain P (below s.path step.value) N

-- all sites over the one pools and over the other ones
pub record IsWay (root : Node) (P Q : Pools) (p : FieldPath) (sites others : List Site) : Type 0 where
  pub lists : ListTheSame P Q
  pub differ : DifferAlong root P Q p
  pub items : (c : FieldPath) (N : Node) → node_at root (place_of c) ≡ Some N → is_map_list N ≡ true → fixed_at (below (path_text c) step.item) Q ≡ None
  pub placed : (j : ℕ) → j < length sites → IsPlaced root P (site_at sites j)
  pub sound : (j : ℕ) → j < length sites → IsNode (site_at sites j).node × IsSound (site_at sites j).node
  pub others_are : (j : ℕ) → j < length sites → site_at others j ≡ over Q (site_at sites j)
  pub count : length others ≡ length sites
  pub ordered : (i j : ℕ) → i < j → j < length sites → IsEarlier (site_at sites i) (site_at sites j)
  pub values : (j : ℕ) (N : Node) → j < length sites → (site_at sites j).fixed ≡ None → values_node (site_at sites j).node ≡ Some N → IsAfterValues P sites j (site_at sites j) N
