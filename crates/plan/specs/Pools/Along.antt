-- Pools that are changed along a path: they ask for the path and each beginning of it or no longer do, and have other lists of fixed
-- values there (this project's own).
use Rattle.std.specs.Prelude.{◌≡◌, ◌⊎◌, ◌++◌, ◌-◌, ℕ, List, [], ◌∷◌, length, take, map, option_map, false, Option, Some, is_some}
use Rattle.jtree.specs.Data.{Data, Members}
use Rattle.jtree.specs.MemberPlace.{changed_at}
use Rattle.jtree.specs.View.{data_of}
use Rattle.schema.specs.Document.Texts.{is_among}
use Rattle.schema.specs.Nodes.Node.{Node}
use Rattle.schema.specs.Nodes.ByPlace.{node_at}
use Rattle.explain.specs.Paths.FieldPath.{FieldPath, place_of}
use Rattle.explain.specs.Paths.PathText.{path_text}
use Rattle.plan.specs.Pools.Pools.{Pools, with_paths, fixed_at, is_present}
use Rattle.plan.specs.Samples.Site.{below}
use Rattle.plan.specs.Samples.Candidates.{sort_at}
use Rattle.plan.specs.declared.list_at.ListAt.{ListAt}
use Rattle.plan.specs.declared.sort.Sort.TheVariants.{Leaf}

-- the texts of the beginnings of a path, itself among them
abbrev pub beginnings : List ℕ → FieldPath → List (List ℕ)
beginnings front [] = []
beginnings front (s ∷ p) = below front s ∷ beginnings (below front s) p

-- members that are put in or taken off one after the other, the last one first
abbrev pub with_lists : List (List ℕ × Option Data) → Members → Members
with_lists [] ms = ms
with_lists (x ∷ xs) ms = changed_at x.0 x.1 (with_lists xs ms)

-- with these lists, and the path and its beginnings asked for
abbrev pub narrowed : Pools → List (List ℕ × Option Data) → FieldPath → Pools
narrowed P lists p = with_paths P (with_lists lists P.fixed) (P.present ++ beginnings [] p)

-- with these lists, and the last paths that are asked for asked for no longer: as many as the path has beginnings
abbrev pub widened : Pools → List (List ℕ × Option Data) → FieldPath → Pools
widened P lists p = with_paths P (with_lists lists P.fixed) (take (length P.present - length p) P.present)

-- a list for a path in the code, or that there is none
abbrev pub list_of : ListAt → List ℕ × Option Data
list_of l = (l.path, option_map data_of l.list)

abbrev pub lists_of : List ListAt → List (List ℕ × Option Data)
lists_of ls = map list_of ls

-- What they ask for and fix differs at the path and its beginnings alone; and but for scalars and open nodes, either both fix the values of a
-- node or neither does.
pub record DifferAlong (root : Node) (P Q : Pools) (p : FieldPath) : Type 0 where
  pub beside : (text : List ℕ) → is_among text (beginnings [] p) ≡ false → (is_present text Q ≡ is_present text P) × (fixed_at text Q ≡ fixed_at text P)
  pub whole : (q : FieldPath) (N : Node) → node_at root (place_of q) ≡ Some N → (sort_at N ≡ Leaf) ⊎ (is_some (fixed_at (path_text q) Q) ≡ is_some (fixed_at (path_text q) P))
