-- The values of the pools, and the candidates of a leaf, as a plan keeps them.
use Rattle.std.specs.Prelude.{◌≡◌, ◌≤◌, ◌↔◌, ℕ, List, [], ◌∷◌, ◌++◌, false, Option, Some, None, map, get_or, Contains, AllPairs}
use Rattle.std.specs.declared.cmp.Ordering.{Ordering}
use Rattle.std.specs.declared.cmp.Ordering.TheVariants.{Less}
use Rattle.jtree.specs.Data.{Data, null, IsTree}
use Rattle.jtree.specs.Nodes.{node_count}
use Rattle.jtree.specs.Order.{tree_cmp}
use Rattle.jtree.specs.View.{data_of}
use Rattle.jtree.specs.declared.value.Tree.{Tree}
use Rattle.schema.specs.Nodes.Node.{Node, node, scalar, Validations, validations, no_branches}
use Rattle.schema.specs.Nodes.Validations.{presence}
use Rattle.schema.specs.declared.node.ScalarKind.{ScalarKind}
use Rattle.schema.specs.declared.node.ScalarKind.TheVariants.{Boolean, Integer, Number, String, IntOrString}
use Rattle.stored.specs.Objects.Becomes.{IsStored}
use Rattle.plan.specs.Pools.Pools.{Pools}
use Rattle.plan.specs.Samples.Leasts.{leasts}
use Rattle.plan.specs.Samples.Over.{scalars_of, listed}
use Rattle.plan.specs.Samples.Names.{in_order}
use Rattle.plan.specs.declared.values.Values.{Values}
use Rattle.plan.specs.declared.kinds.Kinds.{Kinds}
use Rattle.plan.specs.declared.leaf.Base.{Base}
use Rattle.plan.specs.declared.leaf.Base.TheVariants.{Scalars, Any, Own}
use Rattle.plan.specs.declared.leaf.Leaf.{Leaf}

abbrev pub trees_of : List Tree → List Data
trees_of ts = map (λ t. data_of t) ts

-- the same elements, in order, each once
pub record IsInOrder {X : Type 0} (cmp : X → X → Ordering) (xs ys : List X) : Type 0 where
  pub each : (x : X) → Contains ys x ↔ Contains xs x
  pub ascending : AllPairs (λ x y. cmp x y ≡ Less) ys

-- the same trees, in the tree order, each once
abbrev pub IsBase : List Data → List Tree → Type 0
IsBase xs ts = IsInOrder tree_cmp xs (trees_of ts)

-- the trees at these places, and another past the last
abbrev pub at_places : Tree → List Tree → List ℕ → List Data
at_places past ts places = map (λ i. data_of (get_or ts i past)) places

-- those for which A holds, in the same order
pub record AreKept (A : Data → Type 0) (ds vs : List Data) : Type 0 where
  pub each : (v : Data) → Contains vs v ↔ (Contains ds v × A v)
  pub ascending : AllPairs (λ u v. tree_cmp u v ≡ Less) ds → AllPairs (λ u v. tree_cmp u v ≡ Less) vs

-- a tree that is stored at the node, with at most as many nodes as the limit
abbrev pub IsStoredWithin : ℕ → Node → Data → Type 0
IsStoredWithin limit N v = IsTree v × IsStored N v × (node_count v ≤ limit)

abbrev pub AreStored : ℕ → Node → List Data → List Data → Type 0
AreStored limit N ds vs = AreKept (IsStoredWithin limit N) ds vs

-- a scalar of which nothing is asked but its kind
abbrev pub no_validations : Validations
no_validations = validations (presence []) no_branches no_branches no_branches no_branches

abbrev pub of_kind : ScalarKind → Node
of_kind kind = node false None (scalar kind no_validations)

abbrev pub places_of : Kinds → ScalarKind → List ℕ
places_of k Boolean = k.booleans.items
places_of k Integer = k.integers.items
places_of k String = k.strings.items
places_of k Number = k.numbers.items
places_of k IntOrString = k.integers_and_strings.items

-- among which trees the values of a kind are: the first list, or the second for numbers
abbrev pub by_kind : List Tree → List Tree → ScalarKind → List Tree
by_kind ts ns Number = ns
by_kind ts ns _ = ts

-- where the values of each kind are among these trees: each is one node
abbrev pub AreKinds : List Tree → List Tree → Kinds → Type 0
AreKinds ts ns k = (kind : ScalarKind) (past : Tree) → AreStored 1 (of_kind kind) (trees_of (by_kind ts ns kind)) (at_places past (by_kind ts ns kind) (places_of k kind))

pub record AreValues (P : Pools) (v : Values) : Type 0 where
  pub scalars : IsBase (null ∷ leasts (scalars_of P)) v.scalars.items
  pub numbers : IsBase (null ∷ leasts (P.numbers ++ scalars_of P)) v.numbers.items
  pub kinds : AreKinds v.scalars.items v.numbers.items v.kinds
  pub any : IsBase (null ∷ leasts P.any) v.any.items
  pub names : v.names.items ≡ in_order P.names

abbrev pub base_of : Values → Base → List Tree
base_of v (Scalars kind) = by_kind v.scalars.items v.numbers.items kind
base_of v Any = v.any.items
base_of v (Own ts) = ts.items

-- among which values the candidates of a leaf are: the fixed ones, or null and what is listed
abbrev pub choices_at : Pools → Option (List Data) → List ℕ → Node → List Data
choices_at P (Some ds) path N = leasts ds
choices_at P None path N = null ∷ listed P path N

-- the tree at a place of a base
abbrev pub tree_of : Values → Base → ℕ → Tree
tree_of v b i = get_or (base_of v b) i v.null

-- the candidates of a leaf, by their places
abbrev pub candidates_of : Values → Leaf → List Data
candidates_of v l = at_places v.null (base_of v l.base) l.places.items
