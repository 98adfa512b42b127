-- For private contracts: the leaves of a value at its node in order, level by level, and how a walk lists them.
use Rattle.std.specs.Prelude.{ℕ, suc, List, [], ◌∷◌, ◌++◌, map, Bool, true, false, Option, Some, if◌then◌else◌, codes}
use Rattle.jtree.specs.Data.{Data, Items, no_items, item, Members, no_members, member}
use Rattle.jtree.specs.Data as tree
use Rattle.jtree.specs.Path.{Step, name, index}
use Rattle.schema.specs.Nodes.Node.{Node, node, object, map as map_of, list}
use Rattle.schema.specs.declared.node.ListType.{ListType}
use Rattle.schema.specs.declared.node.ListType.TheVariants as list_type
use Rattle.schema.specs.declared.node.MapType.{MapType}
use Rattle.schema.specs.declared.node.MapType.TheVariants as map_type
use Rattle.stored.specs.Objects.Leaves.{is_divided, item_element, LeafAt, elements_of}
use Rattle.stored.specs.Internal.Pruning.{field_node, by_node}
use Rattle.stored.specs.declared.listing.Walk.{Walk}

-- ---- by level

-- an object and a list that are not empty, by how they merge
abbrev pub divides_object : MapType → Members → Bool
divides_object map_type.Granular (member k d ms) = true
divides_object _ _ = false

abbrev pub divides_list : ListType → Items → Bool
divides_list list_type.Atomic ds = false
divides_list _ no_items = false
divides_list _ (item d ds) = true

-- the value itself is a leaf
abbrev pub here : LeafAt
here = record { path = []; elements = [] }

-- a leaf of a part, as one of the value
abbrev pub below : Step → List ℕ → LeafAt → LeafAt
below s e l = record { path = s ∷ l.path; elements = e ∷ l.elements }

abbrev pub whole : Node → Data → List LeafAt → List LeafAt
whole N v parts = if is_divided N v then parts else here ∷ []

-- of the parts of a value, whether it is divided or not
abbrev mutual
  pub leaves_below : Node → Data → List LeafAt
  leaves_below (node nullable description (object fs preserves type bounds cs)) (tree.object ms) = of_members (field_node fs) ms
  leaves_below (node nullable description (map_of N type bounds)) (tree.object ms) = of_members (λ k. Some N) ms
  leaves_below (node nullable description (list N type keys bounds)) (tree.list ds) = of_items N (item_element type keys) 0 ds
  leaves_below _ _ = []

  -- each member by the node of its name
  pub of_members : (List ℕ → Option Node) → Members → List LeafAt
  of_members nodes no_members = []
  of_members nodes (member k d ms) = map (below (name k) (codes "f:" ++ k)) (by_node (nodes k) (λ N. whole N d (leaves_below N d)) (here ∷ [])) ++ of_members nodes ms

  -- from an index on
  pub of_items : Node → (Data → List ℕ) → ℕ → Items → List LeafAt
  of_items N element i no_items = []
  of_items N element i (item d ds) = map (below (index i) (element d)) (whole N d (leaves_below N d)) ++ of_items N element (suc i) ds

-- all leaves of a value
abbrev pub leaves_by_level : Node → Data → List LeafAt
leaves_by_level N v = whole N v (leaves_below N v)

-- and where it has no node, the value as a whole
abbrev pub part_leaves : Option Node → Data → List LeafAt
part_leaves o v = by_node o (λ N. leaves_by_level N v) (here ∷ [])

-- ---- as they are listed

-- the elements on the way to the place that a walk has come to, and what is listed so far
pub record Walked : Type 0 where
  pub way : List (List ℕ)
  pub listed : List (List (List ℕ))

abbrev pub walked : Walk → Walked
walked w = record { way = w.way.items; listed = map elements_of w.leaves.items }

abbrev pub added : Walked → List LeafAt → Walked
added p ls = record { way = p.way; listed = p.listed ++ map (λ l. p.way ++ l.elements) ls }
