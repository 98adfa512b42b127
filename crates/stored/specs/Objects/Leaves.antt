-- The leaves of a stored object: what an applier owns of it, each as a list of path elements (apiextensions.k8s.io/v1, merge
-- markers; Server-Side Apply, FieldsV1). The text and the order of elements, that leaves alone are listed, and that the value of an
-- open node and a member that is not declared are one leaf each, are this project's own.
use Rattle.std.specs.Prelude.{◌≡◌, ◌≢◌, ◌++◌, ℕ, List, [], ◌∷◌, map, All, AllPairs, Contains, Bool, true, false, Option, Some, None, option_map, option_and_then, if◌then◌else◌, codes}
use Rattle.std.specs.declared.cmp.Ordering.TheVariants.{Less}
use Rattle.jtree.specs.Data.{Data, Members, no_members, member, item}
use Rattle.jtree.specs.Data as tree
use Rattle.jtree.specs.Path.{Step, name, index, Path, part_at}
use Rattle.jtree.specs.PathOrder.{path_cmp}
use Rattle.jtree.specs.Text.{compact}
use Rattle.schema.specs.Document.Texts.{is_among}
use Rattle.schema.specs.Nodes.Node.{Node, node, object, map as map_of, list}
use Rattle.schema.specs.declared.node.ListType.{ListType}
use Rattle.schema.specs.declared.node.ListType.TheVariants as list_type
use Rattle.schema.specs.declared.node.MapType.TheVariants as map_type
use Rattle.stored.specs.Objects.Parts.{Part, at, free, value_of, leads}
use Rattle.stored.specs.declared.leaf.Leaf.{Leaf}

-- ---- what is one leaf

-- the leaves of the value are those of its parts: so it is with objects and maps that are granular, with sets and with map lists,
-- where they are not empty
abbrev pub is_divided : Node → Data → Bool
is_divided (node nullable description (object fs preserves map_type.Granular bounds cs)) (tree.object (member k d ms)) = true
is_divided (node nullable description (map_of N map_type.Granular bounds)) (tree.object (member k d ms)) = true
is_divided (node nullable description (list N (list_type.Set e) keys bounds)) (tree.list (item d ds)) = true
is_divided (node nullable description (list N (list_type.Map e) keys bounds)) (tree.list (item d ds)) = true
is_divided _ _ = false

-- ---- elements

-- the members of an object that are keys of a map list
abbrev pub members_among : List (List ℕ) → Members → Members
members_among keys no_members = no_members
members_among keys (member k d ms) = if is_among k keys then member k d (members_among keys ms) else members_among keys ms

abbrev pub keys_in : List (List ℕ) → Data → Data
keys_in keys (tree.object ms) = tree.object (members_among keys ms)
keys_in keys v = v

-- of an item: in a map list its keys, and in a set the item itself
abbrev pub item_element : ListType → List (List ℕ) → Data → List ℕ
item_element (list_type.Map e) keys v = codes "k:" ++ compact (keys_in keys v)
item_element _ keys v = codes "v:" ++ compact v

-- of the part to which a step leads from a value at its node
abbrev pub element : Node → Step → Data → List ℕ
element N (name k) v = codes "f:" ++ k
element (node nullable description (list N type keys bounds)) (index i) v = item_element type keys v
element _ _ v = []

-- ---- leaves

-- the elements of the leaf at a path: each part on the way is divided, and the part at its end is not. There is none at another
-- path.
abbrev pub leaf_at : Part → Path → Option (List (List ℕ))
leaf_at (at N v) [] = if is_divided N v then None else Some []
leaf_at (at N v) (s ∷ path) =
    if is_divided N v then option_and_then (λ q. option_map (λ elements. element N s (value_of q) ∷ elements) (leaf_at q path)) (leads N v s) else None
leaf_at (free v) [] = Some []
leaf_at (free v) (s ∷ path) = None

-- a leaf, by the path of its part
pub record LeafAt : Type 0 where
  pub path : Path
  pub elements : List (List ℕ)

pub record AreLeavesAt (N : Node) (v : Data) (ls : List LeafAt) : Type 0 where
  pub each : All (λ l. leaf_at (at N v) l.path ≡ Some l.elements) ls
  pub all : (path : Path) (elements : List (List ℕ)) → leaf_at (at N v) path ≡ Some elements → Contains ls (record { path = path; elements = elements })
  pub ascending : AllPairs (λ l m. path_cmp l.path m.path ≡ Less) ls

-- of a leaf of the code
abbrev pub elements_of : Leaf → List (List ℕ)
elements_of l = l.elements.items

-- all leaves, in the order of members by the bytes of their names and of items by their place
abbrev pub AreLeaves : Node → Data → List (List (List ℕ)) → Type 0
AreLeaves N v leaves = (ls : List LeafAt) × AreLeavesAt N v ls × (map (λ l. l.elements) ls ≡ leaves)

-- ---- laws

-- The elements of none begin those of another, at a later place of the list or at an earlier one. It takes a schema that breaks no rule:
-- at other nodes a set could hold objects, or a map list items without keys.
abbrev pub BeginsNone : List (List ℕ) → List (List ℕ) → Type 0
BeginsNone e f = ((rest : List (List ℕ)) → e ++ rest ≢ f) × ((rest : List (List ℕ)) → f ++ rest ≢ e)

abbrev pub AreApart : List (List (List ℕ)) → Type 0
AreApart leaves = AllPairs BeginsNone leaves

-- a scalar or null
abbrev pub is_simple : Data → Bool
is_simple (tree.list ds) = false
is_simple (tree.object ms) = false
is_simple _ = true

-- exactly one leaf is at the path or at a beginning of it
pub record HasOneLeaf (N : Node) (v : Data) (path : Path) : Type 0 where
  pub before : Path
  pub after : Path
  pub is : path ≡ before ++ after
  pub elements : List (List ℕ)
  pub there : leaf_at (at N v) before ≡ Some elements
  pub only : (b a : Path) (es : List (List ℕ)) → path ≡ b ++ a → leaf_at (at N v) b ≡ Some es → b ≡ before

abbrev pub IsCovered : Node → Data → Type 0
IsCovered N v = (path : Path) (d : Data) → part_at v path ≡ Some d → is_simple d ≡ true → HasOneLeaf N v path
