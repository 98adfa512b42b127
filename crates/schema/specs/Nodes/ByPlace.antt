-- The nodes of a schema: one for each place that is in no branch of a junctor, of the kind of the schema there and with its
-- keywords (OpenAPI 3.0, Schema Object; apiextensions.k8s.io/v1, JSONSchemaProps).
use Rattle.std.specs.Prelude.{◌≡◌, ℕ, List, [], ◌∷◌, Bool, true, false, Option, Some, None, option_map, option_and_then, if◌then◌else◌, codes}
use Rattle.std.specs.Str.{bytes_eq}
use Rattle.jtree.specs.Data.{Data}
use Rattle.jtree.specs.Path.{under}
use Rattle.jtree.specs.declared.equality.Equality.{Equality}
use Rattle.jtree.specs.declared.equality.Equality.TheVariants.{Exact, ByValue}
use Rattle.schema.specs.Document.Texts.{is_among}
use Rattle.schema.specs.Document.Raw.{Raw}
use Rattle.schema.specs.Document.Places.{Step, Place, property, map_value, items, schema_by, schema_at, IsPlace, is_inside, IsEnvelope}
use Rattle.schema.specs.Rules.Kinds as kinds
use Rattle.schema.specs.Rules.Kinds.{Kind, IsOfKind}
use Rattle.schema.specs.Rules.Keywords.{flag, text_under, count_under, texts_under}
use Rattle.schema.specs.Nodes.Validations.{AreValidationsOf, AreObjectJunctorsOf}
use Rattle.schema.specs.Nodes.Node.{Node, node, Sort, scalar, object, map, list, open_, Fields, no_fields, field, IsNode}
use Rattle.schema.specs.declared.node.Bounds.{Bounds}
use Rattle.schema.specs.declared.node.ListType.{ListType}
use Rattle.schema.specs.declared.node.ListType.TheVariants as list_type
use Rattle.schema.specs.declared.node.MapType.{MapType}
use Rattle.schema.specs.declared.node.MapType.TheVariants as map_type
use Rattle.schema.specs.declared.profile.Profile.{Profile}
use Rattle.schema.specs.declared.profile.Profile.TheVariants.{Core, Cluster}

-- ---- a node and the schema of its place

-- the kind of the schemas that have a node of this sort
abbrev pub sort_kind : Sort → Kind
sort_kind (scalar kind cs) = kinds.scalar kind
sort_kind (object fs preserves type bounds cs) = kinds.object
sort_kind (map N type bounds) = kinds.map
sort_kind (list N type keys bounds) = kinds.list
sort_kind open_ = kinds.open_

-- which items and keys count as the same: a cluster has numbers that are no integers as floats
abbrev pub equality_of : Profile → Equality
equality_of Core = Exact
equality_of Cluster = ByValue

-- a list is atomic where nothing else is said (`x-kubernetes-list-type`); another string counts as absent, and V10 leaves none
abbrev pub list_type_named : Equality → Option (List ℕ) → ListType
list_type_named e None = list_type.Atomic
list_type_named e (Some t) = if bytes_eq t (codes "set") then list_type.Set e else if bytes_eq t (codes "map") then list_type.Map e else list_type.Atomic

-- an object or a map is granular where nothing else is said (`x-kubernetes-map-type`); V13 leaves no other string
abbrev pub map_type_named : Option (List ℕ) → MapType
map_type_named None = map_type.Granular
map_type_named (Some t) = if bytes_eq t (codes "atomic") then map_type.Atomic else map_type.Granular

-- the bounds are those of two keywords (OpenAPI 3.0, `minProperties`, `maxItems` and the like)
abbrev pub AreBoundsOf : Bounds → Data → List ℕ → List ℕ → Type 0
AreBoundsOf b s least most = (b.least ≡ count_under s least) × (b.most ≡ count_under s most)

-- what is asked of the value itself is what the keywords of the schema say (JSONSchemaProps)
abbrev pub HasKeywords : Profile → Sort → Data → Type 0
HasKeywords profile (scalar kind cs) s = AreValidationsOf profile cs s
HasKeywords profile (object fs preserves type bounds cs) s =
    (preserves ≡ flag s (codes "x-kubernetes-preserve-unknown-fields")) × (type ≡ map_type_named (text_under s (codes "x-kubernetes-map-type")))
    × AreBoundsOf bounds s (codes "minProperties") (codes "maxProperties") × AreObjectJunctorsOf cs s
HasKeywords profile (map N type bounds) s =
    (type ≡ map_type_named (text_under s (codes "x-kubernetes-map-type"))) × AreBoundsOf bounds s (codes "minProperties") (codes "maxProperties")
HasKeywords profile (list N type keys bounds) s =
    (type ≡ list_type_named (equality_of profile) (text_under s (codes "x-kubernetes-list-type"))) × (keys ≡ texts_under s (codes "x-kubernetes-list-map-keys"))
    × AreBoundsOf bounds s (codes "minItems") (codes "maxItems")
HasKeywords profile open_ s = Unit {0}

-- the node, leaving aside the nodes below it, is of the schema's kind and has its keywords
abbrev pub IsNodeHere : Profile → Node → Data → Type 0
IsNodeHere profile (node nullable description sort) s =
    (nullable ≡ flag s (codes "nullable")) × (description ≡ text_under s (codes "description")) × IsOfKind profile s (sort_kind sort) × HasKeywords profile sort s

-- ---- the nodes below a node

-- what an object node says of a field: its node, whether it is required, and its default
pub record Declared : Type 0 where
  pub node : Node
  pub required : Bool
  pub default : Option Data

-- the field of a name
abbrev pub field_at : List ℕ → Fields → Option Declared
field_at k no_fields = None
field_at k (field l N required default fs) = if bytes_eq k l then Some (record { node = N; required = required; default = default }) else field_at k fs

-- where a step leads in a tree of nodes: from an object to the node of a field, from a map to that of its values, and from a
-- list to that of its items (this project's own)
abbrev pub node_below : Node → Step → Option Node
node_below (node nullable description (object fs preserves type bounds cs)) (property k) = option_map (λ f. f.node) (field_at k fs)
node_below (node nullable description (map N type bounds)) map_value = Some N
node_below (node nullable description (list N type keys bounds)) items = Some N
node_below _ _ = None

-- where a list of steps leads
abbrev pub node_at : Node → Place → Option Node
node_at N [] = Some N
node_at N (step ∷ p) = option_and_then (λ M. node_at M p) (node_below N step)

-- a field is required where the schema of the object says so, and has the default of the schema of its own place
-- (OpenAPI 3.0, `required` and `default`)
abbrev pub AreFieldsHere : Node → Data → Type 0
AreFieldsHere (node nullable description (object fs preserves type bounds cs)) s =
    (k : List ℕ) (f : Declared) → field_at k fs ≡ Some f
    → (f.required ≡ is_among k (texts_under s (codes "required"))) × (f.default ≡ option_and_then (λ d. under d (codes "default")) (schema_by s (property k)))
AreFieldsHere _ s = Unit {0}

-- ---- all nodes

-- A place that is to have a node is in no branch of a junctor. The body of a resource is judged without `apiVersion`, `kind`
-- and `metadata`: where the schema is that of a whole resource (root), these places and all below them have no node (this
-- project's own).
abbrev pub IsNodePlace : Bool → Place → Type 0
IsNodePlace root p = (is_inside p ≡ false) × (root ≡ true → IsEnvelope p → ⊥)

-- N is the tree of the nodes of a schema
pub record AreNodesOf (root : Bool) (N : Node) (raw : Raw) : Type 0 where
  -- fields are in the order of their names, each once
  pub ordered : IsNode N
  -- each place that is to have a node has one, as its schema says
  pub each : (p : Place) (t : Data) → IsNodePlace root p → schema_at raw.tree p ≡ Some t → (M : Node) × (node_at N p ≡ Some M) × IsNodeHere raw.profile M t × AreFieldsHere M t
  -- no other place has one
  pub only : (p : Place) (M : Node) → node_at N p ≡ Some M → IsNodePlace root p × IsPlace raw.tree p
