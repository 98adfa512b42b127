-- What a field has: the node at its path, and whether the object above requires it and has a default for it
-- (OpenAPI 3.0, Schema Object; apiextensions.k8s.io/v1, JSONSchemaProps).
use Rattle.std.specs.Prelude.{ℕ, List, [], ◌∷◌, Bool, Option, Some, None, option_map, option_and_then}
use Rattle.jtree.specs.Data.{Data, Items, no_items}
use Rattle.schema.specs.Nodes.Node.{Node, node, Sort, scalar, object, map, list}
use Rattle.schema.specs.Nodes.ByPlace.{Declared, node_at}
use Rattle.schema.specs.declared.node.ListType.{ListType}
use Rattle.schema.specs.declared.node.MapType.{MapType}
use Rattle.stored.specs.Objects.Becomes.{is_nullable}
use Rattle.stored.specs.Objects.Fault.{constraints_of, is_required}
use Rattle.stored.specs.Schemas.Defaults.{field_of}
use Rattle.explain.specs.Paths.FieldPath.{FieldPath, field, place_of}
use Rattle.explain.specs.Paths.PathText.{path_text}
use Rattle.explain.specs.Fields.TypeText.{type_text}

pub record Field : Type 0 where
  pub path : List ℕ
  pub type_text : List ℕ
  pub required : Bool
  pub nullable : Bool
  -- of lists alone
  pub list_type : Option ListType
  -- of objects and maps alone
  pub map_type : Option MapType
  -- of map lists, and else none
  pub keys : List (List ℕ)
  -- the values of `enum` as written, none where it is absent
  pub choices : Items
  pub default : Option Data
  pub description : Option (List ℕ)

-- ---- of the node

abbrev pub sort_of : Node → Sort
sort_of (node nullable description sort) = sort

abbrev pub description_of : Node → Option (List ℕ)
description_of (node nullable description sort) = description

abbrev pub list_type_of : Sort → Option ListType
list_type_of (list N type keys bounds) = Some type
list_type_of _ = None

abbrev pub map_type_of : Sort → Option MapType
map_type_of (object fs preserves type bounds cs) = Some type
map_type_of (map N type bounds) = Some type
map_type_of _ = None

abbrev pub keys_of : Sort → List (List ℕ)
keys_of (list N type keys bounds) = keys
keys_of _ = []

abbrev pub items_or_none : Option Items → Items
items_or_none None = no_items
items_or_none (Some ds) = ds

abbrev pub choices_of : Sort → Items
choices_of (scalar kind cs) = items_or_none (constraints_of cs).choices
choices_of _ = no_items

-- ---- of the object above

-- what the object above says of the field at the end of the path; nothing is said of items, values and the root
abbrev pub declaration : Node → FieldPath → Option Declared
declaration N [] = None
declaration N (field k ∷ []) = field_of N k
declaration N (s ∷ []) = None
declaration N (s ∷ t ∷ p) = option_and_then (λ M. declaration M (t ∷ p)) (node_at N (place_of (s ∷ [])))

abbrev pub default_of : Option Declared → Option Data
default_of d = option_and_then (λ f. f.default) d

-- ---- both

abbrev pub described : Node → FieldPath → Node → Field
described root p N = record {
  path = path_text p;
  type_text = type_text N;
  required = is_required (declaration root p);
  nullable = is_nullable N;
  list_type = list_type_of (sort_of N);
  map_type = map_type_of (sort_of N);
  keys = keys_of (sort_of N);
  choices = choices_of (sort_of N);
  default = default_of (declaration root p);
  description = description_of N;
}

-- the field at a path, where there is a node
abbrev pub field_at : Node → FieldPath → Option Field
field_at root p = option_map (described root p) (node_at root (place_of p))
