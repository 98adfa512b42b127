-- For private contracts: the fields below a node in order, level by level, and how a walk lists them.
use Rattle.std.specs.Prelude.{ℕ, List, [], ◌∷◌, ◌++◌, Bool, false, Option, None, string_bytes}
use Rattle.std.specs.Prelude as prelude
use Rattle.jtree.specs.Data.{Data}
use Rattle.schema.specs.Nodes.Node.{Node, node, Sort, object, map, list, Fields, no_fields}
use Rattle.schema.specs.Nodes.Node as nodes
use Rattle.stored.specs.Objects.Becomes.{is_nullable}
use Rattle.explain.specs.Paths.FieldPath.{FieldStep, field, item, value, FieldPath}
use Rattle.explain.specs.Paths.PathText.{path_text}
use Rattle.explain.specs.Fields.TypeText.{type_text}
use Rattle.explain.specs.Fields.Field.{Field, sort_of, description_of, list_type_of, map_type_of, keys_of, choices_of}
use Rattle.explain.specs.Fields.View.{field_of}
use Rattle.explain.specs.declared.walk.Walk.{Walk}

-- ---- the fields below a node

-- the node at a path, and what the object above says of it
pub record Entry : Type 0 where
  pub path : FieldPath
  pub required : Bool
  pub default : Option Data
  pub node : Node

abbrev pub after_step : FieldStep → Entry → Entry
after_step s e = record { path = s ∷ e.path; required = e.required; default = e.default; node = e.node }

abbrev pub under : FieldStep → List Entry → List Entry
under s es = prelude.map (after_step s) es

-- the node itself, before what is below it
abbrev pub whole : Bool → Option Data → Node → List Entry → List Entry
whole required default N es = record { path = []; required = required; default = default; node = N } ∷ es

abbrev mutual
  pub below : Node → List Entry
  below (node nullable description sort) = below_sort sort

  pub below_sort : Sort → List Entry
  below_sort (object fs preserves type bounds cs) = below_fields fs
  below_sort (map N type bounds) = under value (whole false None N (below N))
  below_sort (list N type keys bounds) = under item (whole false None N (below N))
  below_sort _ = []

  pub below_fields : Fields → List Entry
  below_fields no_fields = []
  below_fields (nodes.field k N required default fs) = under (field k) (whole required default N (below N)) ++ below_fields fs

-- ---- as a field is listed

abbrev pub listed_as : List ℕ → Bool → Option Data → Node → Field
listed_as path required default N = record {
  path = path;
  type_text = type_text N;
  required = required;
  nullable = is_nullable N;
  list_type = list_type_of (sort_of N);
  map_type = map_type_of (sort_of N);
  keys = keys_of (sort_of N);
  choices = choices_of (sort_of N);
  default = default;
  description = description_of N;
}

-- the entry of a node whose path has this text
abbrev pub listed_at : List ℕ → Entry → Field
listed_at at e = listed_as (at ++ path_text e.path) e.required e.default e.node

-- the text of the place that a walk has come to, and what is listed so far
pub record Progress : Type 0 where
  pub path : List ℕ
  pub listed : List Field

abbrev pub progress : Walk → Progress
progress w = record { path = string_bytes w.path; listed = prelude.map field_of w.fields.items }

abbrev pub noted : Progress → List Field → Progress
noted p fs = record { path = p.path; listed = p.listed ++ fs }

abbrev pub added : Progress → List Entry → Progress
added p es = noted p (prelude.map (listed_at p.path) es)
