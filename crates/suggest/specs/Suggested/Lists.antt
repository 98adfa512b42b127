-- The lists of values at the paths below a node, in the order of the fields, where these values stand at the node; and the names that the
-- maps among them have (this project's own).
use Rattle.std.specs.Prelude.{ℕ, List, [], ◌∷◌, ◌++◌, Option, None, option_and_then, codes}
use Rattle.jtree.specs.Data.{Data}
use Rattle.jtree.specs.Path.{under, under2}
use Rattle.schema.specs.Nodes.Node.{Node, node, object, map, list, Fields, no_fields, field}
use Rattle.explain.specs.Paths.FieldPath as step
use Rattle.plan.specs.Samples.Site.{below}
use Rattle.suggest.specs.Suggested.ValuesBelow.{field_values, item_values, member_values, member_names}
use Rattle.suggest.specs.Suggested.LeafValues.{General, leaf_values}

-- the text of a path, and values
pub record Entry : Type 0 where
  pub path : List ℕ
  pub values : List Data

-- an empty list says nothing
abbrev pub entry_of : List ℕ → List Data → List Entry
entry_of path [] = []
entry_of path values = record { path = path; values = values } ∷ []

-- the schemas below a schema
abbrev pub schema_of_field : Option Data → List ℕ → Option Data
schema_of_field schema k = option_and_then (λ s. under2 s (codes "properties") k) schema

abbrev pub schema_of_items : Option Data → Option Data
schema_of_items schema = option_and_then (λ s. under s (codes "items")) schema

abbrev pub schema_of_values : Option Data → Option Data
schema_of_values schema = option_and_then (λ s. under s (codes "additionalProperties")) schema

abbrev mutual
  pub lists_at : General → List Data → Option Data → Option Data → List ℕ → Node → List Entry
  lists_at G vs default schema path (node nullable description (object fs preserves type bounds cs)) = lists_of_fields G vs schema path fs
  lists_at G vs default schema path (node nullable description (map N type bounds)) = lists_at G (member_values vs) None (schema_of_values schema) (below path step.value) N
  lists_at G vs default schema path (node nullable description (list N type keys bounds)) = lists_at G (item_values vs) None (schema_of_items schema) (below path step.item) N
  lists_at G vs default schema path N = entry_of path (leaf_values G vs default schema N)

  pub lists_of_fields : General → List Data → Option Data → List ℕ → Fields → List Entry
  lists_of_fields G vs schema path no_fields = []
  lists_of_fields G vs schema path (field k N required default fs) =
      lists_at G (field_values k vs) default (schema_of_field schema k) (below path (step.field k)) N ++ lists_of_fields G vs schema path fs

abbrev mutual
  pub names_at : List Data → Node → List (List ℕ)
  names_at vs (node nullable description (object fs preserves type bounds cs)) = names_of_fields vs fs
  names_at vs (node nullable description (map N type bounds)) = member_names vs ++ names_at (member_values vs) N
  names_at vs (node nullable description (list N type keys bounds)) = names_at (item_values vs) N
  names_at vs N = []

  pub names_of_fields : List Data → Fields → List (List ℕ)
  names_of_fields vs no_fields = []
  names_of_fields vs (field k N required default fs) = names_at (field_values k vs) N ++ names_of_fields vs fs
