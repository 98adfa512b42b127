-- A place of a plan: a node of the schema, with the names that are keys where it is the item of a map list, the text of the
-- path of its field, and all values that there can be where the pools fix them (this project's own).
use Rattle.std.specs.Prelude.{ℕ, List, [], ◌++◌, Option, Some, None}
use Rattle.jtree.specs.Data.{Data}
use Rattle.schema.specs.Nodes.Node.{Node, node, list}
use Rattle.schema.specs.declared.node.ListType.{ListType}
use Rattle.schema.specs.declared.node.ListType.TheVariants.{Map}
use Rattle.explain.specs.Paths.FieldPath.{FieldStep}
use Rattle.explain.specs.Paths.PathText.{step_text}
use Rattle.plan.specs.Pools.Pools.{Pools, fixed_at}

pub record Site : Type 0 where
  pub node : Node
  pub keys : List (List ℕ)
  pub path : List ℕ
  pub fixed : Option (List Data)

-- the path extended by a step
abbrev pub below : List ℕ → FieldStep → List ℕ
below path s = path ++ step_text s

-- the values that the pools fix for the items of a list with this path; none for those of a map list, which need their keys
abbrev pub fixed_item : Pools → ListType → List ℕ → Option (List Data)
fixed_item P (Map e) path = None
fixed_item P _ path = fixed_at path P

-- the values that the pools fix for the node one step below a node with this path
abbrev pub fixed_below : Pools → List ℕ → Node → FieldStep → Option (List Data)
fixed_below P path (node nullable description (list N type keys bounds)) s = fixed_item P type (below path s)
fixed_below P path N s = fixed_at (below path s) P

-- the site of a field, or of the values of a map
abbrev pub plain : Pools → List ℕ → Node → Site
plain P path N = record { node = N; keys = []; path = path; fixed = fixed_at path P }

-- the site of the root of a schema, whose path has no step; its values are never fixed
abbrev pub root_site : Node → Site
root_site N = record { node = N; keys = []; path = []; fixed = None }

-- the first where the values are fixed, else the second
abbrev pub where_fixed : {A : Type 0} → Option (List Data) → A → A → A
where_fixed (Some ds) here there = here
where_fixed None here there = there
