-- The fields of a schema: all paths that it declares, each once, in order (this project's own).
use Rattle.std.specs.Prelude.{◌≡◌, ◌≢◌, List, [], map, All, AllPairs, Contains, Some}
use Rattle.std.specs.declared.cmp.Ordering.TheVariants.{Less}
use Rattle.schema.specs.Nodes.Node.{Node}
use Rattle.schema.specs.Nodes.ByPlace.{node_at}
use Rattle.explain.specs.Paths.FieldPath.{FieldPath, place_of}
use Rattle.explain.specs.Paths.FieldOrder.{path_cmp}
use Rattle.explain.specs.Fields.Field.{Field, field_at}

-- there is a node at the path, which is not that of the root
abbrev pub IsDeclared : Node → FieldPath → Type 0
IsDeclared root p = (p ≢ []) × ((N : Node) × (node_at root (place_of p) ≡ Some N))

pub record AreDeclared (root : Node) (ps : List FieldPath) : Type 0 where
  pub each : All (IsDeclared root) ps
  pub all : (p : FieldPath) → IsDeclared root p → Contains ps p
  pub ascending : AllPairs (λ p q. path_cmp p q ≡ Less) ps

-- the fields at these paths, in order
abbrev pub AreFields : Node → List Field → Type 0
AreFields root fs = (ps : List FieldPath) × AreDeclared root ps × (map (field_at root) ps ≡ map Some fs)
