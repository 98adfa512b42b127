-- The text of a node's type, as `kubectl explain` writes it; `int-or-string` and `any` are this project's own.
use Rattle.std.specs.Prelude.{ℕ, List, ◌++◌, codes}
use Rattle.schema.specs.Nodes.Node.{Node, node, Sort, scalar, object, map, list, open_}
use Rattle.schema.specs.declared.node.ScalarKind.{ScalarKind}
use Rattle.schema.specs.declared.node.ScalarKind.TheVariants.{Boolean, Integer, Number, String, IntOrString}

abbrev pub scalar_text : ScalarKind → List ℕ
scalar_text Boolean = codes "boolean"
scalar_text Integer = codes "integer"
scalar_text String = codes "string"
scalar_text Number = codes "number"
scalar_text IntOrString = codes "int-or-string"

abbrev mutual
  pub type_text : Node → List ℕ
  type_text (node nullable description sort) = sort_text sort

  pub sort_text : Sort → List ℕ
  sort_text (scalar kind cs) = scalar_text kind
  sort_text (object fs preserves type bounds cs) = codes "Object"
  sort_text (map N type bounds) = codes "map[string]" ++ type_text N
  sort_text (list N type keys bounds) = codes "[]" ++ type_text N
  sort_text open_ = codes "any"
