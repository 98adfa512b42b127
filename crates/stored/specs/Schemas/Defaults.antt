-- Which defaults are good (apiextensions.k8s.io/v1, "defaulting": defaults are pruned, and must be valid).
use Rattle.std.specs.Prelude.{◌≡◌, ℕ, List, [], ◌∷◌, ◌++◌, Option, Some, None}
use Rattle.jtree.specs.Data.{Data, IsTree}
use Rattle.schema.specs.Document.Places.{Place, property}
use Rattle.schema.specs.Nodes.Node.{Node, node, object}
use Rattle.schema.specs.Nodes.ByPlace.{Declared, field_at, node_at}
use Rattle.stored.specs.Objects.Fault.{IsValid}
use Rattle.stored.specs.Objects.Becomes.{IsPruned, IsFilled}

-- pruning leaves it as it is, and it is valid once it is filled with the defaults below it
pub record IsGoodDefault (N : Node) (d : Data) : Type 0 where
  pub pruned : IsPruned N d d
  pub value : Data
  pub tree : IsTree value
  pub filled : IsFilled N d value
  pub valid : IsValid N value

-- a declared field of an object node
abbrev pub field_of : Node → List ℕ → Option Declared
field_of (node nullable description (object fs preserves type bounds cs)) k = field_at k fs
field_of _ k = None

-- in a tree of nodes, the field at this place has this node and this default
pub record HasDefault (root : Node) (p : Place) (N : Node) (d : Data) : Type 0 where
  pub before : Place
  pub name : List ℕ
  pub place_is : p ≡ before ++ (property name ∷ [])
  pub object : Node
  pub object_is : node_at root before ≡ Some object
  pub field : Declared
  pub field_is : field_of object name ≡ Some field
  pub node_is : field.node ≡ N
  pub default_is : field.default ≡ Some d

abbrev pub HasGoodDefaults : Node → Type 0
HasGoodDefaults root = (p : Place) (N : Node) (d : Data) → HasDefault root p N d → IsGoodDefault N d
