-- A node of a schema that breaks no rule, as plain data (OpenAPI 3.0, Schema Object; apiextensions.k8s.io/v1,
-- JSONSchemaProps): a scalar, an object with declared fields, a map, a list, or open to any value.
use Rattle.std.specs.Prelude.{◌≡◌, ℕ, suc, max, List, Bool, Option}
use Rattle.std.specs.declared.cmp.Ordering.TheVariants.{Less}
use Rattle.jtree.specs.Data.{Data}
use Rattle.jtree.specs.Order.{text_cmp}
use Rattle.schema.specs.declared.node.Bounds.{Bounds}
use Rattle.schema.specs.declared.node.Constraints.{Constraints}
use Rattle.schema.specs.declared.node.ScalarKind.{ScalarKind}
use Rattle.schema.specs.declared.node.ListType.{ListType}
use Rattle.schema.specs.declared.node.MapType.{MapType}

-- what is asked of a scalar, or of an object: constraints, and the branches of `allOf`, `anyOf`, `oneOf` and `not`
mutual
  pub data Validations : Type 0 where
    validations : Constraints → Branches → Branches → Branches → Branches → Validations

  pub data Branches : Type 0 where
    no_branches : Branches
    branch : Validations → Branches → Branches

mutual
  pub data Node : Type 0 where
    -- whether null is accepted, the description, and what is accepted besides
    node : Bool → Option (List ℕ) → Sort → Node

  pub data Sort : Type 0 where
    scalar : ScalarKind → Validations → Sort
    -- the fields, whether others are kept, and the junctors
    object : Fields → Bool → MapType → Bounds → Validations → Sort
    -- the node of each value
    map : Node → MapType → Bounds → Sort
    -- the node of each item, and the keys of a map list
    list : Node → ListType → List (List ℕ) → Bounds → Sort
    open_ : Sort

  -- the declared fields, by the bytes of their names: each with its node, whether it is required, and its default
  pub data Fields : Type 0 where
    no_fields : Fields
    field : List ℕ → Node → Bool → Option Data → Fields → Fields

-- the name comes before all names of the fields, by bytes
abbrev pub IsBeforeFields : List ℕ → Fields → Type 0
IsBeforeFields k no_fields = Unit {0}
IsBeforeFields k (field l N required default fs) = text_cmp k l ≡ Less

-- fields are in the order of their names, and no name occurs twice
abbrev mutual
  pub IsNode : Node → Type 0
  IsNode (node nullable description sort) = IsSort sort

  pub IsSort : Sort → Type 0
  IsSort (scalar kind cs) = Unit {0}
  IsSort (object fs preserves type bounds cs) = AreOrdered fs
  IsSort (map N type bounds) = IsNode N
  IsSort (list N type keys bounds) = IsNode N
  IsSort open_ = Unit {0}

  pub AreOrdered : Fields → Type 0
  AreOrdered no_fields = Unit {0}
  AreOrdered (field k N required default fs) = IsNode N × IsBeforeFields k fs × AreOrdered fs

-- how deep junctors nest
abbrev mutual
  pub validations_depth : Validations → ℕ
  validations_depth (validations constraints all any one negated) =
      suc (max (branches_depth all) (max (branches_depth any) (max (branches_depth one) (branches_depth negated))))

  pub branches_depth : Branches → ℕ
  branches_depth no_branches = 0
  branches_depth (branch c cs) = max (validations_depth c) (branches_depth cs)

-- how deep objects, maps and lists nest
abbrev mutual
  pub node_depth : Node → ℕ
  node_depth (node nullable description sort) = suc (sort_depth sort)

  pub sort_depth : Sort → ℕ
  sort_depth (scalar kind cs) = 0
  sort_depth (object fs preserves type bounds cs) = suc (fields_depth fs)
  sort_depth (map N type bounds) = suc (node_depth N)
  sort_depth (list N type keys bounds) = suc (node_depth N)
  sort_depth open_ = 0

  pub fields_depth : Fields → ℕ
  fields_depth no_fields = 0
  fields_depth (field k N required default fs) = max (node_depth N) (fields_depth fs)
