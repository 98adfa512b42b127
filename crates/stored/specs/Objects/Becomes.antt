-- What becomes of an object: pruned, filled with defaults, stored (apiextensions.k8s.io/v1, "field pruning", "defaulting" and
-- "nullable"). Each is said by what is at each path of the result.
use Rattle.std.specs.Prelude.{◌≡◌, ℕ, ℤ, List, Bool, false, Option, Some, None, option_map, if◌then◌else◌, not, ◌&&◌, is_none}
use Rattle.jtree.specs.Data.{Data, IsTree}
use Rattle.jtree.specs.Data as tree
use Rattle.jtree.specs.Path.{Step, name, Path, part_at, member_at}
use Rattle.schema.specs.Nodes.Node.{Node, node}
use Rattle.schema.specs.Nodes.ByPlace.{Declared, field_at}
use Rattle.stored.specs.Objects.Parts.{Pair, fields, values, pair, Part, at, free, value_of, Leading, part_by_path, leads}
use Rattle.stored.specs.Objects.Fault.{IsValid}

-- a value without its parts: its kind, and what a scalar is
pub data Label : Type 0 where
  null : Label
  boolean : Bool → Label
  integer : ℤ → Label
  number : List ℕ → Label
  text : List ℕ → Label
  list : Label
  object : Label

abbrev pub label : Data → Label
label tree.null = null
label (tree.boolean b) = boolean b
label (tree.integer z) = integer z
label (tree.number s) = number s
label (tree.text s) = text s
label (tree.list ds) = list
label (tree.object ms) = object

-- The tree w has the paths to which these steps lead from v at its node, and no others, with the same kinds and scalars there.
abbrev pub Becomes : Leading → Node → Data → Data → Type 0
Becomes lead N v w = (path : Path) → option_map label (part_at w path) ≡ option_map (λ q. label (value_of q)) (part_by_path lead (at N v) path)

-- ---- pruning

-- the step takes a name that is not declared from an object at an object node that does not preserve
abbrev pub cuts : Pair → Step → Bool
cuts (fields fs preserves ms) (name k) = not preserves && is_none (field_at k fs)
cuts _ _ = false

-- what is left: a path is cut where one of its steps is
abbrev pub leads_uncut : Leading
leads_uncut N v s = if cuts (pair N v) s then None else leads N v s

abbrev pub IsPruned : Node → Data → Data → Type 0
IsPruned N v w = Becomes leads_uncut N v w

-- ---- defaulting

abbrev pub is_nullable : Node → Bool
is_nullable (node nullable description sort) = nullable

-- nothing is left of a null that the node does not accept
abbrev pub admitted : Node → Option Data → Option Data
admitted N (Some tree.null) = if is_nullable N then Some tree.null else None
admitted N v = v

abbrev pub or_default : Option Data → Option Data → Option Data
or_default None default = default
or_default (Some v) default = Some v

-- under a name: a declared one has its default where nothing is there, and others stay
abbrev pub filled_under : Option Declared → Option Data → Option Part
filled_under None v = option_map free v
filled_under (Some f) v = option_map (at f.node) (or_default (admitted f.node v) f.default)

abbrev pub leads_by : Pair → Node → Data → Step → Option Part
leads_by (fields fs preserves ms) N v (name k) = filled_under (field_at k fs) (member_at k ms)
leads_by (values M ms) N v (name k) = option_map (at M) (admitted M (member_at k ms))
leads_by _ N v s = leads N v s

-- what is there after defaults are filled in: so a default is filled by the defaults below it
abbrev pub leads_filled : Leading
leads_filled N v s = leads_by (pair N v) N v s

abbrev pub IsFilled : Node → Data → Data → Type 0
IsFilled N v w = Becomes leads_filled N v w

-- ---- both

-- pruned, then filled
pub record IsCompleted (N : Node) (v w : Data) : Type 0 where
  pub between : Data
  pub tree : IsTree between
  pub pruned : IsPruned N v between
  pub filled : IsFilled N between w

-- valid, and neither pruning nor defaulting changes it
pub record IsStored (N : Node) (v : Data) : Type 0 where
  pub valid : IsValid N v
  pub pruned : IsPruned N v v
  pub filled : IsFilled N v v
