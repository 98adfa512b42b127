-- What is wrong with an object, and where (OpenAPI 3.0, Schema Object; apiextensions.k8s.io/v1, nullable and merge markers). The
-- numbers are this project's own, and so is it that a null at a nullable node is asked nothing else, but for `enum` where the schema is
-- kept as it is written (k8s.io/kube-openapi, pkg/validation).
use Rattle.std.specs.Prelude.{◌≡◌, ℕ, zero, suc, List, [], ◌∷◌, ◌++◌, ◌+◌, Bool, true, false, Option, Some, None, not, ◌&&◌, ◌||◌, is_none}
use Rattle.jtree.specs.Data.{Data, Items, no_items, item, Members, no_members, member}
use Rattle.jtree.specs.Data as tree
use Rattle.jtree.specs.Equality.{equal_by}
use Rattle.jtree.specs.Kind.{is_list, is_object}
use Rattle.jtree.specs.Path.{name, index, Path, member_at, item_at}
use Rattle.jtree.specs.declared.equality.Equality.{Equality}
use Rattle.schema.specs.Nodes.Node.{Node, node, Sort, scalar, object, map, list, open_, Validations, validations}
use Rattle.schema.specs.Nodes.ByPlace.{Declared, field_at}
use Rattle.schema.specs.declared.node.Bounds.{Bounds}
use Rattle.schema.specs.declared.node.Constraints.{Constraints}
use Rattle.schema.specs.declared.node.ListType.{ListType}
use Rattle.schema.specs.declared.node.ListType.TheVariants.{Set, Map}
use Rattle.stored.specs.Objects.Parts.{Pair, fields, pair, at, part_by_path, leads}
use Rattle.stored.specs.Objects.Tests.{accepts_scalar, is_below, is_above, fails_enum, null_fails_enum, fails_minimum, fails_maximum, fails_least_length, fails_most_length, meets_junctors}

pub data Test : Type 0 where
  -- the kind, and null
  F01 F02 : Test
  -- `enum`, `minimum`, `maximum`, `minLength`, `maxLength`
  F03 F04 F05 F06 F07 : Test
  -- `minItems`, `maxItems`, `minProperties`, `maxProperties`
  F08 F09 F10 F11 : Test
  -- `required`, items that repeat another, and junctors
  F12 F13 F14 : Test
  -- a member that pruning drops, which strict faults alone have
  F15 : Test

abbrev pub number : Test → ℕ
number F01 = 1
number F02 = 2
number F03 = 3
number F04 = 4
number F05 = 5
number F06 = 6
number F07 = 7
number F08 = 8
number F09 = 9
number F10 = 10
number F11 = 11
number F12 = 12
number F13 = 13
number F14 = 14
number F15 = 15

-- ---- of the value itself

abbrev pub is_null : Data → Bool
is_null tree.null = true
is_null _ = false

-- besides null
abbrev pub accepts : Sort → Data → Bool
accepts (scalar kind cs) v = accepts_scalar kind v
accepts (object fs preserves type bounds cs) v = is_object v
accepts (map N type bounds) v = is_object v
accepts (list N type keys bounds) v = is_list v
accepts open_ v = true

abbrev pub constraints_of : Validations → Constraints
constraints_of (validations t all any one negated) = t

abbrev pub refuses_null : Node → Bool
refuses_null (node nullable description (scalar kind cs)) = null_fails_enum (constraints_of cs)
refuses_null _ = false

-- null is accepted
abbrev pub accepts_null : Node → Bool
accepts_null (node nullable description (scalar kind cs)) = nullable && not (null_fails_enum (constraints_of cs))
accepts_null (node nullable description sort) = nullable

-- of a scalar that the node accepts
abbrev pub fails_scalar : (Validations → Data → Bool) → Node → Data → Bool
fails_scalar test (node nullable description (scalar kind cs)) v = accepts_scalar kind v && test cs v
fails_scalar test _ _ = false

abbrev pub fails_constraint : (Constraints → Data → Bool) → Node → Data → Bool
fails_constraint test N v = fails_scalar (λ cs w. test (constraints_of cs) w) N v

abbrev pub items_count : Items → ℕ
items_count no_items = 0
items_count (item d ds) = 1 + items_count ds

abbrev pub members_count : Members → ℕ
members_count no_members = 0
members_count (member k d ms) = 1 + members_count ms

-- of the number of items
abbrev pub fails_items : (Bounds → ℕ → Bool) → Node → Data → Bool
fails_items test (node nullable description (list N type keys bounds)) (tree.list ds) = test bounds (items_count ds)
fails_items test _ _ = false

-- of the number of members, those that are not declared among them
abbrev pub fails_members : (Bounds → ℕ → Bool) → Node → Data → Bool
fails_members test (node nullable description (object fs preserves type bounds cs)) (tree.object ms) = test bounds (members_count ms)
fails_members test (node nullable description (map N type bounds)) (tree.object ms) = test bounds (members_count ms)
fails_members test _ _ = false

abbrev pub are_few : Bounds → ℕ → Bool
are_few b n = is_below b.least n

abbrev pub are_many : Bounds → ℕ → Bool
are_many b n = is_above b.most n

-- the value fails the test of this number
abbrev pub fails : Test → Node → Data → Bool
fails F01 (node nullable description sort) v = not (is_null v) && not (accepts sort v)
fails F02 (node nullable description sort) v = is_null v && not nullable
fails F03 N v = fails_constraint fails_enum N v || (is_null v && refuses_null N)
fails F04 N v = fails_constraint fails_minimum N v
fails F05 N v = fails_constraint fails_maximum N v
fails F06 N v = fails_constraint fails_least_length N v
fails F07 N v = fails_constraint fails_most_length N v
fails F08 N v = fails_items are_few N v
fails F09 N v = fails_items are_many N v
fails F10 N v = fails_members are_few N v
fails F11 N v = fails_members are_many N v
fails F14 (node nullable description (object fs preserves type bounds cs)) (tree.object ms) = not (meets_junctors cs (tree.object ms))
fails F14 N v = fails_scalar (λ cs w. not (meets_junctors cs w)) N v
fails _ N v = false

-- ---- of its parts

abbrev pub is_required : Option Declared → Bool
is_required None = false
is_required (Some f) = f.required

-- a required name is absent
abbrev pub lacks_name : Pair → List ℕ → Bool
lacks_name (fields fs preserves ms) k = is_required (field_at k fs) && is_none (member_at k ms)
lacks_name _ k = false

-- both have the name, with values that count as the same, or both lack it
abbrev pub agree_at : Equality → Option Data → Option Data → Bool
agree_at e None None = true
agree_at e (Some v) (Some w) = equal_by e v w
agree_at e _ _ = false

abbrev pub agree : Equality → List (List ℕ) → Members → Members → Bool
agree e [] ms ns = true
agree e (k ∷ keys) ms ns = agree_at e (member_at k ms) (member_at k ns) && agree e keys ms ns

-- Two items that may not be in one list: in a set those that count as the same, in a map list objects that agree on all keys.
abbrev pub are_alike : ListType → List (List ℕ) → Data → Data → Bool
are_alike (Set e) keys v w = equal_by e v w
are_alike (Map e) keys (tree.object ms) (tree.object ns) = agree e keys ms ns
are_alike _ _ _ _ = false

-- some item before the index passes a test
abbrev pub any_before : (Data → Bool) → ℕ → Items → Bool
any_before test i no_items = false
any_before test zero ds = false
any_before test (suc i) (item d ds) = test d || any_before test i ds

abbrev pub has_alike_before : (Data → Data → Bool) → ℕ → Items → Option Data → Bool
has_alike_before alike i ds None = false
has_alike_before alike i ds (Some d) = any_before (λ e. alike e d) i ds

-- the item at the index repeats an earlier one
abbrev pub repeats : Node → Data → ℕ → Bool
repeats (node nullable description (list N type keys bounds)) (tree.list ds) i = has_alike_before (are_alike type keys) i ds (item_at i ds)
repeats _ _ i = false

-- ---- all faults

-- What a node finds wrong with the value that has it, at a path from there: with the value itself, at the path of a name
-- that is missing, or at that of an item.
abbrev pub finds : Node → Data → Path → Test → Bool
finds N v [] t = fails t N v
finds N v (name k ∷ []) F12 = lacks_name (pair N v) k
finds N v (index i ∷ []) F13 = repeats N v i
finds _ _ _ _ = false

-- the object has this fault at the path
pub record HasFault (N : Node) (v : Data) (path : Path) (t : Test) : Type 0 where
  -- to the part whose node finds it, and from there
  pub before : Path
  pub last : Path
  pub is : path ≡ before ++ last
  pub node : Node
  pub value : Data
  pub leads_there : part_by_path leads (at N v) before ≡ Some (at node value)
  pub found : finds node value last t ≡ true

-- no place has a fault
abbrev pub IsValid : Node → Data → Type 0
IsValid N v = (path : Path) (t : Test) → HasFault N v path t → ⊥
