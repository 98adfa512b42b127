-- When the items of a list can be distinguished (apiextensions.k8s.io/v1, merge strategies): of nodes what the rules on sets and
-- map lists say of schemas.
use Rattle.std.specs.Prelude.{◌≡◌, ◌≢◌, ℕ, List, [], ◌∷◌, true, false, Some, is_some, ◌||◌}
use Rattle.schema.specs.Document.Texts.{is_among}
use Rattle.schema.specs.Nodes.Node.{Node, node, scalar, object, list, Fields}
use Rattle.schema.specs.Nodes.ByPlace.{Declared, field_at}
use Rattle.schema.specs.declared.node.ListType.{ListType}
use Rattle.schema.specs.declared.node.ListType.TheVariants.{Set, Map}

-- a scalar that takes no null
abbrev pub IsPlainScalar : Node → Type 0
IsPlainScalar (node nullable description (scalar kind cs)) = nullable ≡ false
IsPlainScalar _ = ⊥

-- a key of the items: such a field, which each item has, since it is required or has a default
abbrev pub IsKey : Fields → List ℕ → Type 0
IsKey fs k = (f : Declared) × (field_at k fs ≡ Some f) × IsPlainScalar f.node × ((f.required || is_some f.default) ≡ true)

-- each is a key of the items, and none occurs twice
abbrev pub AreKeys : Fields → List (List ℕ) → Type 0
AreKeys fs [] = Unit {0}
AreKeys fs (k ∷ ks) = IsKey fs k × (is_among k ks ≡ false) × AreKeys fs ks

-- an object that takes no null and has these keys, at least one
abbrev pub HasKeys : Node → List (List ℕ) → Type 0
HasKeys (node nullable description (object fs preserves type bounds cs)) keys = (nullable ≡ false) × (keys ≢ []) × AreKeys fs keys
HasKeys _ keys = ⊥

-- the items can be distinguished: in a set they are plain scalars, in a map list objects with its keys; of an atomic list nothing
-- is asked
abbrev pub AreDistinct : ListType → List (List ℕ) → Node → Type 0
AreDistinct (Set e) keys N = IsPlainScalar N
AreDistinct (Map e) keys N = HasKeys N keys
AreDistinct _ keys N = Unit {0}

-- so it is with the items of the node, where it is a list
abbrev pub HasSoundItems : Node → Type 0
HasSoundItems (node nullable description (list N type keys bounds)) = AreDistinct type keys N
HasSoundItems _ = Unit {0}
