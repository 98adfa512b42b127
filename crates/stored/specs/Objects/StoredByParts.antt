-- What a stored object is, one level at a time: what its node asks of the value itself, and that its parts are stored
-- (OpenAPI 3.0, Schema Object; apiextensions.k8s.io/v1, "field pruning", "defaulting" and "nullable").
use Rattle.std.specs.Prelude.{◌≡◌, ℕ, List, Bool, true, false, Option, Some, None, not, ◌&&◌}
use Rattle.jtree.specs.Data.{Data, Items, no_items, item}
use Rattle.jtree.specs.Data as tree
use Rattle.jtree.specs.Path.{member_at, item_at}
use Rattle.schema.specs.Rules.Keywords.{any_item}
use Rattle.schema.specs.Nodes.Node.{Node, node, scalar, object, map, list, open_}
use Rattle.schema.specs.Nodes.ByPlace.{Declared, field_at}
use Rattle.schema.specs.declared.node.Bounds.{Bounds}
use Rattle.stored.specs.Objects.Parts.{Pair, fields, values, items, whole, pair}
use Rattle.stored.specs.Objects.Tests.{accepts_scalar, is_below, is_above, holds, meets_junctors}
use Rattle.stored.specs.Objects.Fault.{items_count, members_count, are_alike, accepts_null}
use Rattle.stored.specs.Objects.Becomes.{IsStored}

-- neither too few nor too many
abbrev pub IsWithin : Bounds → ℕ → Type 0
IsWithin b n = (is_below b.least n ≡ false) × (is_above b.most n ≡ false)

-- no item is alike one of those that follow
abbrev pub are_apart : (Data → Data → Bool) → Items → Bool
are_apart alike no_items = true
are_apart alike (item d ds) = not (any_item (alike d) ds) && are_apart alike ds

-- What the node asks of the value itself. Of a null it asks only that nulls are accepted.
abbrev pub IsValidHere : Node → Data → Type 0
IsValidHere (node nullable description sort) tree.null = accepts_null (node nullable description sort) ≡ true
IsValidHere (node nullable description (scalar kind cs)) v = (accepts_scalar kind v ≡ true) × (holds cs v ≡ true)
IsValidHere (node nullable description (object fs preserves type bounds cs)) (tree.object ms) = IsWithin bounds (members_count ms) × (meets_junctors cs (tree.object ms) ≡ true)
IsValidHere (node nullable description (map N type bounds)) (tree.object ms) = IsWithin bounds (members_count ms)
IsValidHere (node nullable description (list N type keys bounds)) (tree.list ds) = IsWithin bounds (items_count ds) × (are_apart (are_alike type keys) ds ≡ true)
IsValidHere (node nullable description open_) v = Unit {0}
IsValidHere _ _ = ⊥

-- a field is absent only where it is neither required nor has a default
abbrev pub IsStoredField : Declared → Option Data → Type 0
IsStoredField f None = (f.required ≡ false) × (f.default ≡ None)
IsStoredField f (Some w) = IsStored f.node w

-- each part that has a node is stored, and a name that is not declared is there only where such names are kept
abbrev pub ArePartsStored : Pair → Type 0
ArePartsStored (fields fs preserves ms) =
    ((k : List ℕ) → field_at k fs ≡ None → preserves ≡ false → member_at k ms ≡ None)
    × ((k : List ℕ) (f : Declared) → field_at k fs ≡ Some f → IsStoredField f (member_at k ms))
ArePartsStored (values N ms) = (k : List ℕ) (w : Data) → member_at k ms ≡ Some w → IsStored N w
ArePartsStored (items N ds) = (i : ℕ) (w : Data) → item_at i ds ≡ Some w → IsStored N w
ArePartsStored whole = Unit {0}

abbrev pub StoredByParts : Node → Data → Type 0
StoredByParts N v = IsValidHere N v × ArePartsStored (pair N v)
