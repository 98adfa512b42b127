-- Nulls that are dropped (apiextensions.k8s.io/v1, "nullable"): a member that is null, where its schema is neither nullable nor has a
-- default. Items are not dropped. The members of the envelope of the object itself stay as they are.
use Rattle.std.specs.Prelude.{ℕ, List, Bool, true, false, Option, Some, if◌then◌else◌, not, ◌&&◌}
use Rattle.std.specs.Option.{is_none}
use Rattle.jtree.specs.Data.{Data, null, list, object, Items, no_items, item, Members, no_members, member}
use Rattle.cluster.specs.Keywords.{member_schema, item_schema, is_schema, is_nullable, default_of}
use Rattle.cluster.specs.Pruned.{is_enveloped}

abbrev pub is_null : Data → Bool
is_null null = true
is_null _ = false

-- a null has no place under this schema
abbrev pub refuses_null : Option Data → Bool
refuses_null s = is_schema s && (not (is_nullable s) && is_none (default_of s))

abbrev pub is_dropped : Bool → Option Data → List ℕ → Data → Bool
is_dropped is_resource s k d = is_null d && (not (is_enveloped is_resource k) && refuses_null (member_schema k s))

abbrev pub members_left : Bool → Option Data → Members → Members
members_left is_resource s no_members = no_members
members_left is_resource s (member k d ms) = if is_dropped is_resource s k d then members_left is_resource s ms else member k d (members_left is_resource s ms)

abbrev mutual
  pub without_nulls : Bool → Option Data → Data → Data
  without_nulls is_resource s (object ms) = object (members_left is_resource s (members_without is_resource s ms))
  without_nulls is_resource s (list ds) = list (items_without (item_schema s) ds)
  without_nulls is_resource s v = v

  pub members_without : Bool → Option Data → Members → Members
  members_without is_resource s no_members = no_members
  members_without is_resource s (member k d ms) = member k (if is_enveloped is_resource k then d else without_nulls false (member_schema k s) d) (members_without is_resource s ms)

  pub items_without : Option Data → Items → Items
  items_without s no_items = no_items
  items_without s (item d ds) = item (without_nulls false s d) (items_without s ds)

abbrev pub object_without_nulls : Data → Data → Data
object_without_nulls s v = without_nulls true (Some s) v
