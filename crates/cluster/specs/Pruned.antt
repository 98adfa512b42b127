-- Pruning by a schema as it is written (apiextensions.k8s.io/v1, "field pruning"): an object loses the members that its schema does not
-- declare. Where `x-kubernetes-preserve-unknown-fields` is true it keeps them, and so do the items of a list, at any depth of lists.
-- `additionalProperties` declares all names; where it is true and no schema, objects below lose all members. A value without a schema is
-- pruned in the same way. A resource, embedded or the object itself, keeps `apiVersion`, `kind` and `metadata` as they are.
use Rattle.std.specs.Prelude.{ℕ, List, Bool, true, Option, Some, if◌then◌else◌, not, ◌&&◌, ◌||◌, codes}
use Rattle.std.specs.Str.{bytes_eq}
use Rattle.jtree.specs.Data.{Data, list, object, Items, no_items, item, Members, no_members, member}
use Rattle.cluster.specs.Keywords.{member_schema, is_declared, item_schema, keeps_undeclared, is_embedded}

-- the members that each resource has
abbrev pub is_envelope : List ℕ → Bool
is_envelope k = bytes_eq k (codes "apiVersion") || (bytes_eq k (codes "kind") || bytes_eq k (codes "metadata"))

-- a member of the envelope of a resource
abbrev pub is_enveloped : Bool → List ℕ → Bool
is_enveloped is_resource k = is_resource && is_envelope k

-- a member that is not dropped where undeclared ones are
abbrev pub is_kept : Bool → Option Data → List ℕ → Bool
is_kept is_resource s k = is_enveloped is_resource k || is_declared k s

-- a member that is pruned in turn
abbrev pub is_entered : Bool → Option Data → List ℕ → Bool
is_entered is_resource s k = not (is_enveloped is_resource k) && is_declared k s

abbrev pub kept_members : Bool → Option Data → Members → Members
kept_members is_resource s no_members = no_members
kept_members is_resource s (member k d ms) = if is_kept is_resource s k then member k d (kept_members is_resource s ms) else kept_members is_resource s ms

-- whether items keep undeclared members: as their list does, or by their own schema
abbrev pub items_keep : Bool → Option Data → Bool
items_keep keeps s = keeps || keeps_undeclared (item_schema s)

abbrev mutual
  -- the value of a schema, which may be a resource and may keep what is undeclared
  pub pruned : Bool → Bool → Option Data → Data → Data
  pruned is_resource keeps s (object ms) = object (if keeps then pruned_members is_resource s ms else kept_members is_resource s (pruned_members is_resource s ms))
  pruned is_resource keeps s (list ds) = list (pruned_items (items_keep keeps s) (item_schema s) ds)
  pruned is_resource keeps s v = v

  pub pruned_members : Bool → Option Data → Members → Members
  pruned_members is_resource s no_members = no_members
  pruned_members is_resource s (member k d ms) = member k (if is_entered is_resource s k then pruned (is_embedded (member_schema k s)) (keeps_undeclared (member_schema k s)) (member_schema k s) d else d) (pruned_members is_resource s ms)

  pub pruned_items : Bool → Option Data → Items → Items
  pruned_items keeps s no_items = no_items
  pruned_items keeps s (item d ds) = item (pruned (is_embedded s) keeps s d) (pruned_items keeps s ds)

-- an object of a version, by the schema of the version
abbrev pub pruned_object : Data → Data → Data
pruned_object s v = pruned true (keeps_undeclared (Some s)) (Some s) v
