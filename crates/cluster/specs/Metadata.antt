-- The metadata of resources, the object itself and embedded ones, is read as an ObjectMeta and written again (k8s.io/apimachinery,
-- pkg/apis/meta/v1): other members are dropped, and so are fields without a value, which are null, an empty text, list or object, or a
-- generation of 0. So are other members and nulls of the entries of `ownerReferences` and `managedFields`. Null becomes an empty object.
-- What is no ObjectMeta is refused by the API server; here it stays.
use Rattle.std.specs.Prelude.{ℕ, pos, List, [], Bool, true, false, Option, Some, if◌then◌else◌, not, ◌&&◌, ◌||◌, codes}
use Rattle.std.specs.Ordering.{int_eq}
use Rattle.std.specs.Str.{bytes_eq}
use Rattle.jtree.specs.Data.{Data, null, integer, text, list, object, Items, no_items, item, Members, no_members, member}
use Rattle.cluster.specs.Keywords.{member_schema, item_schema, is_embedded}
use Rattle.cluster.specs.WithoutNulls.{is_null}

-- ---- entries of lists of objects

abbrev pub is_owner_field : List ℕ → Bool
is_owner_field k =
    bytes_eq k (codes "apiVersion") || (bytes_eq k (codes "blockOwnerDeletion") || (bytes_eq k (codes "controller") || (bytes_eq k (codes "kind") || (bytes_eq k (codes "name") || bytes_eq k (codes "uid")))))

abbrev pub is_managed_field : List ℕ → Bool
is_managed_field k =
    bytes_eq k (codes "apiVersion") || (bytes_eq k (codes "fieldsType") || (bytes_eq k (codes "fieldsV1") || (bytes_eq k (codes "manager") || (bytes_eq k (codes "operation") || (bytes_eq k (codes "subresource") || bytes_eq k (codes "time"))))))

abbrev pub is_empty_text : Data → Bool
is_empty_text (text []) = true
is_empty_text _ = false

-- a member of an entry of `managedFields`, or of `ownerReferences`, where an empty text is written
abbrev pub stays_in_entry : Bool → List ℕ → Data → Bool
stays_in_entry managed k d = if managed then is_managed_field k && not (is_null d || is_empty_text d) else is_owner_field k && not (is_null d)

abbrev pub entry_members : Bool → Members → Members
entry_members managed no_members = no_members
entry_members managed (member k d ms) = if stays_in_entry managed k d then member k d (entry_members managed ms) else entry_members managed ms

abbrev pub entry : Bool → Data → Data
entry managed (object ms) = object (entry_members managed ms)
entry managed v = v

abbrev pub each_entry : Bool → Items → Items
each_entry managed no_items = no_items
each_entry managed (item d ds) = item (entry managed d) (each_entry managed ds)

abbrev pub entries : Bool → Data → Data
entries managed (list ds) = list (each_entry managed ds)
entries managed v = v

-- ---- fields

abbrev pub is_text_field : List ℕ → Bool
is_text_field k =
    bytes_eq k (codes "generateName") || (bytes_eq k (codes "name") || (bytes_eq k (codes "namespace") || (bytes_eq k (codes "resourceVersion") || (bytes_eq k (codes "selfLink") || bytes_eq k (codes "uid")))))

abbrev pub is_time_field : List ℕ → Bool
is_time_field k = bytes_eq k (codes "creationTimestamp") || (bytes_eq k (codes "deletionGracePeriodSeconds") || (bytes_eq k (codes "deletionTimestamp") || bytes_eq k (codes "generation")))

abbrev pub is_collection_field : List ℕ → Bool
is_collection_field k =
    bytes_eq k (codes "annotations") || (bytes_eq k (codes "finalizers") || (bytes_eq k (codes "labels") || (bytes_eq k (codes "managedFields") || bytes_eq k (codes "ownerReferences"))))

abbrev pub is_meta_field : List ℕ → Bool
is_meta_field k = is_text_field k || (is_time_field k || is_collection_field k)

abbrev pub has_no_items : Items → Bool
has_no_items no_items = true
has_no_items _ = false

abbrev pub has_no_members : Members → Bool
has_no_members no_members = true
has_no_members _ = false

abbrev pub has_no_value : List ℕ → Data → Bool
has_no_value k null = true
has_no_value k (text []) = true
has_no_value k (list ds) = has_no_items ds
has_no_value k (object ms) = has_no_members ms
has_no_value k (integer z) = bytes_eq k (codes "generation") && int_eq z (pos 0)
has_no_value k _ = false

abbrev pub stays_in_metadata : List ℕ → Data → Bool
stays_in_metadata k d = is_meta_field k && not (has_no_value k d)

abbrev pub has_entries : List ℕ → Bool
has_entries k = bytes_eq k (codes "managedFields") || bytes_eq k (codes "ownerReferences")

abbrev pub meta_value : List ℕ → Data → Data
meta_value k d = if has_entries k then entries (bytes_eq k (codes "managedFields")) d else d

abbrev pub meta_values : Members → Members
meta_values no_members = no_members
meta_values (member k d ms) = member k (meta_value k d) (meta_values ms)

abbrev pub meta_members : Members → Members
meta_members no_members = no_members
meta_members (member k d ms) = if stays_in_metadata k d then member k d (meta_members ms) else meta_members ms

abbrev pub object_meta : Data → Data
object_meta null = object no_members
object_meta (object ms) = object (meta_members (meta_values ms))
object_meta v = v

-- ---- of the resources in a value

abbrev pub is_metadata : Bool → List ℕ → Bool
is_metadata is_resource k = is_resource && bytes_eq k (codes "metadata")

abbrev mutual
  pub with_object_meta : Bool → Option Data → Data → Data
  with_object_meta is_resource s (object ms) = object (members_with_meta is_resource s ms)
  with_object_meta is_resource s (list ds) = list (items_with_meta (item_schema s) ds)
  with_object_meta is_resource s v = v

  pub members_with_meta : Bool → Option Data → Members → Members
  members_with_meta is_resource s no_members = no_members
  members_with_meta is_resource s (member k d ms) =
      member k (if is_metadata is_resource k then object_meta d else with_object_meta (is_embedded (member_schema k s)) (member_schema k s) d) (members_with_meta is_resource s ms)

  pub items_with_meta : Option Data → Items → Items
  items_with_meta s no_items = no_items
  items_with_meta s (item d ds) = item (with_object_meta (is_embedded s) s d) (items_with_meta s ds)

abbrev pub metadata_pruned : Data → Data → Data
metadata_pruned s v = with_object_meta true (Some s) v
