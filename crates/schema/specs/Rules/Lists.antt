-- The rules on list types and map types: `x-kubernetes-list-type`, `x-kubernetes-list-map-keys` and `x-kubernetes-map-type`
-- (apiextensions.k8s.io/v1, merge strategies). Items and keys have to be such that two items can be distinguished.
use Rattle.std.specs.Prelude.{ℕ, List, [], ◌∷◌, Bool, true, false, Option, Some, None, if◌then◌else◌, not, ◌&&◌, ◌||◌, codes}
use Rattle.jtree.specs.Data.{Data, Items}
use Rattle.schema.specs.Document.Texts.{is_among}
use Rattle.schema.specs.Document.Places.{property, items, schema_by}
use Rattle.schema.specs.Rules.Keywords.{flag, has, has_text_among, has_other_text, items_under, texts_of, texts_under, is_empty}
use Rattle.schema.specs.Rules.Kinds.{kind_of, is_scalar_kind, is_list_kind, is_object_kind}
use Rattle.schema.specs.declared.profile.Profile.{Profile}

abbrev pub list_types : List (List ℕ)
list_types = codes "atomic" ∷ codes "set" ∷ codes "map" ∷ []

abbrev pub map_types : List (List ℕ)
map_types = codes "granular" ∷ codes "atomic" ∷ []

abbrev pub is_of_list_type : List ℕ → Data → Bool
is_of_list_type t s = has_text_among (t ∷ []) s (codes "x-kubernetes-list-type")

-- a list type is at a place that is no list, or is another string
abbrev pub has_bad_list_type : Profile → Data → Bool
has_bad_list_type profile s = has s (codes "x-kubernetes-list-type") && (not (is_list_kind (kind_of profile s)) || has_other_text list_types s (codes "x-kubernetes-list-type"))

-- a map type is at a place that is neither an object nor a map, or is another string
abbrev pub has_bad_map_type : Profile → Data → Bool
has_bad_map_type profile s = has s (codes "x-kubernetes-map-type") && (not (is_object_kind (kind_of profile s)) || has_other_text map_types s (codes "x-kubernetes-map-type"))

-- a scalar place that takes no null
abbrev pub is_plain_scalar : Profile → Option Data → Bool
is_plain_scalar profile None = false
is_plain_scalar profile (Some s) = is_scalar_kind (kind_of profile s) && not (flag s (codes "nullable"))

-- a set whose items are no such scalars
abbrev pub has_bad_set_items : Profile → Data → Bool
has_bad_set_items profile s = is_list_kind (kind_of profile s) && (is_of_list_type (codes "set") s && not (is_plain_scalar profile (schema_by s items)))

abbrev pub has_default : Option Data → Bool
has_default None = false
has_default (Some s) = has s (codes "default")

-- a key of the items of a map list: such a scalar property, which each item has, since it is required or has a default
abbrev pub is_key : Profile → Data → List ℕ → Bool
is_key profile item k = is_plain_scalar profile (schema_by item (property k)) && (is_among k (texts_under item (codes "required")) || has_default (schema_by item (property k)))

-- each is a key of the items, and none occurs twice
abbrev pub are_keys : Profile → Data → List (List ℕ) → Bool
are_keys profile item [] = true
are_keys profile item (k ∷ ks) = is_key profile item k && (not (is_among k ks) && are_keys profile item ks)

-- the items are objects, take no null, and have these keys, at least one
abbrev pub have_keys : Profile → Option Data → Items → Bool
have_keys profile None keys = false
have_keys profile (Some item) keys =
    is_object_kind (kind_of profile item) && (not (flag item (codes "nullable")) && (not (is_empty keys) && are_keys profile item (texts_of keys)))

-- a map list whose items have not its keys, or keys of what is no map list
abbrev pub has_bad_keys : Profile → Data → Bool
has_bad_keys profile s =
    if is_of_list_type (codes "map") s
    then is_list_kind (kind_of profile s) && not (have_keys profile (schema_by s items) (items_under s (codes "x-kubernetes-list-map-keys")))
    else has s (codes "x-kubernetes-list-map-keys")
