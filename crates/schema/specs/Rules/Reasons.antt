-- Why a place breaks one of the rules V03, V05, V11, V12, V16 and V17: each reason, and the keyword of the place that it is
-- about: what is absent is told at the keyword that asks for it, as `items` of a list at `type`. A reason that says the same of several
-- rules belongs to each. The other rules are broken in one way each, and have no reasons. This project's own.
use Rattle.std.specs.Prelude.{◌≡◌, ◌⊎◌, ℕ, List, [], ◌∷◌, Bool, true, false, Option, Some, None, if◌then◌else◌, not, ◌&&◌, ◌||◌, codes}
use Rattle.std.specs.Option.{is_some}
use Rattle.std.specs.Str.{bytes_eq}
use Rattle.jtree.specs.Data.{Data}
use Rattle.schema.specs.Document.Texts.{is_among}
use Rattle.schema.specs.Document.Raw.{Raw}
use Rattle.schema.specs.Document.Places.{Place, property, items, schema_by, schema_at, is_inside, core}
use Rattle.schema.specs.Rules.Keywords.{flag, has, has_other_text, is_empty, items_under, texts_under}
use Rattle.schema.specs.Rules.Kinds.{Kind, kind_of, is_scalar_kind, is_list_kind, is_object_kind, is_open_kind, is_int_or_string, preserves}
use Rattle.schema.specs.Rules.Lists.{is_of_list_type}
use Rattle.schema.specs.Rules.Profile.{outside_keywords, unsupported_keywords, junctor_keywords, is_root, is_foreign, has_empty_enum, lists_other, is_scalar_value, has_no_choice, has_other_choice, is_untyped_open, not_at_root, has_unknown_type, lacks_items, requires_undeclared}
use Rattle.schema.specs.Rules.Junctors.{asks_presence, asks_value, is_branch_keyword, is_presence_keyword, requires_no_field, takes_no_junctor, HasTooManyNames}
use Rattle.schema.specs.Rules.Broken.{At, IsPatternBranch}
use Rattle.schema.specs.declared.violation.Rule.{Rule}
use Rattle.schema.specs.declared.violation.Rule.TheVariants.{V03, V05, V11, V12, V16, V17}
use Rattle.schema.specs.declared.reason.Reason.{Reason}
use Rattle.schema.specs.declared.reason.Reason.TheVariants.{NotInBranches, TypeInBranch, NotSupported, KeysOfOtherList, NoKeys, NoItems, ItemsNotObjects, ItemsNotScalars, NullableItems, RepeatedKey, UndeclaredKey, KeyNotScalar, NullableKey, OptionalKey, MisplacedJunctor, NotInScalarBranches, NotInPresenceBranches, TooManyNames, EmptyEnum, EnumNotScalars, EnumOfOtherKind, UndeclaredField, RootNotObject, NotAtRoot, UnknownType, NotWithPreserving, NotOfScalars, NotOfLists, NotOfObjects, NotOfOpenPlaces, AdditionalPropertiesTrue}
use Rattle.schema.specs.declared.profile.Profile.{Profile}

-- the schema is there, and passes a test
abbrev pub passes : (Data → Bool) → Option Data → Bool
passes test None = false
passes test (Some s) = test s

-- ---- V03 and V05: keywords that no branch, or no place, may have

abbrev pub is_branch_reason : Reason → List ℕ → Bool
is_branch_reason NotInBranches k = is_among k outside_keywords
is_branch_reason _ k = false

-- but for the branches of the int-or-string pattern
abbrev pub is_type_reason : Reason → List ℕ → Bool
is_type_reason TypeInBranch k = bytes_eq k (codes "type")
is_type_reason _ k = false

abbrev pub is_support_reason : Reason → List ℕ → Bool
is_support_reason NotSupported k = is_among k unsupported_keywords
is_support_reason _ k = false

-- ---- V11 and V12: the items and the keys of lists

abbrev pub list_type : List ℕ
list_type = codes "x-kubernetes-list-type"

abbrev pub map_keys : List ℕ
map_keys = codes "x-kubernetes-list-map-keys"

-- the keyword that a reason is about
abbrev pub list_keyword : Reason → List ℕ
list_keyword NoKeys = list_type
list_keyword NoItems = list_type
list_keyword ItemsNotObjects = codes "items"
list_keyword ItemsNotScalars = codes "items"
list_keyword NullableItems = codes "items"
list_keyword _ = map_keys

-- of the items
abbrev pub is_item_reason : Profile → Reason → Data → Bool
is_item_reason profile ItemsNotObjects t = not (is_object_kind (kind_of profile t))
is_item_reason profile ItemsNotScalars t = not (is_scalar_kind (kind_of profile t))
is_item_reason profile NullableItems t = flag t (codes "nullable")
is_item_reason profile _ t = false

-- of a key, by the schema of the items
abbrev pub is_key_reason : Profile → Reason → Data → List ℕ → Bool
is_key_reason profile UndeclaredKey t k = not (is_some (schema_by t (property k)))
is_key_reason profile KeyNotScalar t k = passes (λ s. not (is_scalar_kind (kind_of profile s))) (schema_by t (property k))
is_key_reason profile NullableKey t k = passes (λ s. flag s (codes "nullable")) (schema_by t (property k))
is_key_reason profile OptionalKey t k = not (is_among k (texts_under t (codes "required"))) && passes (λ s. not (has s (codes "default"))) (schema_by t (property k))
is_key_reason profile _ t k = false

-- some of the strings passes a test
abbrev pub any_text : (List ℕ → Bool) → List (List ℕ) → Bool
any_text test [] = false
any_text test (t ∷ ts) = test t || any_text test ts

-- one of them occurs twice
abbrev pub has_repeated : List (List ℕ) → Bool
has_repeated [] = false
has_repeated (t ∷ ts) = is_among t ts || has_repeated ts

-- of a list of list type `map`
abbrev pub is_map_list_reason : Profile → Reason → Data → Bool
is_map_list_reason profile NoKeys s = is_empty (items_under s map_keys)
is_map_list_reason profile NoItems s = not (is_some (schema_by s items))
is_map_list_reason profile ItemsNotObjects s = passes (is_item_reason profile ItemsNotObjects) (schema_by s items)
is_map_list_reason profile NullableItems s = passes (is_item_reason profile NullableItems) (schema_by s items)
is_map_list_reason profile RepeatedKey s = has_repeated (texts_under s map_keys)
is_map_list_reason profile c s = passes (λ t. any_text (is_key_reason profile c t) (texts_under s map_keys)) (schema_by s items)

-- of what has another list type, or none
abbrev pub is_other_list_reason : Reason → Bool
is_other_list_reason KeysOfOtherList = true
is_other_list_reason _ = false

abbrev pub breaks_keys_by : Profile → Reason → Data → Bool
breaks_keys_by profile c s = if is_of_list_type (codes "map") s then is_list_kind (kind_of profile s) && is_map_list_reason profile c s else is_other_list_reason c

-- of a list of list type `set`
abbrev pub is_items_reason : Profile → Reason → Data → Bool
is_items_reason profile NoItems s = not (is_some (schema_by s items))
is_items_reason profile ItemsNotScalars s = passes (is_item_reason profile ItemsNotScalars) (schema_by s items)
is_items_reason profile NullableItems s = passes (is_item_reason profile NullableItems) (schema_by s items)
is_items_reason profile _ s = false

abbrev pub breaks_set_by : Profile → Reason → Data → Bool
breaks_set_by profile c s = is_list_kind (kind_of profile s) && (is_of_list_type (codes "set") s && is_items_reason profile c s)

-- ---- V16: junctors

abbrev pub is_junctor_reason : Profile → Place → Option Data → Reason → List ℕ → Data → Bool
is_junctor_reason profile p outer MisplacedJunctor k s = is_among k junctor_keywords && takes_no_junctor profile p s
is_junctor_reason profile p outer NotInPresenceBranches k s = not (is_presence_keyword k) && asks_presence profile p outer
is_junctor_reason profile p outer UndeclaredField k s = bytes_eq k (codes "required") && (asks_presence profile p outer && requires_no_field p outer s)
is_junctor_reason profile p outer NotInScalarBranches k s = not (is_branch_keyword k) && asks_value profile p outer
is_junctor_reason profile p outer EmptyEnum k s = bytes_eq k (codes "enum") && (asks_value profile p outer && has_empty_enum s)
is_junctor_reason profile p outer EnumNotScalars k s = bytes_eq k (codes "enum") && (asks_value profile p outer && lists_other is_scalar_value s)
is_junctor_reason profile p outer _ k s = false

-- the junctors of the place name more than four fields: of each of these
abbrev pub is_names_reason : Reason → List ℕ → Bool
is_names_reason TooManyNames k = is_among k junctor_keywords
is_names_reason _ k = false

-- ---- V17: the profile

-- another type than object, or int-or-string
abbrev pub makes_no_object : List ℕ → Data → Bool
makes_no_object k s =
    (bytes_eq k (codes "type") && has_other_text ([] ∷ codes "object" ∷ []) s (codes "type"))
    || (bytes_eq k (codes "x-kubernetes-int-or-string") && is_int_or_string s)

-- the keyword makes the root something other than an object
abbrev pub makes_other_root : List ℕ → Data → Bool
makes_other_root k s = makes_no_object k s || (bytes_eq k (codes "x-kubernetes-preserve-unknown-fields") && is_untyped_open s)

-- the root may not have the keyword, or is nullable
abbrev pub is_no_root_keyword : List ℕ → Data → Bool
is_no_root_keyword k s = (bytes_eq k (codes "nullable") && flag s (codes "nullable")) || is_among k not_at_root

-- it does not go with `x-kubernetes-preserve-unknown-fields`: another type than `object`, int-or-string, and a map
abbrev pub is_no_preserving : List ℕ → Data → Bool
is_no_preserving k s = makes_no_object k s || bytes_eq k (codes "additionalProperties")

-- the reason is about places of the kind
abbrev pub is_about_kind : Reason → Option Kind → Bool
is_about_kind NotOfScalars kind = is_scalar_kind kind
is_about_kind NotOfLists kind = is_list_kind kind
is_about_kind NotOfObjects kind = is_object_kind kind
is_about_kind NotOfOpenPlaces kind = is_open_kind kind
is_about_kind _ kind = false

abbrev pub is_profile_reason : Profile → Bool → Reason → List ℕ → Data → Bool
is_profile_reason profile root RootNotObject k s = root && makes_other_root k s
is_profile_reason profile root NotAtRoot k s = root && is_no_root_keyword k s
is_profile_reason profile root UnknownType k s = bytes_eq k (codes "type") && has_unknown_type profile s
is_profile_reason profile root NotWithPreserving k s = is_no_preserving k s && preserves s
is_profile_reason profile root NoItems k s = bytes_eq k (codes "type") && lacks_items profile s
is_profile_reason profile root UndeclaredField k s = bytes_eq k (codes "required") && requires_undeclared root s
is_profile_reason profile root EmptyEnum k s = bytes_eq k (codes "enum") && has_no_choice (kind_of profile s) s
is_profile_reason profile root EnumOfOtherKind k s = bytes_eq k (codes "enum") && has_other_choice (kind_of profile s) s
is_profile_reason profile root AdditionalPropertiesTrue k s = bytes_eq k (codes "additionalProperties") && flag s (codes "additionalProperties")
is_profile_reason profile root c k s = is_about_kind c (kind_of profile s) && is_foreign (kind_of profile s) k

-- ---- the reasons of a rule

-- with a keyword of the schema at a place
abbrev pub Explains : Raw → Place → Data → Rule → List ℕ → Reason → Type 0
Explains raw p s V03 k c = (is_inside p ≡ true) × ((is_branch_reason c k ≡ true) ⊎ ((is_type_reason c k ≡ true) × (IsPatternBranch raw.tree p → ⊥)))
Explains raw p s V05 k c = is_support_reason c k ≡ true
Explains raw p s V11 k c = (is_inside p ≡ false) × ((bytes_eq k (list_keyword c) && breaks_keys_by raw.profile c s) ≡ true)
Explains raw p s V12 k c = (is_inside p ≡ false) × ((bytes_eq k (list_keyword c) && breaks_set_by raw.profile c s) ≡ true)
Explains raw p s V16 k c =
    (is_junctor_reason raw.profile p (schema_at raw.tree (core p)) c k s ≡ true) ⊎ ((is_names_reason c k ≡ true) × HasTooManyNames raw.profile p s)
Explains raw p s V17 k c = (is_inside p ≡ false) × (is_profile_reason raw.profile (is_root p) c k s ≡ true)
Explains raw p s _ k c = ⊥

-- the rule is broken at the place for this reason, by this keyword, which is there
abbrev pub HasReason : Raw → Place → Rule → List ℕ → Reason → Type 0
HasReason raw p r k c = At raw.tree p (λ s. (has s k ≡ true) × Explains raw p s r k c)

-- for some reason, by some keyword
abbrev pub HasSomeReason : Raw → Place → Rule → Type 0
HasSomeReason raw p r = (k : List ℕ) × (c : Reason) × HasReason raw p r k c

-- the rules with reasons
abbrev pub has_reasons : Rule → Bool
has_reasons V03 = true
has_reasons V05 = true
has_reasons V11 = true
has_reasons V12 = true
has_reasons V16 = true
has_reasons V17 = true
has_reasons _ = false
