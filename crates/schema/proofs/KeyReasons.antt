-- The rules on keys of map lists and on items of sets are broken exactly where one of their reasons holds.
use Rattle.std.proofs.Common.{◌≡◌, ◌⊎◌, ℕ, List, [], ◌∷◌, Bool, true, false, Option, Some, None, refl, ap, subst, inl, inr, arith}
use Rattle.std.specs.Prelude.{◌↔◌, ◌||◌, ◌&&◌, not, codes}
use Rattle.std.specs.Str.{bytes_eq}
use Rattle.std.proofs.lemmas.Bool.{or_cases, or_parts, or_left, or_right, and_parts, and_from, and_cases, and_left, and_right, not-true, not-false, not_from_true}
use Rattle.jtree.specs.Data.{Data}
use Rattle.jtree.specs.Path.{under}
use Rattle.jtree.specs.Internal.Lookups.{bool_cases, own_name, same_name}
use Rattle.schema.specs.Document.Texts.{is_among}
use Rattle.schema.specs.Document.Places.{property, items, schema_by}
use Rattle.schema.specs.Rules.Keywords.{flag, has, items_under, texts_under, is_empty}
use Rattle.schema.specs.Rules.Kinds.{kind_of, is_scalar_kind, is_list_kind, is_object_kind}
use Rattle.schema.specs.Rules.Lists.{is_of_list_type, is_plain_scalar, has_bad_set_items, is_key, are_keys, have_keys, has_bad_keys}
use Rattle.schema.specs.Rules.Reasons.{list_keyword, breaks_set_by, is_items_reason, is_item_reason, is_key_reason, breaks_keys_by, is_map_list_reason, is_other_list_reason, any_text, has_repeated, list_type, map_keys}
use Rattle.schema.specs.declared.reason.Reason.{Reason}
use Rattle.schema.specs.declared.reason.Reason.TheVariants.{KeysOfOtherList, NoKeys, NoItems, ItemsNotObjects, ItemsNotScalars, NullableItems, RepeatedKey, UndeclaredKey, KeyNotScalar, NullableKey, OptionalKey}
use Rattle.schema.proofs.ReasonWords.{Found, either_true, text_there, some_there, items_there}
use Rattle.schema.specs.declared.profile.Profile.{Profile}

-- ---- a reason is about its own keyword

abbrev HasReasonBy : (Reason → Data → Bool) → Data → Type 0
HasReasonBy test s = (c : Reason) × (has s (list_keyword c) ≡ true) × (test c s ≡ true)

abbrev pub FoundBy : (Reason → Data → Bool) → Data → Type 0
FoundBy test s = Found (λ c k t. bytes_eq k (list_keyword c) && test c t) s

found_by : (test : Reason → Data → Bool) (s : Data) → HasReasonBy test s → FoundBy test s
found_by test s h = (list_keyword h.0, h.0, h.1, and_from _ _ (own_name (list_keyword h.0)) h.2)

by_found : (test : Reason → Data → Bool) (s : Data) → FoundBy test s → HasReasonBy test s
by_found test s f =
    let parts = and_parts (bytes_eq f.0 (list_keyword f.1)) _ f.3 in
    (f.1, subst (λ k. has s k ≡ true) (same_name f.0 (list_keyword f.1) parts.0) f.2, parts.1)

-- ---- sets

listed : (t : List ℕ) (s : Data) → is_of_list_type t s ≡ true → has s list_type ≡ true
listed t s h = text_there (t ∷ []) (under s list_type) h

set_explained : (profile : Profile) (s : Data) (o : Option Data) → schema_by s items ≡ o → is_list_kind (kind_of profile s) ≡ true → is_of_list_type (codes "set") s ≡ true → not (is_plain_scalar profile o) ≡ true → HasReasonBy (breaks_set_by profile) s
set_explained profile s None by is_list set bad = (NoItems, listed (codes "set") s set, rw (is_list, set, by) refl)
set_explained profile s (Some t) by is_list set bad = elim (bool_cases (is_scalar_kind (kind_of profile t))) [
  | inl is ↦ (NullableItems, items_there s t by, rw (is_list, set, by) (grind arith))
  | inr other ↦ (ItemsNotScalars, items_there s t by, rw (is_list, set, by, other) refl)
]

no_plain : (profile : Profile) (c : Reason) (s : Data) (o : Option Data) → schema_by s items ≡ o → is_items_reason profile c s ≡ true → not (is_plain_scalar profile o) ≡ true
no_plain profile c s None by h = refl
no_plain profile NoItems s (Some t) by h = absurd (let never : false ≡ true = rw by at h in cc)
no_plain profile ItemsNotScalars s (Some t) by h = let is : is_item_reason profile ItemsNotScalars t ≡ true = rw by at h in rw (not-true _ is) refl
no_plain profile NullableItems s (Some t) by h = let is : is_item_reason profile NullableItems t ≡ true = rw by at h in ap not (and_right (is_scalar_kind (kind_of profile t)) _ (not_from_true _ is))
no_plain profile _ s (Some t) by h = absurd (cc)

pub set_reasons : (profile : Profile) (s : Data) → has_bad_set_items profile s ≡ true ↔ FoundBy (breaks_set_by profile) s
set_reasons profile s = (
  λ h.
      let a = and_parts _ _ h in
      let b = and_parts _ _ a.1 in
      found_by (breaks_set_by profile) s (set_explained profile s (schema_by s items) refl a.0 b.0 b.1),
  λ f.
      let r = by_found (breaks_set_by profile) s f in
      let a = and_parts _ _ r.2 in
      let b = and_parts _ _ a.1 in
      and_from _ _ a.0 (and_from _ _ b.0 (no_plain profile r.0 s (schema_by s items) refl b.1)),
)

-- ---- keys

one_bad : (profile : Profile) (t : Data) (k : List ℕ) (o : Option Data) → schema_by t (property k) ≡ o → is_key profile t k ≡ false → (c : Reason) × (is_key_reason profile c t k ≡ true)
one_bad profile t k None by bad = (UndeclaredKey, rw by refl)
one_bad profile t k (Some d) by bad = elim (bool_cases (is_scalar_kind (kind_of profile d))) [
  | inr other ↦ (KeyNotScalar, rw (by, other) refl)
  | inl is ↦ elim (bool_cases (flag d (codes "nullable"))) [
    | inl nullable ↦ (NullableKey, rw (by, nullable) refl)
    | inr never ↦
        let left : (is_among k (texts_under t (codes "required")) || has d (codes "default")) ≡ false = rw (by, is, never) at bad in
        let parts = or_parts (is_among k (texts_under t (codes "required"))) (has d (codes "default")) left in
        (OptionalKey, rw (by, parts.0, parts.1) refl)
  ]
]

keys_bad : (profile : Profile) (t : Data) (ks : List (List ℕ)) → are_keys profile t ks ≡ false → (has_repeated ks ≡ true) ⊎ ((c : Reason) × (any_text (is_key_reason profile c t) ks ≡ true))
keys_bad profile t [] bad = absurd (cc)
keys_bad profile t (k ∷ ks) bad = elim (and_cases (is_key profile t k) (not (is_among k ks) && are_keys profile t ks) bad) [
  | inl here ↦ let one = one_bad profile t k _ refl here in inr (one.0, or_left (is_key_reason profile one.0 t k) _ one.1)
  | inr rest ↦ elim (and_cases (not (is_among k ks)) (are_keys profile t ks) rest) [
    | inl twice ↦ inl (or_left (is_among k ks) (has_repeated ks) (not-false (is_among k ks) twice))
    | inr later ↦ elim (keys_bad profile t ks later) [
      | inl repeated ↦ inl (or_right (is_among k ks) _ repeated)
      | inr some ↦ inr (some.0, or_right (is_key_reason profile some.0 t k) _ some.1)
    ]
  ]
]

never_any : (ks : List (List ℕ)) → any_text (λ k. false) ks ≡ true → ⊥
never_any [] h = cc
never_any (k ∷ ks) h = never_any ks h

key_explained : (profile : Profile) (c : Reason) (s t : Data) → schema_by s items ≡ Some t → is_of_list_type (codes "map") s ≡ true → is_list_kind (kind_of profile s) ≡ true → has s map_keys ≡ true
    → any_text (is_key_reason profile c t) (texts_under s map_keys) ≡ true → HasReasonBy (breaks_keys_by profile) s
key_explained profile UndeclaredKey s t by is_map is_list there h = (UndeclaredKey, there, rw (is_map, is_list, by) h)
key_explained profile KeyNotScalar s t by is_map is_list there h = (KeyNotScalar, there, rw (is_map, is_list, by) h)
key_explained profile NullableKey s t by is_map is_list there h = (NullableKey, there, rw (is_map, is_list, by) h)
key_explained profile OptionalKey s t by is_map is_list there h = (OptionalKey, there, rw (is_map, is_list, by) h)
key_explained profile _ s t by is_map is_list there h = absurd (never_any (texts_under s map_keys) h)

keys_explained : (profile : Profile) (s : Data) (o : Option Data) → schema_by s items ≡ o → is_of_list_type (codes "map") s ≡ true → is_list_kind (kind_of profile s) ≡ true
    → not (have_keys profile o (items_under s map_keys)) ≡ true → HasReasonBy (breaks_keys_by profile) s
keys_explained profile s None by is_map is_list bad = (NoItems, listed (codes "map") s is_map, rw (is_map, is_list, by) refl)
keys_explained profile s (Some t) by is_map is_list bad = elim (bool_cases (is_object_kind (kind_of profile t))) [
  | inr other ↦ (ItemsNotObjects, items_there s t by, rw (is_map, is_list, by, other) refl)
  | inl is ↦ elim (bool_cases (flag t (codes "nullable"))) [
    | inl nullable ↦ (NullableItems, items_there s t by, rw (is_map, is_list, by, nullable) refl)
    | inr never ↦ elim (bool_cases (is_empty (items_under s map_keys))) [
      | inl none ↦ (NoKeys, listed (codes "map") s is_map, rw (is_map, is_list, none) refl)
      | inr some ↦
          let left : not (are_keys profile t (texts_under s map_keys)) ≡ true = rw (is, never, some) at bad in
          elim (keys_bad profile t (texts_under s map_keys) (not-true _ left)) [
            | inl repeated ↦ (RepeatedKey, some_there _ some, rw (is_map, is_list, repeated) refl)
            | inr key ↦ key_explained profile key.0 s t by is_map is_list (some_there _ some) key.1
          ]
    ]
  ]
]

-- ---- and back

key_no : (profile : Profile) (c : Reason) (t : Data) (k : List ℕ) (o : Option Data) → schema_by t (property k) ≡ o → is_key_reason profile c t k ≡ true → is_key profile t k ≡ false
key_no profile UndeclaredKey t k None by h = rw by refl
key_no profile UndeclaredKey t k (Some d) by h = absurd (let never : false ≡ true = rw by at h in cc)
key_no profile KeyNotScalar t k None by h = rw by refl
key_no profile KeyNotScalar t k (Some d) by h = let other : not (is_scalar_kind (kind_of profile d)) ≡ true = rw by at h in rw (by, not-true _ other) refl
key_no profile NullableKey t k None by h = rw by refl
key_no profile NullableKey t k (Some d) by h =
    let nullable : flag d (codes "nullable") ≡ true = rw by at h in
    rw (by, nullable) (and_left _ _ (and_right (is_scalar_kind (kind_of profile d)) _ refl))
key_no profile OptionalKey t k None by h = rw by refl
key_no profile OptionalKey t k (Some d) by h =
    let parts : (not (is_among k (texts_under t (codes "required"))) && not (has d (codes "default"))) ≡ true = rw by at h in
    let never = and_parts _ _ parts in
    rw (by, not-true (is_among k (texts_under t (codes "required"))) never.0, not-true (has d (codes "default")) never.1) (and_right _ _ refl)
key_no profile _ t k o by h = absurd (cc)

any_no : (profile : Profile) (c : Reason) (t : Data) (ks : List (List ℕ)) → any_text (is_key_reason profile c t) ks ≡ true → are_keys profile t ks ≡ false
any_no profile c t [] h = absurd (cc)
any_no profile c t (k ∷ ks) h = elim (or_cases (is_key_reason profile c t k) (any_text (is_key_reason profile c t) ks) h) [
  | inl here ↦ and_left _ _ (key_no profile c t k _ refl here)
  | inr later ↦ and_right (is_key profile t k) _ (and_right (not (is_among k ks)) _ (any_no profile c t ks later))
]

repeated_no : (profile : Profile) (t : Data) (ks : List (List ℕ)) → has_repeated ks ≡ true → are_keys profile t ks ≡ false
repeated_no profile t [] h = absurd (cc)
repeated_no profile t (k ∷ ks) h = elim (or_cases (is_among k ks) (has_repeated ks) h) [
  | inl here ↦ and_right (is_key profile t k) _ (and_left (not (is_among k ks)) _ (not_from_true (is_among k ks) here))
  | inr later ↦ and_right (is_key profile t k) _ (and_right (not (is_among k ks)) _ (repeated_no profile t ks later))
]

keys_no : (profile : Profile) (s t : Data) → are_keys profile t (texts_under s map_keys) ≡ false → have_keys profile (Some t) (items_under s map_keys) ≡ false
keys_no profile s t bad = and_right (is_object_kind (kind_of profile t)) _ (and_right (not (flag t (codes "nullable"))) _ (and_right (not (is_empty (items_under s map_keys))) _ bad))

have_no : (profile : Profile) (c : Reason) (s : Data) (o : Option Data) → schema_by s items ≡ o → is_map_list_reason profile c s ≡ true → have_keys profile o (items_under s map_keys) ≡ false
have_no profile c s None by h = refl
have_no profile NoKeys s (Some t) by h =
    and_right (is_object_kind (kind_of profile t)) _ (and_right (not (flag t (codes "nullable"))) _ (and_left (not (is_empty (items_under s map_keys))) _ (not_from_true _ h)))
have_no profile NoItems s (Some t) by h = absurd (let never : false ≡ true = rw by at h in cc)
have_no profile ItemsNotObjects s (Some t) by h =
    let other : not (is_object_kind (kind_of profile t)) ≡ true = rw by at h in
    and_left (is_object_kind (kind_of profile t)) _ (not-true _ other)
have_no profile NullableItems s (Some t) by h =
    let nullable : flag t (codes "nullable") ≡ true = rw by at h in
    and_right (is_object_kind (kind_of profile t)) _ (and_left (not (flag t (codes "nullable"))) _ (not_from_true _ nullable))
have_no profile RepeatedKey s (Some t) by h = keys_no profile s t (repeated_no profile t (texts_under s map_keys) h)
have_no profile c s (Some t) by h =
    let some : any_text (is_key_reason profile c t) (texts_under s map_keys) ≡ true = rw by at h in
    keys_no profile s t (any_no profile c t (texts_under s map_keys) some)

other_list : (c : Reason) → is_other_list_reason c ≡ true → list_keyword c ≡ map_keys
other_list KeysOfOtherList h = refl
other_list _ h = absurd (cc)

pub keys_reasons : (profile : Profile) (s : Data) → has_bad_keys profile s ≡ true ↔ FoundBy (breaks_keys_by profile) s
keys_reasons profile s = (
  λ h. found_by (breaks_keys_by profile) s (elim (either_true (is_of_list_type (codes "map") s) _ _ h) [
    | inl is ↦ let a = and_parts _ _ is.1 in keys_explained profile s (schema_by s items) refl is.0 a.0 a.1
    | inr other ↦ (KeysOfOtherList, other.1, rw other.0 refl)
  ]),
  λ f.
      let r = by_found (breaks_keys_by profile) s f in
      elim (either_true (is_of_list_type (codes "map") s) _ _ r.2) [
        | inl is ↦
            let a = and_parts (is_list_kind (kind_of profile s)) (is_map_list_reason profile r.0 s) is.1 in
            let bad : have_keys profile (schema_by s items) (items_under s map_keys) ≡ false = have_no profile r.0 s (schema_by s items) refl a.1 in
            rw (is.0, a.0, bad) refl
        | inr other ↦ rw other.0 (subst (λ k. has s k ≡ true) (other_list r.0 other.1) r.1)
      ],
)
