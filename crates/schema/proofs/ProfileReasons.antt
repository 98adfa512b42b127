-- The rule on the profile is broken exactly where one of its reasons holds.
use Rattle.std.proofs.Common.{◌≡◌, ℕ, List, [], ◌∷◌, Bool, true, false, Option, Some, None, refl, subst, inl, inr}
use Rattle.std.specs.Prelude.{◌↔◌, ◌&&◌, codes}
use Rattle.std.specs.Option.{is_some}
use Rattle.std.specs.Str.{bytes_eq}
use Rattle.std.proofs.lemmas.Bool.{or_cases, or_left, or_right, and_parts, and_from}
use Rattle.jtree.specs.Data.{Data}
use Rattle.jtree.specs.Path.{under}
use Rattle.jtree.specs.Internal.Lookups.{bool_cases, same_name}
use Rattle.schema.specs.Document.Texts.{is_among}
use Rattle.schema.specs.Rules.Keywords.{flag, has, has_other_text}
use Rattle.schema.specs.Rules.Kinds as kinds
use Rattle.schema.specs.Rules.Kinds.{Kind, scalar, open_, kind_of, is_list_kind, is_int_or_string, preserves}
use Rattle.schema.specs.Rules.Profile.{is_foreign, has_no_choice, has_other_choice, is_no_object, is_other_root, not_at_root, has_no_root_keyword, is_bad_preserving, has_foreign_keyword, has_bad_choices, profile_tests, is_outside_profile}
use Rattle.schema.specs.Rules.Reasons.{is_profile_reason, makes_no_object, makes_other_root, is_no_root_keyword, is_no_preserving, is_about_kind}
use Rattle.schema.specs.declared.reason.Reason.{Reason}
use Rattle.schema.specs.declared.reason.Reason.TheVariants.{NoItems, EmptyEnum, EnumOfOtherKind, UndeclaredField, RootNotObject, NotAtRoot, UnknownType, NotWithPreserving, NotOfScalars, NotOfLists, NotOfObjects, NotOfOpenPlaces, AdditionalPropertiesTrue}
use Rattle.schema.proofs.ReasonWords.{Found, cases, holds_at, flag_there, listed_there, empty_there, some_keyword, keyword_found}
use Rattle.schema.specs.declared.profile.Profile.{Profile}

-- ---- what a condition says of a keyword that is there

-- some keyword that is there passes
abbrev Named : (List ℕ → Data → Bool) → Data → Type 0
Named test s = (k : List ℕ) × (has s k ≡ true) × (test k s ≡ true)

no_object_to : (s : Data) → is_no_object s ≡ true → Named makes_no_object s
no_object_to s h = elim (or_cases (has_other_text ([] ∷ codes "object" ∷ []) s (codes "type")) _ h) [
  | inl other ↦ (codes "type", (and_parts (has s (codes "type")) _ other).0, or_left _ _ other)
  | inr single ↦ (codes "x-kubernetes-int-or-string", flag_there _ single, single)
]

no_object_from : (k : List ℕ) (s : Data) → makes_no_object k s ≡ true → is_no_object s ≡ true
no_object_from k s h = elim (or_cases (bytes_eq k (codes "type") && has_other_text ([] ∷ codes "object" ∷ []) s (codes "type")) _ h) [
  | inl other ↦ or_left _ _ (and_parts (bytes_eq k (codes "type")) _ other).1
  | inr single ↦ or_right (has_other_text ([] ∷ codes "object" ∷ []) s (codes "type")) _ (and_parts (bytes_eq k (codes "x-kubernetes-int-or-string")) _ single).1
]

other_root_to : (root : Bool) (s : Data) → is_other_root root s ≡ true → Named (λ k t. root && makes_other_root k t) s
other_root_to root s h =
    let parts = and_parts root _ h in
    elim (or_cases (is_no_object s) _ parts.1) [
      | inl other ↦ let f = no_object_to s other in (f.0, f.1, and_from root _ parts.0 (or_left (makes_no_object f.0 s) _ f.2))
      | inr any ↦ (codes "x-kubernetes-preserve-unknown-fields", flag_there _ (and_parts (preserves s) _ any).0, and_from root _ parts.0 any)
    ]

other_root_from : (root : Bool) (k : List ℕ) (s : Data) → (root && makes_other_root k s) ≡ true → is_other_root root s ≡ true
other_root_from root k s h =
    let parts = and_parts root _ h in
    and_from root _ parts.0 (elim (or_cases (makes_no_object k s) _ parts.1) [
      | inl other ↦ or_left (is_no_object s) _ (no_object_from k s other)
      | inr any ↦ or_right (is_no_object s) _ (and_parts (bytes_eq k (codes "x-kubernetes-preserve-unknown-fields")) _ any).1
    ])

root_keyword_to : (root : Bool) (s : Data) → has_no_root_keyword root s ≡ true → Named (λ k t. root && is_no_root_keyword k t) s
root_keyword_to root s h =
    let parts = and_parts root _ h in
    elim (or_cases (flag s (codes "nullable")) _ parts.1) [
      | inl nullable ↦ (codes "nullable", flag_there _ nullable, and_from root _ parts.0 (or_left (flag s (codes "nullable")) _ nullable))
      | inr other ↦
          let f = some_keyword (λ k. is_among k not_at_root) s other in
          (f.0, f.1, and_from root _ parts.0 (or_right (bytes_eq f.0 (codes "nullable") && flag s (codes "nullable")) _ f.2))
    ]

root_keyword_from : (root : Bool) (k : List ℕ) (s : Data) → has s k ≡ true → (root && is_no_root_keyword k s) ≡ true → has_no_root_keyword root s ≡ true
root_keyword_from root k s there h =
    let parts = and_parts root _ h in
    and_from root _ parts.0 (elim (or_cases (bytes_eq k (codes "nullable") && flag s (codes "nullable")) _ parts.1) [
      | inl nullable ↦ or_left (flag s (codes "nullable")) _ (and_parts (bytes_eq k (codes "nullable")) _ nullable).1
      | inr other ↦ or_right (flag s (codes "nullable")) _ (keyword_found (λ l. is_among l not_at_root) s k there other)
    ])

preserving_to : (s : Data) → is_bad_preserving s ≡ true → Named (λ k t. is_no_preserving k t && preserves t) s
preserving_to s h =
    let parts = and_parts (preserves s) _ h in
    elim (or_cases (is_no_object s) _ parts.1) [
      | inl other ↦ let f = no_object_to s other in (f.0, f.1, and_from (is_no_preserving f.0 s) _ (or_left (makes_no_object f.0 s) _ f.2) parts.0)
      | inr there ↦ (codes "additionalProperties", there, parts.0)
    ]

preserving_from : (k : List ℕ) (s : Data) → has s k ≡ true → (is_no_preserving k s && preserves s) ≡ true → is_bad_preserving s ≡ true
preserving_from k s there h =
    let parts = and_parts (is_no_preserving k s) _ h in
    and_from (preserves s) _ parts.1 (elim (or_cases (makes_no_object k s) _ parts.0) [
      | inl other ↦ or_left (is_no_object s) _ (no_object_from k s other)
      | inr same ↦ or_right (is_no_object s) _ (subst (λ l. has s l ≡ true) (same_name k (codes "additionalProperties") same) there)
    ])

-- ---- kinds

list_typed : (profile : Profile) (s : Data) (o : Option Data) → under s (codes "type") ≡ o → is_list_kind (kind_of profile s) ≡ true → is_some o ≡ true
list_typed profile s (Some d) at h = refl
list_typed profile s None at h = elim (bool_cases (is_int_or_string s)) [
  | inl single ↦ absurd (let never : false ≡ true = rw single at h in cc)
  | inr several ↦ elim (bool_cases (preserves s)) [
    | inl kept ↦ absurd (let never : false ≡ true = rw (several, at, kept) at h in cc)
    | inr closed ↦ absurd (let never : false ≡ true = rw (several, at, closed) at h in cc)
  ]
]

-- each kind has its reason
of_kind : (profile : Profile) (root : Bool) (s : Data) (k : List ℕ) (o : Option Kind) → kind_of profile s ≡ o → is_foreign o k ≡ true → (c : Reason) × (is_profile_reason profile root c k s ≡ true)
of_kind profile root s k (Some (scalar j)) is h = (NotOfScalars, rw is h)
of_kind profile root s k (Some kinds.list) is h = (NotOfLists, rw is h)
of_kind profile root s k (Some kinds.map) is h = (NotOfObjects, rw is h)
of_kind profile root s k (Some kinds.object) is h = (NotOfObjects, rw is h)
of_kind profile root s k (Some open_) is h = (NotOfOpenPlaces, rw is h)
of_kind profile root s k None is h = absurd (cc)

no_choice_there : (o : Option Kind) (s : Data) → has_no_choice o s ≡ true → has s (codes "enum") ≡ true
no_choice_there (Some (scalar k)) s h = empty_there s h
no_choice_there (Some _) s h = absurd (cc)
no_choice_there None s h = absurd (cc)

other_choice_there : (o : Option Kind) (s : Data) → has_other_choice o s ≡ true → has s (codes "enum") ≡ true
other_choice_there (Some (scalar k)) s h = listed_there _ (under s (codes "enum")) h
other_choice_there (Some _) s h = absurd (cc)
other_choice_there None s h = absurd (cc)

-- ---- each of the nine has a reason

abbrev HasProfileReason : (profile : Profile) → Bool → Data → Type 0
HasProfileReason profile root s = Found (is_profile_reason profile root) s

foreign_keyword : (profile : Profile) (root : Bool) (s : Data) → has_foreign_keyword profile s ≡ true → HasProfileReason profile root s
foreign_keyword profile root s h =
    let f = some_keyword (is_foreign (kind_of profile s)) s h in
    let c = of_kind profile root s f.0 (kind_of profile s) refl f.2 in
    (f.0, c.0, f.1, c.1)

bad_choices : (profile : Profile) (root : Bool) (s : Data) → has_bad_choices profile s ≡ true → HasProfileReason profile root s
bad_choices profile root s h = elim (or_cases (has_no_choice (kind_of profile s) s) _ h) [
  | inl empty ↦ (codes "enum", EmptyEnum, no_choice_there (kind_of profile s) s empty, empty)
  | inr other ↦ (codes "enum", EnumOfOtherKind, other_choice_there (kind_of profile s) s other, other)
]

profile_to : (profile : Profile) (root : Bool) (s : Data) → is_outside_profile profile root s ≡ true → HasProfileReason profile root s
profile_to profile root s h =
    cases (profile_tests profile root s) (HasProfileReason profile root s) h
    (λ other. let f = other_root_to root s other in (f.0, RootNotObject, f.1, f.2))
    (λ none. let f = root_keyword_to root s none in (f.0, NotAtRoot, f.1, f.2))
    (λ other. (codes "type", UnknownType, (and_parts (has s (codes "type")) _ other).0, other))
    (λ bad. let f = preserving_to s bad in (f.0, NotWithPreserving, f.1, f.2))
    (foreign_keyword profile root s)
    (λ lacks. (codes "type", NoItems, list_typed profile s _ refl (and_parts (is_list_kind (kind_of profile s)) _ lacks).0, lacks))
    (λ undeclared. (codes "required", UndeclaredField, listed_there _ (under s (codes "required")) undeclared, undeclared))
    (bad_choices profile root s)
    (λ any. (codes "additionalProperties", AdditionalPropertiesTrue, flag_there _ any, any))

-- ---- and back

profile_from : (profile : Profile) (root : Bool) (c : Reason) (k : List ℕ) (s : Data) → has s k ≡ true → is_profile_reason profile root c k s ≡ true → is_outside_profile profile root s ≡ true
profile_from profile root RootNotObject k s there h = holds_at (profile_tests profile root s) 0 (other_root_from root k s h)
profile_from profile root NotAtRoot k s there h = holds_at (profile_tests profile root s) 1 (root_keyword_from root k s there h)
profile_from profile root UnknownType k s there h = holds_at (profile_tests profile root s) 2 (and_parts (bytes_eq k (codes "type")) _ h).1
profile_from profile root NotWithPreserving k s there h = holds_at (profile_tests profile root s) 3 (preserving_from k s there h)
profile_from profile root NoItems k s there h = holds_at (profile_tests profile root s) 5 (and_parts (bytes_eq k (codes "type")) _ h).1
profile_from profile root UndeclaredField k s there h = holds_at (profile_tests profile root s) 6 (and_parts (bytes_eq k (codes "required")) _ h).1
profile_from profile root EmptyEnum k s there h = holds_at (profile_tests profile root s) 7 (or_left (has_no_choice (kind_of profile s) s) _ (and_parts (bytes_eq k (codes "enum")) _ h).1)
profile_from profile root EnumOfOtherKind k s there h = holds_at (profile_tests profile root s) 7 (or_right (has_no_choice (kind_of profile s) s) _ (and_parts (bytes_eq k (codes "enum")) _ h).1)
profile_from profile root AdditionalPropertiesTrue k s there h = holds_at (profile_tests profile root s) 8 (and_parts (bytes_eq k (codes "additionalProperties")) _ h).1
profile_from profile root c k s there h = holds_at (profile_tests profile root s) 4 (keyword_found (is_foreign (kind_of profile s)) s k there (and_parts (is_about_kind c (kind_of profile s)) _ h).1)

pub profile_reasons : (profile : Profile) (root : Bool) (s : Data) → is_outside_profile profile root s ≡ true ↔ Found (is_profile_reason profile root) s
profile_reasons profile root s = (profile_to profile root s, λ f. profile_from profile root f.1 f.0 s f.2 f.3)
