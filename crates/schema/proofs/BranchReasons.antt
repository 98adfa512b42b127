-- The rule on junctors is broken exactly where one of its reasons holds.
use Rattle.std.proofs.Common.{◌≡◌, ◌⊎◌, ◌<◌, ℕ, List, [], ◌∷◌, length, true, Option, Some, None, refl, inl, inr, arith}
use Rattle.std.specs.Prelude.{◌↔◌, not, codes, option_and_then, All}
use Rattle.std.specs.Option.{is_some}
use Rattle.std.specs.Str.{bytes_eq}
use Rattle.std.proofs.lemmas.Bool.{or_cases, or_left, or_right, and_parts, and_from}
use Rattle.std.proofs.lemmas.Option.{option_and_then_some}
use Rattle.jtree.specs.Data.{Data}
use Rattle.jtree.specs.Path.{under}
use Rattle.schema.specs.Document.Texts.{is_among}
use Rattle.schema.specs.Document.Places.{Step, Place, property, map_value, items, all_of, any_of, one_of, negation, schema_by, schema_at, only_object, is_inside, core}
use Rattle.schema.specs.Rules.Keywords.{has, has_keyword}
use Rattle.schema.specs.Rules.Profile.{junctor_keywords, has_empty_enum}
use Rattle.schema.specs.Rules.Junctors.{asks_presence, asks_value, is_branch_keyword, is_presence_keyword, takes_no_junctor, HasTooManyNames, NamesField, NamesTooMany, BreaksJunctors}
use Rattle.schema.specs.Rules.Reasons.{is_junctor_reason, is_names_reason}
use Rattle.schema.specs.declared.reason.Reason.{Reason}
use Rattle.schema.specs.declared.reason.Reason.TheVariants.{MisplacedJunctor, NotInScalarBranches, NotInPresenceBranches, TooManyNames, EmptyEnum, EnumNotScalars, UndeclaredField}
use Rattle.schema.proofs.ReasonWords.{listed_there, empty_there, some_keyword, keyword_found}
use Rattle.schema.specs.declared.profile.Profile.{Profile}

-- ---- where fields are named there is a junctor

abbrev HasJunctor : Data → Type 0
HasJunctor s = (k : List ℕ) × (has s k ≡ true) × (is_among k junctor_keywords ≡ true)

under_there : (o : Option Data) (P : Data → Option Data) (t : Data) → option_and_then only_object (option_and_then P o) ≡ Some t → is_some o ≡ true
under_there (Some d) P t h = refl
under_there None P t h = cc

step_there : (s t : Data) (step : Step) (p : Place) → core (step ∷ p) ≡ [] → schema_by s step ≡ Some t → HasJunctor s
step_there s t (all_of i) p alone by = (codes "allOf", under_there (under s (codes "allOf")) _ t by, refl)
step_there s t (any_of i) p alone by = (codes "anyOf", under_there (under s (codes "anyOf")) _ t by, refl)
step_there s t (one_of i) p alone by = (codes "oneOf", under_there (under s (codes "oneOf")) _ t by, refl)
step_there s t negation p alone by = (codes "not", under_there (under s (codes "not")) _ t by, refl)
step_there s t (property k) p alone by = absurd (cc)
step_there s t map_value p alone by = absurd (cc)
step_there s t items p alone by = absurd (cc)

place_there : (s t : Data) (p : Place) → is_inside p ≡ true → core p ≡ [] → schema_at s p ≡ Some t → HasJunctor s
place_there s t [] inside alone at = absurd (cc)
place_there s t (step ∷ p) inside alone at = option_and_then_some (λ u. schema_at u p) (schema_by s step) t at (λ u by rest. step_there s u step p alone by)

names_there : (s : Data) (names : List (List ℕ)) → All (NamesField s) names → 0 < length names → HasJunctor s
names_there s [] each some = absurd (omega arith)
names_there s (k ∷ names) each some = let (p, inside, alone, t, at, required) = each 0 k some in place_there s t p inside alone at

junctor_there : (s : Data) → NamesTooMany s → HasJunctor s
junctor_there s (names, apart, each, many) = names_there s names each (omega (arith, many))

-- ---- the four conditions

-- a reason is found, with a keyword that is there
abbrev HasJunctorReason : (profile : Profile) → Place → Option Data → Data → Type 0
HasJunctorReason profile p o s =
    (k : List ℕ) × (c : Reason) × (has s k ≡ true) × ((is_junctor_reason profile p o c k s ≡ true) ⊎ ((is_names_reason c k ≡ true) × HasTooManyNames profile p s))

junctor_to : (profile : Profile) (p : Place) (o : Option Data) (s : Data) → BreaksJunctors profile p o s → HasJunctorReason profile p o s
junctor_to profile p o s (inl h) =
    let parts = and_parts (takes_no_junctor profile p s) _ h in
    let f = some_keyword (λ k. is_among k junctor_keywords) s parts.1 in
    (f.0, MisplacedJunctor, f.1, inl (and_from (is_among f.0 junctor_keywords) _ f.2 parts.0))
junctor_to profile p o s (inr (inl many)) = let f = junctor_there s many.2 in (f.0, TooManyNames, f.1, inr (f.2, many))
junctor_to profile p o s (inr (inr (inl h))) =
    let parts = and_parts (asks_presence profile p o) _ h in
    elim (or_cases (has_keyword (λ k. not (is_presence_keyword k)) s) _ parts.1) [
      | inl other ↦ let f = some_keyword (λ k. not (is_presence_keyword k)) s other in (f.0, NotInPresenceBranches, f.1, inl (and_from (not (is_presence_keyword f.0)) _ f.2 parts.0))
      | inr undeclared ↦ (codes "required", UndeclaredField, listed_there _ (under s (codes "required")) undeclared, inl (and_from (asks_presence profile p o) _ parts.0 undeclared))
    ]
junctor_to profile p o s (inr (inr (inr h))) =
    let parts = and_parts (asks_value profile p o) _ h in
    elim (or_cases (has_keyword (λ k. not (is_branch_keyword k)) s) _ parts.1) [
      | inl other ↦ let f = some_keyword (λ k. not (is_branch_keyword k)) s other in (f.0, NotInScalarBranches, f.1, inl (and_from (not (is_branch_keyword f.0)) _ f.2 parts.0))
      | inr bad ↦ elim (or_cases (has_empty_enum s) _ bad) [
        | inl empty ↦ (codes "enum", EmptyEnum, empty_there s empty, inl (and_from (asks_value profile p o) _ parts.0 empty))
        | inr other ↦ (codes "enum", EnumNotScalars, listed_there _ (under s (codes "enum")) other, inl (and_from (asks_value profile p o) _ parts.0 other))
      ]
    ]

junctor_from : (profile : Profile) (p : Place) (o : Option Data) (c : Reason) (k : List ℕ) (s : Data) → has s k ≡ true → is_junctor_reason profile p o c k s ≡ true → BreaksJunctors profile p o s
junctor_from profile p o MisplacedJunctor k s there h =
    let parts = and_parts (is_among k junctor_keywords) _ h in
    inl (and_from (takes_no_junctor profile p s) _ parts.1 (keyword_found (λ l. is_among l junctor_keywords) s k there parts.0))
junctor_from profile p o NotInPresenceBranches k s there h =
    let parts = and_parts (not (is_presence_keyword k)) _ h in
    inr (inr (inl (and_from (asks_presence profile p o) _ parts.1 (or_left _ _ (keyword_found (λ l. not (is_presence_keyword l)) s k there parts.0)))))
junctor_from profile p o UndeclaredField k s there h =
    let parts = and_parts (asks_presence profile p o) _ (and_parts (bytes_eq k (codes "required")) _ h).1 in
    inr (inr (inl (and_from (asks_presence profile p o) _ parts.0 (or_right (has_keyword (λ l. not (is_presence_keyword l)) s) _ parts.1))))
junctor_from profile p o NotInScalarBranches k s there h =
    let parts = and_parts (not (is_branch_keyword k)) _ h in
    inr (inr (inr (and_from (asks_value profile p o) _ parts.1 (or_left _ _ (keyword_found (λ l. not (is_branch_keyword l)) s k there parts.0)))))
junctor_from profile p o EmptyEnum k s there h =
    let parts = and_parts (asks_value profile p o) _ (and_parts (bytes_eq k (codes "enum")) _ h).1 in
    inr (inr (inr (and_from (asks_value profile p o) _ parts.0 (or_right (has_keyword (λ l. not (is_branch_keyword l)) s) _ (or_left _ _ parts.1)))))
junctor_from profile p o EnumNotScalars k s there h =
    let parts = and_parts (asks_value profile p o) _ (and_parts (bytes_eq k (codes "enum")) _ h).1 in
    inr (inr (inr (and_from (asks_value profile p o) _ parts.0 (or_right (has_keyword (λ l. not (is_branch_keyword l)) s) _ (or_right (has_empty_enum s) _ parts.1)))))
junctor_from profile p o _ k s there h = absurd (cc)

pub junctor_reasons : (profile : Profile) (p : Place) (o : Option Data) (s : Data) → BreaksJunctors profile p o s ↔ HasJunctorReason profile p o s
junctor_reasons profile p o s = (
  junctor_to profile p o s,
  λ f. elim f.3 [
    | inl is ↦ junctor_from profile p o f.1 f.0 s f.2 is
    | inr names ↦ inr (inl names.1)
  ],
)
