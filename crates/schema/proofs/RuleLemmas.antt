-- What a subschema shows of the rules at its place.
use Rattle.std.proofs.Common.{◌≡◌, ℕ, List, [], ◌∷◌, ◌++◌, Bool, true, false, Some, refl, sym, ap, ◌∙◌, subst, inl, inr, zero, suc, ◌-◌, ◌<◌, ◌≤◌, length, get_or, arith}
use Rattle.std.specs.Prelude.{◌↔◌, not, IsTrue, codes}
use Rattle.std.proofs.lemmas.Option.{same_Some}
use Rattle.jtree.specs.View.{items_of}
use Rattle.jtree.specs.declared.value.Tree.{Tree}
use Rattle.jtree.specs.Data.{Data}
use Rattle.schema.specs.Document.Texts.{is_among}
use Rattle.schema.specs.Document.Places.{Step, Place, property, is_inside, ends_with, schema_at}
use Rattle.schema.specs.Internal.PlaceView.{step_of, place_of}
use Rattle.schema.specs.declared.places.Step.{Step as CodeStep}
use Rattle.schema.specs.Rules.Keywords.{is_empty}
use Rattle.schema.specs.Rules.Broken.{At, metadata_names, metadata, Passes, PassesOutside, RestrictsMetadata, metadata_keyword, metadata_type, metadata_field}
use Rattle.schema.specs.Internal.RuleParts.{IsOtherName, IsOtherField, Restricts}

-- ---- what is left of members, items and texts

pub some_trees : (xs : List Tree) → 1 ≤ length xs → false ≡ is_empty (items_of xs)
some_trees [] some = absurd (omega arith)
some_trees (x ∷ xs) some = refl

-- ---- the steps of a place

ends_at : (test : Step → Bool) (xs : List CodeStep) (k : ℕ) (d : CodeStep) → suc k ≡ length xs → ends_with test (place_of xs) ≡ test (step_of (get_or xs k d))
ends_at test [] k d h = absurd (omega arith)
ends_at test (x ∷ []) zero d h = refl
ends_at test (x ∷ []) (suc k) d h = absurd (omega arith)
ends_at test (x ∷ y ∷ xs) zero d h = absurd (omega arith)
ends_at test (x ∷ y ∷ xs) (suc k) d h = ends_at test (y ∷ xs) k d (omega arith)

pub last_step : (test : Step → Bool) (xs : List CodeStep) (d : CodeStep) → 0 < length xs → test (step_of (get_or xs (length xs - 1) d)) ≡ ends_with test (place_of xs)
last_step test xs d some = let last : suc (length xs - 1) ≡ length xs = omega arith in sym (ends_at test xs (length xs - 1) d last)

pub other_name : (k : List ℕ) (b : Bool) → b ≡ is_among k metadata_names → IsTrue (not b) ↔ IsOtherName (property k)
other_name k true is = (
  λ no. absurd (cc),
  λ o.
      let same : k ≡ o.0 = let e = o.1 in cc in
      let among : is_among o.0 metadata_names ≡ true = subst (λ l. is_among l metadata_names ≡ true) same (sym is) in
      let other = o.2 in
      absurd (cc),
)
other_name k false is = (λ e. (k, refl, sym is), λ o. refl)

-- ---- the places of `metadata`

pub two_steps : (xs : List CodeStep) (d e : CodeStep) (b : Bool) → 2 ≤ length xs → length xs < 3 → IsTrue true ↔ (step_of (get_or xs 0 d) ≡ property (codes "metadata"))
    → IsTrue b ↔ IsOtherName (step_of (get_or xs 1 e)) → IsTrue b ↔ IsOtherField (place_of xs)
two_steps [] d e b least most first second = absurd (omega arith)
two_steps (x ∷ []) d e b least most first second = absurd (omega arith)
two_steps (x ∷ y ∷ []) d e b least most first second = (
  λ t. (step_of y, ap (λ s. s ∷ step_of y ∷ []) (first.0 refl), second.0 t),
  λ h. let same : h.0 ≡ step_of y = let is = h.1 in cc in second.1 (subst IsOtherName same h.2),
)
two_steps (x ∷ y ∷ z ∷ xs) d e b least most first second = absurd (omega arith)

restricts_to : (raw : Data) (p : Place) (s : Data) → schema_at raw p ≡ Some s → Restricts p s → RestrictsMetadata raw p
restricts_to raw p s is (inl (here, inl h)) = subst (RestrictsMetadata raw) (sym here) (metadata_keyword raw (s, subst (λ q. schema_at raw q ≡ Some s) here is, h))
restricts_to raw p s is (inl (here, inr h)) = subst (RestrictsMetadata raw) (sym here) (metadata_type raw (s, subst (λ q. schema_at raw q ≡ Some s) here is, h))
restricts_to raw p s is (inr (step, here, other)) =
    let at : p ≡ metadata ++ (property other.0 ∷ []) = here ∙ ap (λ t. metadata ++ (t ∷ [])) other.1 in
    subst (RestrictsMetadata raw) (sym at) (metadata_field raw other.0 (s, subst (λ q. schema_at raw q ≡ Some s) at is) other.2)

passes_here : (raw : Data) (p : Place) (s : Data) (test : Data → Bool) → schema_at raw p ≡ Some s → Passes raw p test → test s ≡ true
passes_here raw p s test is at = subst (λ t. test t ≡ true) (same_Some at.0 s (sym at.1 ∙ is)) at.2

restricts_from : (raw : Data) (p : Place) (s : Data) → schema_at raw p ≡ Some s → RestrictsMetadata raw p → Restricts p s
restricts_from raw p s is (metadata_keyword r at) = inl (refl, inl (passes_here r p s _ is at))
restricts_from raw p s is (metadata_type r at) = inl (refl, inr (passes_here r p s _ is at))
restricts_from raw p s is (metadata_field r k at n) = inr (property k, refl, (k, refl, n))

pub restricts : (raw : Data) (p : Place) (s : Data) (b : Bool) → schema_at raw p ≡ Some s → IsTrue b ↔ Restricts p s → IsTrue b ↔ RestrictsMetadata raw p
restricts raw p s b is h = (λ t. restricts_to raw p s is (h.0 t), λ r. h.1 (restricts_from raw p s is r))

-- ---- a test that the schema at a place passes

pub passes : (raw : Data) (p : Place) (s : Data) (test : Data → Bool) (b : Bool) → schema_at raw p ≡ Some s → b ≡ test s → IsTrue b ↔ Passes raw p test
passes raw p s test b is reported = (λ t. (s, is, sym reported ∙ t), λ at. reported ∙ passes_here raw p s test is at)

pub passes_there : (raw : Data) (p : Place) (s : Data) (test : Data → Bool) (b : Bool) → schema_at raw p ≡ Some s → is_inside p ≡ false → b ≡ test s
    → IsTrue b ↔ PassesOutside raw p test
passes_there raw p s test b is out reported = (λ t. (out, (passes raw p s test b is reported).0 t), λ at. (passes raw p s test b is reported).1 at.1)

-- what holds of the schema at a place
pub at_there : (raw : Data) (p : Place) (s : Data) (Holds : Data → Type 0) (b : Bool) → schema_at raw p ≡ Some s → IsTrue b ↔ Holds s → IsTrue b ↔ At raw p Holds
at_there raw p s Holds b is h = (λ t. (s, is, h.0 t), λ at. h.1 (subst Holds (same_Some at.0 s (sym at.1 ∙ is)) at.2))
