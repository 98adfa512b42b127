-- A text is cut at its first slash, or at each.
use Rattle.std.proofs.Common.{◌≡◌, ℕ, List, [], ◌∷◌, ◌<◌, length, Bool, true, false, ◌⊎◌, ◌&&◌, ◌||◌, ◌∙◌, refl, sym, eqb-true, arith, inl, inr}
use Rattle.std.specs.List.{list_all, slice_split, position_or_len, before_first, after_first}
use Rattle.std.specs.Char.{is_ascii_alphanumeric}
use Rattle.std.proofs.lemmas.List.Splits.{slice_split_none, slice_split_first}
use Rattle.std.proofs.lemmas.List.Sums.{fails_before_first}
use Rattle.jtree.specs.Internal.Lookups.{bool_cases}
use Rattle.judge.specs.Envelope.{is_slash, is_mark, is_name, is_subdomain, is_qualified, is_qualified_name}

abbrev in_name : ℕ → Bool
in_name b = is_ascii_alphanumeric b || is_mark b

-- some text has at least two parts
abbrev AreMore : List (List ℕ) → Type 0
AreMore parts = (p : List ℕ) × (q : List ℕ) × (ps : List (List ℕ)) × (parts ≡ p ∷ q ∷ ps)

parts_of : (t : List ℕ) → (slice_split is_slash t ≡ t ∷ []) ⊎ AreMore (slice_split is_slash t)
parts_of [] = inl refl
parts_of (b ∷ bs) = elim (bool_cases (is_slash b)) [
  | inl h ↦ elim (parts_of bs) [ inl e ↦ inr ([], bs, [], rw (h, e) refl) | inr r ↦ inr ([], r.0, r.1 ∷ r.2, rw (h, r.3) refl) ]
  | inr h ↦ elim (parts_of bs) [ inl e ↦ inl (rw (h, e) refl) | inr r ↦ inr (b ∷ r.0, r.1, r.2, rw (h, r.3) refl) ]
]

-- a name has no slash
no_slash : (b : ℕ) → in_name b ≡ true → is_slash b ≡ false
no_slash b e = elim (bool_cases (is_slash b)) [ inl h ↦ let same = eqb-true b 47 h in let x = rw same at e in cc | inr h ↦ h ]

one_part : (t : List ℕ) → list_all in_name t ≡ true → slice_split is_slash t ≡ t ∷ []
one_part [] e = refl
one_part (b ∷ bs) e = elim (bool_cases (in_name b)) [
  | inl h ↦ let later = one_part bs (rw h at e) in let other = no_slash b h in rw (other, later) refl
  | inr h ↦ let x = rw h at e in cc
]

and_false : (a : Bool) → a && false ≡ false
and_false true = refl
and_false false = refl

no_name : (t : List ℕ) → AreMore (slice_split is_slash t) → is_name t ≡ false
no_name t more = elim (bool_cases (list_all in_name t)) [
  | inl h ↦ let x : (t ∷ []) ≡ more.0 ∷ more.1 ∷ more.2 = sym (one_part t h) ∙ more.3 in cc
  | inr h ↦ rw (h, and_false, and_false, and_false) refl
]

-- what stands after the first slash is a name, or there are more slashes
after_slash : (letter : ℕ → Bool) (prefix after : List ℕ) → is_qualified letter (prefix ∷ slice_split is_slash after) ≡ is_subdomain letter prefix && is_name after
after_slash letter prefix after = elim (parts_of after) [
  | inl e ↦ rw e refl
  | inr r ↦ let none = no_name after r in rw (r.3, none, and_false) refl
]

pub qualified_once : (letter : ℕ → Bool) (t : List ℕ) → position_or_len is_slash t < length t
    → is_qualified_name letter t ≡ is_subdomain letter (before_first is_slash t) && is_name (after_first is_slash t)
qualified_once letter t l = rw (slice_split_first is_slash t 0 l) (after_slash letter (before_first is_slash t) (after_first is_slash t))

pub qualified_alone : (letter : ℕ → Bool) (t : List ℕ) → position_or_len is_slash t ≡ length t → is_qualified_name letter t ≡ is_name t
qualified_alone letter t e = rw (slice_split_none is_slash t (λ k d l. fails_before_first is_slash t k d (omega (arith, l, e)))) refl
