-- The letters of names, as a path writes them, and that a step is read back from its text.
use Rattle.std.proofs.Common.{◌≡◌, ◌≢◌, ◌⊎◌, ◌==◌, ◌<◌, ◌≤◌, ℕ, suc, List, [], ◌∷◌, ◌++◌, false, if◌then◌else◌, flat_map, length, get_or, refl, sym, ap, ap₂, ◌∙◌, inl, inr, arith, append_assoc, append-nil}
use Rattle.std.proofs.lemmas.Bool.{cases_lt, eqb-true, eqb-false}
use Rattle.std.proofs.lemmas.Str.{encode_ascii, inside_one}
use Rattle.std.specs.Char.{encode_utf8}
use Rattle.jtree.specs.Internal.Lookups.{bool_cases}
use Rattle.explain.specs.Paths.FieldPath.{FieldStep, field, item, value, FieldPath}
use Rattle.explain.specs.Paths.PathText.{escaped, step_text, path_text}
use Rattle.explain.specs.Internal.Reading.{IsEnd}
use Rattle.explain.proofs.ListLemmas.{heads, tails}

-- a byte that is written as it is
pub record IsPlain (b : ℕ) : Type 0 where
  pub tilde : (b == 126) ≡ false
  pub slash : (b == 47) ≡ false
  pub bracket : (b == 91) ≡ false
  pub brace : (b == 123) ≡ false

pub letter_cases : (b : ℕ) → (b ≡ 126) ⊎ ((b ≡ 47) ⊎ ((b ≡ 91) ⊎ ((b ≡ 123) ⊎ IsPlain b)))
letter_cases b = elim (bool_cases (b == 126)) [
  | inl e ↦ inl (eqb-true b 126 e)
  | inr tilde ↦ elim (bool_cases (b == 47)) [
    | inl e ↦ inr (inl (eqb-true b 47 e))
    | inr slash ↦ elim (bool_cases (b == 91)) [
      | inl e ↦ inr (inr (inl (eqb-true b 91 e)))
      | inr bracket ↦ elim (bool_cases (b == 123)) [
        | inl e ↦ inr (inr (inr (inl (eqb-true b 123 e))))
        | inr brace ↦ inr (inr (inr (inr (record { tilde = tilde; slash = slash; bracket = bracket; brace = brace }))))
      ]
    ]
  ]
]

pub escaped_plain : (b : ℕ) → IsPlain b → escaped b ≡ b ∷ []
escaped_plain b p = rw (p.tilde, p.slash, p.bracket, p.brace) refl

-- ---- the first letter of a text

abbrev unescaped : ℕ → ℕ
unescaped c = if c == 48 then 126 else (if c == 49 then 47 else (if c == 50 then 91 else 123))

abbrev after_tilde : List ℕ → ℕ × List ℕ
after_tilde [] = (0, [])
after_tilde (c ∷ t) = (unescaped c, t)

abbrev first_letter : List ℕ → ℕ × List ℕ
first_letter [] = (0, [])
first_letter (b ∷ t) = if b == 126 then after_tilde t else (b, t)

read_letter : (b : ℕ) (t : List ℕ) → first_letter (escaped b ++ t) ≡ (b, t)
read_letter b t = elim (letter_cases b) [
  | inl e ↦ rw e refl
  | inr (inl e) ↦ rw e refl
  | inr (inr (inl e)) ↦ rw e refl
  | inr (inr (inr (inl e))) ↦ rw e refl
  | inr (inr (inr (inr p))) ↦ rw (escaped_plain b p, p.tilde) refl
]

-- it begins neither a step nor with a bracket
pub record IsInner (text : List ℕ) : Type 0 where
  pub byte : ℕ
  pub more : List ℕ
  pub is : text ≡ byte ∷ more
  pub slash : (byte == 47) ≡ false
  pub bracket : (byte == 91) ≡ false
  pub brace : (byte == 123) ≡ false

pub begins : (b : ℕ) (t : List ℕ) → IsInner (escaped b ++ t)
begins b t = elim (letter_cases b) [
  | inl e ↦ record { byte = 126; more = 48 ∷ t; is = rw e refl; slash = refl; bracket = refl; brace = refl }
  | inr (inl e) ↦ record { byte = 126; more = 49 ∷ t; is = rw e refl; slash = refl; bracket = refl; brace = refl }
  | inr (inr (inl e)) ↦ record { byte = 126; more = 50 ∷ t; is = rw e refl; slash = refl; bracket = refl; brace = refl }
  | inr (inr (inr (inl e))) ↦ record { byte = 126; more = 51 ∷ t; is = rw e refl; slash = refl; bracket = refl; brace = refl }
  | inr (inr (inr (inr p))) ↦ record { byte = b; more = t; is = rw (escaped_plain b p) refl; slash = p.slash; bracket = p.bracket; brace = p.brace }
]

-- ---- names and steps

no_end : (t : List ℕ) → IsInner t → IsEnd t → ⊥
no_end [] i e = let x = i.is in cc
no_end (b ∷ t) i e = let same : i.byte ≡ b = let x = i.is in cc in eqb-false i.byte 47 i.slash (same ∙ e)

same_names : (k l a b : List ℕ) → IsEnd a → IsEnd b → flat_map escaped k ++ a ≡ flat_map escaped l ++ b → (k ≡ l) × (a ≡ b)
same_names [] [] a b ea eb e = (refl, e)
same_names [] (d ∷ l) a b ea eb e = absurd (no_end _ (begins d (flat_map escaped l ++ b)) (rw (e, append_assoc) at ea))
same_names (c ∷ k) [] a b ea eb e = absurd (no_end _ (begins c (flat_map escaped k ++ a)) (rw (← e, append_assoc) at eb))
same_names (c ∷ k) (d ∷ l) a b ea eb e =
    let x = flat_map escaped k ++ a in
    let y = flat_map escaped l ++ b in
    let joined : escaped c ++ x ≡ escaped d ++ y = sym (append_assoc (escaped c) (flat_map escaped k) a) ∙ (e ∙ append_assoc (escaped d) (flat_map escaped l) b) in
    let read = sym (read_letter c x) ∙ (ap first_letter joined ∙ read_letter d y) in
    let letter : c ≡ d = ap (λ z. z.0) read in
    let more = same_names k l a b ea eb (ap (λ z. z.1) read) in
    (λ i. letter i ∷ more.0 i, more.1)

-- what follows a name begins with no bracket, and neither does the name
no_bracket : (k a : List ℕ) (c : ℕ) (t : List ℕ) → IsEnd a → (c ≡ 91) ⊎ (c ≡ 123) → flat_map escaped k ++ a ≡ c ∷ t → ⊥
no_bracket [] a c t ea is e =
    let slash : c ≡ 47 = rw e at ea in
    elim is [ inl f ↦ omega arith | inr f ↦ omega arith ]
no_bracket (b ∷ k) a c t ea is e =
    let i = begins b (flat_map escaped k ++ a) in
    let same : i.byte ∷ i.more ≡ c ∷ t = sym i.is ∙ (sym (append_assoc (escaped b) (flat_map escaped k) a) ∙ e) in
    let byte : i.byte ≡ c = cc in
    elim is [ inl f ↦ eqb-false i.byte 91 i.bracket (byte ∙ f) | inr f ↦ eqb-false i.byte 123 i.brace (byte ∙ f) ]

apart : (b c : ℕ) → b ≡ 91 → c ≡ 123 → b ≡ c → ⊥
apart b c e f g = omega arith

pub item_step : (s : FieldStep) (a b : List ℕ) → IsEnd a → step_text s ++ a ≡ step_text item ++ b → (s ≡ item) × (a ≡ b)
item_step (field k) a b ea e = absurd (no_bracket k a 91 (93 ∷ b) ea (inl refl) (tails e))
item_step item a b ea e = (refl, cc)
item_step value a b ea e = absurd (apart 91 123 refl refl (heads (tails (sym e))))

pub value_step : (s : FieldStep) (a b : List ℕ) → IsEnd a → step_text s ++ a ≡ step_text value ++ b → (s ≡ value) × (a ≡ b)
value_step (field k) a b ea e = absurd (no_bracket k a 123 (125 ∷ b) ea (inr refl) (tails e))
value_step item a b ea e = absurd (apart 91 123 refl refl (heads (tails e)))
value_step value a b ea e = (refl, cc)

pub same_step : (s t : FieldStep) (a b : List ℕ) → IsEnd a → IsEnd b → step_text s ++ a ≡ step_text t ++ b → (s ≡ t) × (a ≡ b)
same_step (field k) (field l) a b ea eb e = let r = same_names k l a b ea eb (tails e) in (ap field r.0, r.1)
same_step item (field l) a b ea eb e = absurd (no_bracket l b 91 (93 ∷ a) eb (inl refl) (tails (sym e)))
same_step value (field l) a b ea eb e = absurd (no_bracket l b 123 (125 ∷ a) eb (inr refl) (tails (sym e)))
same_step s item a b ea eb e = item_step s a b ea e
same_step s value a b ea eb e = value_step s a b ea e

pub path_end : (p : FieldPath) → IsEnd (path_text p)
path_end [] = tt
path_end (field k ∷ p) = refl
path_end (item ∷ p) = refl
path_end (value ∷ p) = refl

pub no_step : (s : FieldStep) (t : List ℕ) → step_text s ++ t ≡ [] → ⊥
no_step (field k) t e = cc
no_step item t e = cc
no_step value t e = cc

pub one_path : (p q : FieldPath) → path_text p ≡ path_text q → p ≡ q
one_path [] [] e = refl
one_path [] (s ∷ q) e = absurd (no_step s (path_text q) (sym e))
one_path (s ∷ p) [] e = absurd (no_step s (path_text p) e)
one_path (s ∷ p) (t ∷ q) e =
    let r = same_step s t (path_text p) (path_text q) (path_end p) (path_end q) e in
    let rest = one_path p q r.1 in
    λ i. r.0 i ∷ rest i

-- ---- characters that are written as they are

all_plain : (bs : List ℕ) → ((k : ℕ) → k < length bs → IsPlain (get_or bs k 0)) → flat_map escaped bs ≡ bs
all_plain [] h = refl
all_plain (b ∷ bs) h = ap₂ (λ (x y : List ℕ). x ++ y) (escaped_plain b (h 0 (omega arith))) (all_plain bs (λ k below. h (suc k) (omega arith)))

plain : (b : ℕ) → b ≢ 126 → b ≢ 47 → b ≢ 91 → b ≢ 123 → IsPlain b
plain b tilde slash bracket brace = elim (letter_cases b) [
  | inl e ↦ absurd (tilde e)
  | inr (inl e) ↦ absurd (slash e)
  | inr (inr (inl e)) ↦ absurd (bracket e)
  | inr (inr (inr (inl e))) ↦ absurd (brace e)
  | inr (inr (inr (inr p))) ↦ p
]

plain_high : (b : ℕ) → 128 ≤ b → IsPlain b
plain_high b high = plain b (λ e. omega arith) (λ e. omega arith) (λ e. omega arith) (λ e. omega arith)

pub escaped_other : (c : ℕ) → c ≢ 126 → c ≢ 47 → c ≢ 91 → c ≢ 123 → flat_map escaped (encode_utf8 c) ≡ encode_utf8 c
escaped_other c tilde slash bracket brace = elim (cases_lt c 128) [
  | inl small ↦ rw (encode_ascii c small) (ap (λ xs. xs ++ []) (escaped_plain c (plain c tilde slash bracket brace)))
  | inr big ↦ all_plain (encode_utf8 c) (λ k below. elim (cases_lt (get_or (encode_utf8 c) k 0) 128) [
    | inl low ↦ absurd (omega (arith, inside_one c [] (encode_utf8 c) k (sym (append-nil _)) below low))
    | inr high ↦ plain_high (get_or (encode_utf8 c) k 0) high
  ])
]
