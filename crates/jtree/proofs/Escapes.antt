-- A character that a pointer writes as it is.
use Rattle.std.proofs.Common.{◌≡◌, ◌≢◌, ℕ, suc, ◌<◌, ◌≤◌, List, [], ◌∷◌, ◌++◌, length, get_or, flat_map, inl, inr, refl, sym, ap, ap₂, arith, append-nil}
use Rattle.std.proofs.lemmas.Bool.{cases_lt}
use Rattle.std.proofs.lemmas.Str.{encode_ascii, inside_one}
use Rattle.std.specs.Char.{encode_utf8}
use Rattle.jtree.specs.Pointer.{escaped}

escaped_same : (b : ℕ) → b ≢ 126 → b ≢ 47 → escaped b ≡ b ∷ []
escaped_same b p q = grind (arith, p, q)

all_same : (bs : List ℕ) → ((k : ℕ) → k < length bs → 128 ≤ get_or bs k 0) → flat_map escaped bs ≡ bs
all_same [] h = refl
all_same (b ∷ bs) h =
    let high : 128 ≤ b = h 0 (omega arith) in
    ap₂ (λ (x y : List ℕ). x ++ y) (escaped_same b (λ e. omega arith) (λ e. omega arith)) (all_same bs (λ k below. h (suc k) (omega arith)))

pub escaped_other : (c : ℕ) → c ≢ 126 → c ≢ 47 → flat_map escaped (encode_utf8 c) ≡ encode_utf8 c
escaped_other c p q = elim (cases_lt c 128) [
  | inl small ↦ rw (encode_ascii c small) (ap (λ xs. xs ++ []) (escaped_same c p q))
  | inr big ↦ all_same (encode_utf8 c) (λ k below. elim (cases_lt (get_or (encode_utf8 c) k 0) 128) [
    | inl low ↦ absurd (omega (arith, inside_one c [] (encode_utf8 c) k (sym (append-nil _)) below low))
    | inr h ↦ h
  ])
]
