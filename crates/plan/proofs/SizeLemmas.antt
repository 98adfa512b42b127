-- Sets that hold the numbers up to a limit.
use Rattle.std.specs.Prelude.{◌≡◌, ℕ, ◌+◌, ◌≤◌, ◌<◌, ◌↔◌, ◌⊎◌, Bool, true, List}
use Rattle.std.proofs.Common.{[], ◌∷◌, ◌++◌, length, get_or, inl, inr, arith}
use Rattle.std.proofs.lemmas.Bool.{cases_lt}
use Rattle.std.proofs.lemmas.List.{get_or_append_left, get_or_push, length_push}
use Rattle.plan.specs.Sets.{IsSum}
use Rattle.plan.specs.Samples.Sizes.{IsUpTo}

-- the sums of two sets that are known up to the limit
pub sum_up_to : (limit : ℕ) (A B P Q : ℕ → Type 0) → IsUpTo limit A P → IsUpTo limit B Q → (S : ℕ → Type 0) → ((n : ℕ) → S n ↔ ((n ≤ limit) × IsSum A B n)) → IsUpTo limit S (IsSum P Q)
sum_up_to limit A B P Q a b S s n = (
  (λ h.
      let t = (s n).0 h in
      let x = t.1 in
      (t.0, (x.0, (x.1.0, (((a x.0).0 x.1.1.0).1, ((b x.1.0).0 x.1.1.1).1, x.1.1.2))))),
  λ h.
      let x = h.1 in
      let e : x.0 + x.1.0 ≡ n = x.1.1.2 in
      let l : n ≤ limit = h.0 in
      (s n).1 (h.0, (x.0, (x.1.0, ((a x.0).1 (omega arith, x.1.1.0), (b x.1.0).1 (omega arith, x.1.1.1), x.1.1.2)))),
)

-- what holds of each place of a list and of one element more
pub each_push : {X : Type 0} (P : ℕ → X → Type 0) (xs : List X) (x : X) → ((k : ℕ) (d : X) → k < length xs → P k (get_or xs k d)) → P (length xs) x → (k : ℕ) (d : X) → k < length (xs ++ x ∷ []) → P k (get_or (xs ++ x ∷ []) k d)
each_push P xs x h here k d l =
    elim (cases_lt k (length xs)) as (λ _. P k (get_or (xs ++ x ∷ []) k d)) [
      | inl b ↦ rw (get_or_append_left xs (x ∷ []) d k b) (h k d b)
      | inr g ↦
          let e : length xs ≡ k = omega (arith, length_push xs x, l, g) in
          rw (get_or_push xs x d k e, ← e) here
    ]

-- a set with 1, beside the sums of 1 and the members of another
pub with_one : (limit : ℕ) (b : Bool) (O I S U : ℕ → Type 0) → b ≡ true → ((n : ℕ) → O n ↔ (n ≡ 1)) → ((n : ℕ) → S n ↔ ((n ≤ limit) × IsSum O I n)) → ((n : ℕ) → U n ↔ (S n ⊎ O n))
    → (n : ℕ) → U n ↔ (((b ≡ true) × (n ≡ 1)) ⊎ ((n ≤ limit) × IsSum (λ i. i ≡ 1) I n))
with_one limit b O I S U is one sums union n = (
  (λ u. elim ((union n).0 u) as (λ _. ((b ≡ true) × (n ≡ 1)) ⊎ ((n ≤ limit) × IsSum (λ i. i ≡ 1) I n)) [
    | inl s ↦ let x = (sums n).0 s in inr (x.0, (x.1.0, (x.1.1.0, ((one x.1.0).0 x.1.1.1.0, x.1.1.1.1, x.1.1.1.2))))
    | inr o ↦ inl (is, (one n).0 o)
  ]),
  λ w. (union n).1 (elim w as (λ _. S n ⊎ O n) [
    | inl e ↦ inr ((one n).1 e.1)
    | inr x ↦ inl ((sums n).1 (x.0, (x.1.0, (x.1.1.0, ((one x.1.0).1 x.1.1.1.0, x.1.1.1.1, x.1.1.1.2)))))
  ]),
)
