-- A list in ascending order has the elements that it had, each once, and is the only such list.
use Rattle.std.proofs.Common.{◌≡◌, ◌⊎◌, List, [], ◌∷◌, refl, sym, ◌∙◌, inl, inr}
use Rattle.std.specs.Cmp.{IsTotalOrder}
use Rattle.std.specs.declared.cmp.Ordering.{Ordering}
use Rattle.std.specs.declared.cmp.Ordering.TheVariants.{Less, Equal, Greater}
use Rattle.std.proofs.lemmas.Cmp.{tied_itself}
use Rattle.jtree.specs.Internal.Lookups.{ordering_cases}
use Rattle.jtree.specs.Internal.Rising.{Among, Rising}
use Rattle.suggest.specs.Suggested.Ascending.{with_element, ascending}

-- equal in the order are the same
abbrev pub IsExact : {X : Type 0} → (X → X → Ordering) → Type 0
IsExact {X} cmp = (x y : X) → cmp x y ≡ Equal → x ≡ y

abbrev pub IsAscending : {X : Type 0} → (X → X → Ordering) → List X → Type 0
IsAscending cmp xs = Rising (λ x y. cmp x y ≡ Less) xs

-- ---- one element more

with_new : {X : Type 0} (cmp : X → X → Ordering) → IsExact cmp → (x : X) (ys : List X) → Among (with_element cmp x ys) x
with_new cmp exact x [] = inl refl
with_new cmp exact x (y ∷ ys) = elim (ordering_cases (cmp x y)) [
  | inl less ↦ rw less (inl refl)
  | inr (inl same) ↦ rw same (inl (sym (exact x y same)))
  | inr (inr past) ↦ rw past (inr (with_new cmp exact x ys))
]

with_old : {X : Type 0} (cmp : X → X → Ordering) (x : X) (ys : List X) (v : X) → Among ys v → Among (with_element cmp x ys) v
with_old cmp x [] v a = absurd a
with_old cmp x (y ∷ ys) v a = elim (ordering_cases (cmp x y)) [
  | inl less ↦ rw less (inr a)
  | inr (inl same) ↦ rw same a
  | inr (inr past) ↦ rw past (elim a as (λ _. (y ≡ v) ⊎ Among (with_element cmp x ys) v) [ inl e ↦ inl e | inr b ↦ inr (with_old cmp x ys v b) ])
]

with_only : {X : Type 0} (cmp : X → X → Ordering) (x : X) (ys : List X) (v : X) → Among (with_element cmp x ys) v → (x ≡ v) ⊎ Among ys v
with_only cmp x [] v a = elim a [ inl e ↦ inl e | inr n ↦ absurd n ]
with_only cmp x (y ∷ ys) v a = elim (ordering_cases (cmp x y)) [
  | inl less ↦ rw less at a
  | inr (inl same) ↦ inr (rw same at a)
  | inr (inr past) ↦
      let b : (y ≡ v) ⊎ Among (with_element cmp x ys) v = rw past at a in
      elim b as (λ _. (x ≡ v) ⊎ ((y ≡ v) ⊎ Among ys v)) [
        | inl e ↦ inr (inl e)
        | inr c ↦ elim (with_only cmp x ys v c) as (λ _. (x ≡ v) ⊎ ((y ≡ v) ⊎ Among ys v)) [ inl e ↦ inl e | inr d ↦ inr (inr d) ]
      ]
]

turned : {X : Type 0} {cmp : X → X → Ordering} → IsTotalOrder cmp → (x y : X) → cmp x y ≡ Greater → cmp y x ≡ Less
turned o x y past = let t = o.antisymm y x in rw past at t

with_ascending : {X : Type 0} {cmp : X → X → Ordering} → IsTotalOrder cmp → (x : X) (ys : List X) → IsAscending cmp ys → IsAscending cmp (with_element cmp x ys)
with_ascending {X = X} {cmp = cmp} o x [] h = ((λ v a. absurd a), tt)
with_ascending {X = X} {cmp = cmp} o x (y ∷ ys) h = elim (ordering_cases (cmp x y)) [
  | inl less ↦ rw less ((λ v a. elim a as (λ _. cmp x v ≡ Less) [ inl e ↦ rw e at less | inr b ↦ o.trans x y v less (h.0 v b) ]), h)
  | inr (inl same) ↦ rw same h
  | inr (inr past) ↦ rw past ((λ v a. elim (with_only cmp x ys v a) as (λ _. cmp y v ≡ Less) [ inl e ↦ rw e at (turned o x y past) | inr b ↦ h.0 v b ]), with_ascending o x ys h.1)
]

-- ---- all elements

ascending_rises : {X : Type 0} {cmp : X → X → Ordering} → IsTotalOrder cmp → (xs : List X) → IsAscending cmp (ascending cmp xs)
ascending_rises o [] = tt
ascending_rises {X = X} {cmp = cmp} o (x ∷ xs) = with_ascending o x (ascending cmp xs) (ascending_rises o xs)

pub ascending_has : {X : Type 0} (cmp : X → X → Ordering) → IsExact cmp → (xs : List X) (v : X) → Among xs v → Among (ascending cmp xs) v
ascending_has cmp exact [] v a = absurd a
ascending_has cmp exact (x ∷ xs) v (inl e) = rw (← e) (with_new cmp exact x (ascending cmp xs))
ascending_has cmp exact (x ∷ xs) v (inr a) = with_old cmp x (ascending cmp xs) v (ascending_has cmp exact xs v a)

pub ascending_only : {X : Type 0} (cmp : X → X → Ordering) (xs : List X) (v : X) → Among (ascending cmp xs) v → Among xs v
ascending_only cmp [] v a = a
ascending_only cmp (x ∷ xs) v a = elim (with_only cmp x (ascending cmp xs) v a) as (λ _. (x ≡ v) ⊎ Among xs v) [ inl e ↦ inl e | inr b ↦ inr (ascending_only cmp xs v b) ]

-- ---- the only such list

not_same : {X : Type 0} {cmp : X → X → Ordering} → IsTotalOrder cmp → (x y : X) → cmp x y ≡ Less → x ≡ y → ⊥
not_same {X = X} {cmp = cmp} o x y less same = let tied = tied_itself o y in let before : cmp y y ≡ Less = rw same at less in cc

one_list : {X : Type 0} {cmp : X → X → Ordering} → IsTotalOrder cmp → (xs ys : List X) → IsAscending cmp xs → IsAscending cmp ys
    → ((v : X) → Among xs v → Among ys v) → ((v : X) → Among ys v → Among xs v) → xs ≡ ys
one_list o [] [] p q to from = refl
one_list o [] (y ∷ ys) p q to from = absurd (from y (inl refl))
one_list o (x ∷ xs) [] p q to from = absurd (to x (inl refl))
one_list o (x ∷ xs) (y ∷ ys) p q to from =
    let first : x ≡ y = elim (to x (inl refl)) [
      | inl e ↦ sym e
      | inr b ↦ elim (from y (inl refl)) [ inl e ↦ e | inr a ↦ absurd (not_same o x x (o.trans x y x (p.0 y a) (q.0 x b)) refl) ]
    ] in
    let rest : xs ≡ ys = one_list o xs ys p.1 q.1
    (λ v a. elim (to v (inr a)) [ inl e ↦ absurd (not_same o x v (p.0 v a) (first ∙ e)) | inr b ↦ b ])
    (λ v b. elim (from v (inr b)) [ inl e ↦ absurd (not_same o y v (q.0 v b) (sym first ∙ e)) | inr a ↦ a ]) in
    λ i. first i ∷ rest i

pub is_ascending : {X : Type 0} {cmp : X → X → Ordering} → IsTotalOrder cmp → IsExact cmp → (xs ys : List X) → IsAscending cmp ys
    → ((v : X) → Among xs v → Among ys v) → ((v : X) → Among ys v → Among xs v) → ys ≡ ascending cmp xs
is_ascending {X = X} {cmp = cmp} o exact xs ys rises to from =
    one_list o ys (ascending cmp xs) rises (ascending_rises o xs) (λ v a. ascending_has cmp exact xs v (from v a)) (λ v a. to v (ascending_only cmp xs v a))
