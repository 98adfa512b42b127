-- Elements of a list, and lists that ascend, by index and by recursion.
use Rattle.std.proofs.Common.{◌≡◌, ◌⊎◌, ◌<◌, ℕ, zero, suc, List, [], ◌∷◌, ◌++◌, length, refl, subst, inl, inr, arith, get_or}
use Rattle.std.specs.Prelude.{All, AllPairs, Contains}
use Rattle.std.proofs.lemmas.List.Kept.{AllPairs-cons}

abbrev pub Among : {X : Type 0} → List X → X → Type 0
Among [] v = ⊥
Among (x ∷ xs) v = (x ≡ v) ⊎ Among xs v

abbrev pub Rising : {X : Type 0} → (X → X → Type 0) → List X → Type 0
Rising R [] = Unit {0}
Rising {X} R (x ∷ xs) = ((v : X) → Among xs v → R x v) × Rising R xs

pub index_of : {X : Type 0} (xs : List X) (v d : X) → Among xs v → (k : ℕ) × (k < length xs) × (get_or xs k d ≡ v)
index_of [] v d e = elim e [ ]
index_of (x ∷ xs) v d (inl e) = (0, omega arith, e)
index_of (x ∷ xs) v d (inr e) = let r = index_of xs v d e in (suc r.0, omega (arith, r.1), r.2)

at_index : {X : Type 0} (xs : List X) (k : ℕ) (d : X) → k < length xs → Among xs (get_or xs k d)
at_index [] k d lt = absurd (omega arith)
at_index (x ∷ xs) zero d lt = inl refl
at_index (x ∷ xs) (suc k) d lt = inr (at_index xs k d (omega arith))

pub contained : {X : Type 0} (xs : List X) (v : X) → Contains xs v → Among xs v
contained xs v c = subst (Among xs) c.2 (at_index xs c.0 v c.1)

pub contains : {X : Type 0} (xs : List X) (v : X) → Among xs v → Contains xs v
contains xs v a = index_of xs v v a

pub each_of : {X : Type 0} (P : X → Type 0) (xs : List X) → ((v : X) → Among xs v → P v) → All P xs
each_of P xs h = λ k d lt. h (get_or xs k d) (at_index xs k d lt)

pub rising : {X : Type 0} (R : X → X → Type 0) (xs : List X) → AllPairs R xs → Rising R xs
rising R [] h = tt
rising R (x ∷ xs) h = (
  λ v a. let r = index_of xs v v a in subst (R x) r.2 (h 0 (suc r.0) v (omega arith) (omega (arith, r.1))),
  rising R xs (λ i j d lt within. h (suc i) (suc j) d (omega arith) (omega arith)),
)

pub all_pairs : {X : Type 0} (R : X → X → Type 0) (xs : List X) → Rising R xs → AllPairs R xs
all_pairs R [] h = λ i j d lt within. absurd (omega arith)
all_pairs R (x ∷ xs) h = AllPairs-cons R x xs (λ k d lt. h.0 (get_or xs k d) (at_index xs k d lt)) (all_pairs R xs h.1)

-- ---- joined lists

pub among_left : {X : Type 0} (xs ys : List X) (v : X) → Among xs v → Among (xs ++ ys) v
among_left [] ys v a = elim a [ ]
among_left (x ∷ xs) ys v (inl e) = inl e
among_left (x ∷ xs) ys v (inr a) = inr (among_left xs ys v a)

pub among_right : {X : Type 0} (xs ys : List X) (v : X) → Among ys v → Among (xs ++ ys) v
among_right [] ys v a = a
among_right (x ∷ xs) ys v a = inr (among_right xs ys v a)

pub among_parts : {X : Type 0} (xs ys : List X) (v : X) → Among (xs ++ ys) v → Among xs v ⊎ Among ys v
among_parts [] ys v a = inr a
among_parts (x ∷ xs) ys v (inl e) = inl (inl e)
among_parts (x ∷ xs) ys v (inr a) = elim (among_parts xs ys v a) [ inl l ↦ inl (inr l) | inr r ↦ inr r ]

pub rising_join : {X : Type 0} (R : X → X → Type 0) (xs ys : List X) → Rising R xs → Rising R ys → ((v w : X) → Among xs v → Among ys w → R v w) → Rising R (xs ++ ys)
rising_join R [] ys r s across = s
rising_join R (x ∷ xs) ys r s across = (
  λ v a. elim (among_parts xs ys v a) [ inl l ↦ r.0 v l | inr h ↦ across x v (inl refl) h ],
  rising_join R xs ys r.1 s (λ v w a b. across v w (inr a) b),
)
