-- Lists in which no element occurs twice.
use Rattle.std.specs.Prelude.{◌≡◌, ◌≢◌, ◌*◌, ◌≤◌, ◌<◌, ◌⊎◌, List, Bool, true, map, filter}
use Rattle.std.specs.Bool.{Decides}
use Rattle.std.specs.Cmp.{IsEquivalence}
use Rattle.std.specs.Set.{is_member}
use Rattle.std.proofs.Common.{refl, ap, sym, ◌∙◌, subst, inl, inr, arith, [], ◌∷◌, ◌++◌, length}
use Rattle.std.proofs.lemmas.Bool.{cases_Bool, iff_false}
use Rattle.std.proofs.lemmas.List.{length-append, length-map}
use Rattle.std.proofs.lemmas.Map.Made.{is_member-Decides, IsDistinct-from_AllPairs, length-le_from_is_member}
use Rattle.jtree.specs.Internal.Rising.{Among, contained, contains, all_pairs, rising_join, among_left, among_right, among_parts}
use Rattle.plan.specs.Internal.Keyed.{IsApart}

-- ---- what is not used

-- all of the first are in the second, or one of them is not
missing : {K : Type 0} {eq : K → K → Bool} → ((a b : K) → Decides (eq a b) (a ≡ b)) → (cs used : List K) → ((q : K) → Among cs q → Among used q) ⊎ ((c : K) × Among cs c × (Among used c → ⊥))
missing same [] used = inl (λ q a. absurd a)
missing {K} {eq} same (c ∷ cs) used =
    let here = is_member-Decides same used c in
    elim (missing same cs used) as (λ _. ((q : K) → Among (c ∷ cs) q → Among used q) ⊎ ((d : K) × Among (c ∷ cs) d × (Among used d → ⊥))) [
      | inr r ↦ inr (r.0, inr r.1, r.2)
      | inl all ↦ elim (cases_Bool (is_member eq used c)) [
        | inl t ↦ inl (λ q a. elim a [ inl e ↦ subst (Among used) e (contained used c (here.0 t)) | inr b ↦ all q b ])
        | inr f ↦ inr (c, inl refl, λ a. iff_false here f (contains used c a))
      ]
    ]

module _ {K : Type 0} {eq : K → K → Bool} (same : (a b : K) → Decides (eq a b) (a ≡ b)) (laws : IsEquivalence eq) where
  -- a list of different elements of another list is no longer than that list
  pub apart_length : (xs cs : List K) → IsApart xs → ((q : K) → Among xs q → Among cs q) → length xs ≤ length cs
  apart_length xs cs a h =
      length-le_from_is_member laws xs cs (IsDistinct-from_AllPairs same xs (all_pairs (λ x y. x ≢ y) xs a))
      (λ q m. (is_member-Decides same cs q).1 (contains cs q (h q (contained xs q ((is_member-Decides same xs q).0 m)))))

  -- one is not used, where fewer are used than there are
  pub one_free : (cs used : List K) → IsApart cs → length used < length cs → (c : K) × Among cs c × (Among used c → ⊥)
  one_free cs used a l = elim (missing same cs used) [ inl all ↦ absurd (omega (arith, apart_length cs used a all)) | inr r ↦ r ]

-- ---- mapped lists

pub map_among : {X Y : Type 0} (f : X → Y) (xs : List X) (x : X) → Among xs x → Among (map f xs) (f x)
map_among f [] x a = absurd a
map_among f (y ∷ ys) x (inl e) = inl (ap f e)
map_among f (y ∷ ys) x (inr a) = inr (map_among f ys x a)

pub among_map : {X Y : Type 0} (f : X → Y) (xs : List X) (v : Y) → Among (map f xs) v → (x : X) × (Among xs x × (f x ≡ v))
among_map f [] v a = absurd a
among_map f (x ∷ xs) v (inl e) = (x, (inl refl, e))
among_map f (x ∷ xs) v (inr a) = let r = among_map f xs v a in (r.0, (inr r.1.0, r.1.1))

pub map_apart : {X Y : Type 0} (f : X → Y) (xs : List X) → ((x y : X) → f x ≡ f y → x ≡ y) → IsApart xs → IsApart (map f xs)
map_apart f [] one a = tt
map_apart f (x ∷ xs) one a = (λ v m e. let r = among_map f xs v m in a.0 r.0 r.1.0 (one x r.0 (e ∙ sym r.1.1)), map_apart f xs one a.1)

pub map_same : {X Y : Type 0} (f g : X → Y) (xs : List X) → ((x : X) → Among xs x → f x ≡ g x) → map f xs ≡ map g xs
map_same f g [] h = refl
map_same f g (x ∷ xs) h = rw (h x (inl refl), map_same f g xs (λ y a. h y (inr a))) refl

pub same_map : {X Y : Type 0} (f g : X → Y) (xs : List X) → map f xs ≡ map g xs → (x : X) → Among xs x → f x ≡ g x
same_map f g [] e x a = absurd a
same_map f g (y ∷ ys) e x (inl s) = rw (← s) (cc)
same_map f g (y ∷ ys) e x (inr a) = same_map f g ys (cc) x a

-- ---- filtered lists

pub among_filter : {X : Type 0} (test : X → Bool) (xs : List X) (v : X) → Among (filter test xs) v → Among xs v × (test v ≡ true)
among_filter test [] v a = absurd a
among_filter test (x ∷ xs) v a = elim (cases_Bool (test x)) [
  | inl t ↦
      let b : (x ≡ v) ⊎ Among (filter test xs) v = rw t at a in
      elim b as (λ _. Among (x ∷ xs) v × (test v ≡ true)) [ inl e ↦ (inl e, subst (λ w. test w ≡ true) e t) | inr c ↦ let r = among_filter test xs v c in (inr r.0, r.1) ]
  | inr f ↦ let r = among_filter test xs v (rw f at a) in (inr r.0, r.1)
]

pub filter_among : {X : Type 0} (test : X → Bool) (xs : List X) (v : X) → Among xs v → test v ≡ true → Among (filter test xs) v
filter_among test [] v a t = absurd a
filter_among test (x ∷ xs) v (inl e) t = let here : test x ≡ true = rw e t in rw here (inl e)
filter_among test (x ∷ xs) v (inr a) t = elim (cases_Bool (test x)) [
  | inl here ↦ rw here (inr (filter_among test xs v a t))
  | inr other ↦ rw other (filter_among test xs v a t)
]

-- ---- each of the first before each of the second

unfoldable pub each_before : {X : Type 0} → List X → List (List X) → List (List X)
each_before [] ts = []
each_before (x ∷ xs) ts = map (λ t. x ∷ t) ts ++ each_before xs ts

pub among_each : {X : Type 0} (xs : List X) (ts : List (List X)) (q : List X) → Among (each_before xs ts) q → (x : X) × ((t : List X) × (Among xs x × Among ts t × (x ∷ t ≡ q)))
unfolding each_before
among_each [] ts q a = absurd a
among_each (x ∷ xs) ts q a = elim (among_parts (map (λ t. x ∷ t) ts) (each_before xs ts) q a) [
  | inl m ↦ let r = among_map (λ t. x ∷ t) ts q m in (x, (r.0, (inl refl, r.1.0, r.1.1)))
  | inr m ↦ let r = among_each xs ts q m in (r.0, (r.1.0, (inr r.1.1.0, r.1.1.1, r.1.1.2)))
]

pub each_among : {X : Type 0} (xs : List X) (ts : List (List X)) (x : X) (t : List X) → Among xs x → Among ts t → Among (each_before xs ts) (x ∷ t)
unfolding each_before
each_among [] ts x t a b = absurd a
each_among (y ∷ xs) ts x t (inl e) b = among_left (map (λ t. y ∷ t) ts) (each_before xs ts) (x ∷ t) (subst (λ z. Among (map (λ t. y ∷ t) ts) (z ∷ t)) e (map_among (λ t. y ∷ t) ts t b))
each_among (y ∷ xs) ts x t (inr a) b = among_right (map (λ t. y ∷ t) ts) (each_before xs ts) (x ∷ t) (each_among xs ts x t a b)

pub each_length : {X : Type 0} (xs : List X) (ts : List (List X)) → length (each_before xs ts) ≡ length xs * length ts
unfolding each_before
each_length [] ts = omega arith
each_length (x ∷ xs) ts = omega (arith, length-append (map (λ t. x ∷ t) ts) (each_before xs ts), length-map ts (λ t. x ∷ t), each_length xs ts)

pub each_apart : {X : Type 0} (xs : List X) (ts : List (List X)) → IsApart xs → IsApart ts → IsApart (each_before xs ts)
unfolding each_before
each_apart [] ts a b = tt
each_apart (x ∷ xs) ts a b = rising_join (λ s t. s ≢ t) (map (λ t. x ∷ t) ts) (each_before xs ts) (map_apart (λ t. x ∷ t) ts (λ s t e. cc) b) (each_apart xs ts a.1 b) (λ v w m n e.
    let r = among_map (λ t. x ∷ t) ts v m in
    let s = among_each xs ts w n in
    a.0 s.0 s.1.1.0 (cc (r.1.1, s.1.1.2)))
