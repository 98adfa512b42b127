-- The parts of an object with missing names among them: what is found at a step, and that they ascend.
use Rattle.std.proofs.Common.{◌≡◌, List, [], ◌∷◌, ℕ, true, false, Option, Some, None, refl, sym, ap, subst, ◌∙◌, inl, inr}
use Rattle.std.specs.Prelude.{if◌then◌else◌}
use Rattle.std.specs.declared.cmp.Ordering.TheVariants.{Less, Equal, Greater}
use Rattle.std.specs.Str.{bytes_eq}
use Rattle.std.proofs.lemmas.Map.Lookups.{exact_bytes}
use Rattle.jtree.specs.Path.{Step, name, index}
use Rattle.jtree.specs.PathOrder.{step_cmp}
use Rattle.jtree.specs.Internal.Lookups.{bool_cases, ordering_cases, own_name}
use Rattle.jtree.specs.Internal.MemberLaws.{before_of}
use Rattle.jtree.specs.Internal.PathLaws.{step_itself}
use Rattle.judge.specs.Asked.{missing, is_among}
use Rattle.judge.specs.Meets.{first_there}
use Rattle.judge.specs.Faults.{Asking, Failure}
use Rattle.judge.specs.Internal.FaultsByLevel.{Below, own, with_part, with_parts}
use Rattle.judge.proofs.JoinedLemmas.{is_step, lookup, IsStepBefore, AreRising, same_if, before_trans}

-- ---- options, and steps

first_none : {A : Type 0} (o : Option A) → first_there o None ≡ o
first_none None = refl
first_none (Some x) = refl

first_first : {A : Type 0} (o p q : Option A) → first_there (first_there o p) q ≡ first_there o (first_there p q)
first_first None p q = refl
first_first (Some x) p q = refl

other_step : (s t : Step) → (step_cmp s t ≡ Equal → ⊥) → is_step s t ≡ false
other_step s t h = elim (bool_cases (is_step s t)) [
  | inl e ↦ absurd (h (subst (λ u. step_cmp s u ≡ Equal) (same_if s t e) (step_itself s)))
  | inr e ↦ e
]

equal_step : (k : List ℕ) (t : Step) → step_cmp (name k) t ≡ Equal → is_step (name k) t ≡ true
equal_step k (name l) e = subst (λ n. bytes_eq k n ≡ true) (exact_bytes k l e) (own_name k)
equal_step k (index i) e = cc

turned : (k : List ℕ) (t : Step) → step_cmp (name k) t ≡ Greater → step_cmp t (name k) ≡ Less
turned k (name l) e = before_of k l e
turned k (index i) e = cc

not_there : (s : Step) (bs : List Below) → IsStepBefore s bs → AreRising bs → lookup s bs ≡ None
not_there s [] before r = refl
not_there s (b ∷ bs) before r =
    let other : is_step s b.step ≡ false = other_step s b.step (λ e. let x : Less ≡ Equal = sym before ∙ e in cc) in
    rw other (not_there s bs (before_trans s b.step bs before r.1) r.2)

-- ---- one name

-- what is found at a step if one of the names is missing
abbrev pub at_missing : Asking → List (List ℕ) → Step → Option (List Failure)
at_missing ask ks (name k) = if is_among k ks then Some (own ask missing) else None
at_missing ask ks (index i) = None

module _ (ask : Asking) where
  abbrev at_name : List ℕ → Step → Option (List Failure)
  at_name k s = if is_step s (name k) then Some (own ask missing) else None

  before_first : (k : List ℕ) (b : Below) (bs : List Below) → step_cmp (name k) b.step ≡ Less → AreRising (b ∷ bs) → (s : Step)
      → (if is_step s (name k) then Some (own ask missing) else lookup s (b ∷ bs)) ≡ first_there (lookup s (b ∷ bs)) (at_name k s)
  before_first k b bs e r s = elim (bool_cases (is_step s (name k))) [
    | inl h ↦
        let none : lookup s (b ∷ bs) ≡ None = subst (λ u. lookup u (b ∷ bs) ≡ None) (sym (same_if s (name k) h)) (not_there (name k) (b ∷ bs) e r) in
        rw (h, none) refl
    | inr h ↦ rw h (sym (first_none (lookup s (b ∷ bs))))
  ]

  at_first : (k : List ℕ) (b : Below) (bs : List Below) → step_cmp (name k) b.step ≡ Equal → (s : Step) → lookup s (b ∷ bs) ≡ first_there (lookup s (b ∷ bs)) (at_name k s)
  at_first k b bs e s = elim (bool_cases (is_step s (name k))) [
    | inl h ↦
        let there : is_step s b.step ≡ true = subst (λ u. is_step u b.step ≡ true) (sym (same_if s (name k) h)) (equal_step k b.step e) in
        rw there refl
    | inr h ↦ rw h (sym (first_none (lookup s (b ∷ bs))))
  ]

  lookup_with : (k : List ℕ) (bs : List Below) → AreRising bs → (s : Step) → lookup s (with_part ask k bs) ≡ first_there (lookup s bs) (at_name k s)
  lookup_with k [] r s = refl
  lookup_with k (b ∷ bs) r s = elim (ordering_cases (step_cmp (name k) b.step)) [
    | inl e ↦ rw e (before_first k b bs e r s)
    | inr (inl e) ↦ rw e (at_first k b bs e s)
    | inr (inr e) ↦ rw e (elim (bool_cases (is_step s b.step)) [ inl h ↦ rw h refl | inr h ↦ rw h (lookup_with k bs r.2 s) ])
  ]

  before_with : (t : Step) (k : List ℕ) (bs : List Below) → IsStepBefore t bs → step_cmp t (name k) ≡ Less → IsStepBefore t (with_part ask k bs)
  before_with t k [] before less = less
  before_with t k (b ∷ bs) before less = elim (ordering_cases (step_cmp (name k) b.step)) [
    | inl e ↦ rw e less
    | inr (inl e) ↦ rw e before
    | inr (inr e) ↦ rw e before
  ]

  rising_with : (k : List ℕ) (bs : List Below) → AreRising bs → AreRising (with_part ask k bs)
  rising_with k [] r = ((λ v a. elim a [ ], tt), tt, tt)
  rising_with k (b ∷ bs) r = elim (ordering_cases (step_cmp (name k) b.step)) [
    | inl e ↦ rw e ((λ v a. elim a [ ], tt), e, r)
    | inr (inl e) ↦ rw e r
    | inr (inr e) ↦ rw e (r.0, before_with b.step k bs r.1 (turned k b.step e), rising_with k bs r.2)
  ]

  -- ---- all names

  pub rising_all : (ks : List (List ℕ)) (bs : List Below) → AreRising bs → AreRising (with_parts ask ks bs)
  rising_all [] bs r = r
  rising_all (k ∷ ks) bs r = rising_all ks (with_part ask k bs) (rising_with k bs r)

  none_missing : (s : Step) → at_missing ask [] s ≡ None
  none_missing (name k) = refl
  none_missing (index i) = refl

  one_more : (k : List ℕ) (ks : List (List ℕ)) (s : Step) → first_there (at_name k s) (at_missing ask ks s) ≡ at_missing ask (k ∷ ks) s
  one_more k ks (name l) = elim (bool_cases (bytes_eq l k)) [ inl e ↦ rw e refl | inr e ↦ rw e refl ]
  one_more k ks (index i) = refl

  pub lookup_all : (ks : List (List ℕ)) (bs : List Below) → AreRising bs → (s : Step) → lookup s (with_parts ask ks bs) ≡ first_there (lookup s bs) (at_missing ask ks s)
  lookup_all [] bs r s = sym (ap (first_there (lookup s bs)) (none_missing s) ∙ first_none (lookup s bs))
  lookup_all (k ∷ ks) bs r s =
      lookup_all ks (with_part ask k bs) (rising_with k bs r) s
      ∙ (ap (λ o. first_there o (at_missing ask ks s)) (lookup_with k bs r s)
      ∙ (first_first (lookup s bs) (at_name k s) (at_missing ask ks s) ∙ ap (first_there (lookup s bs)) (one_more k ks s)))
