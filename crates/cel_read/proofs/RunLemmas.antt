-- How far characters of a class go on.
use Rattle.std.proofs.Common.{◌≡◌, ◌<◌, ◌≤◌, ◌⊎◌, ◌∙◌, ◌+◌, ℕ, Bool, true, false, ◌&&◌, [], ◌∷◌, ◌++◌, length, take, drop, get_or, refl, sym, ap, inl, inr, arith, append-nil, append_assoc}
use Rattle.std.proofs.lemmas.List.{drop_more, take_more}
use Rattle.std.specs.List.{list_all}
use Rattle.cel_read.specs.Lexemes.{Text}
use Rattle.cel_read.specs.Internal.Runs.{with_first, run}

pub both : (a b : Bool) → (a && b) ≡ true → (a ≡ true) × (b ≡ true)
both true b e = (refl, e)
both false b e = cc

pub run_yes : (p : ℕ → Bool) (c : ℕ) (t : Text) → p c ≡ true → run p (c ∷ t) ≡ with_first c (run p t)
run_yes p c t e = rw e refl

pub run_no : (p : ℕ → Bool) (c : ℕ) (t : Text) → p c ≡ false → run p (c ∷ t) ≡ ([], c ∷ t)
run_no p c t e = rw e refl

-- both parts of it are the text
pub run_splits : (p : ℕ → Bool) (t : Text) → t ≡ (run p t).0 ++ (run p t).1
run_splits p [] = refl
run_splits p (c ∷ t) = by (p c) refl (run_splits p t)
  where
    by : (b : Bool) → p c ≡ b → t ≡ (run p t).0 ++ (run p t).1 → c ∷ t ≡ (run p (c ∷ t)).0 ++ (run p (c ∷ t)).1
    by true e h = ap (λ u. c ∷ u) h ∙ ap (λ x. x.0 ++ x.1) (sym (run_yes p c t e))
    by false e h = ap (λ x. x.0 ++ x.1) (sym (run_no p c t e))

pub run_passes : (p : ℕ → Bool) (t : Text) → list_all p (run p t).0 ≡ true
run_passes p [] = refl
run_passes p (c ∷ t) = by (p c) refl (run_passes p t)
  where
    by : (b : Bool) → p c ≡ b → list_all p (run p t).0 ≡ true → list_all p (run p (c ∷ t)).0 ≡ true
    by true e h = ap (λ x. list_all p x.0) (run_yes p c t e) ∙ (ap (λ b. b && list_all p (run p t).0) e ∙ h)
    by false e h = ap (λ x. list_all p x.0) (run_no p c t e)

pub run_shorter : (p : ℕ → Bool) (t : Text) → length (run p t).1 ≤ length t
run_shorter p [] = omega arith
run_shorter p (c ∷ t) = by (p c) refl (run_shorter p t)
  where
    by : (b : Bool) → p c ≡ b → length (run p t).1 ≤ length t → length (run p (c ∷ t)).1 ≤ length (c ∷ t)
    by true e h = let s = ap (λ x. length x.1) (run_yes p c t e) in omega (arith, s, h)
    by false e h = let s = ap (λ x. length x.1) (run_no p c t e) in omega (arith, s)

-- after characters that pass it goes on
pub run_over : (p : ℕ → Bool) (xs z : Text) → list_all p xs ≡ true → run p (xs ++ z) ≡ (xs ++ (run p z).0, (run p z).1)
run_over p [] z h = refl
run_over p (c ∷ xs) z h =
    let h' = both (p c) (list_all p xs) h in
    run_yes p c (xs ++ z) h'.0 ∙ ap (with_first c) (run_over p xs z h'.1)

-- and ends before one that does not
pub run_to : (p : ℕ → Bool) (xs : Text) (c : ℕ) (z : Text) → list_all p xs ≡ true → p c ≡ false → run p (xs ++ c ∷ z) ≡ (xs, c ∷ z)
run_to p xs c z h e =
    run_over p xs (c ∷ z) h ∙ (ap (λ x. (xs ++ x.0, x.1)) (run_no p c z e) ∙ ap (λ t. (t, c ∷ z)) (append-nil xs))

-- it goes on, or not at all
pub run_cases : (p : ℕ → Bool) (z : Text) → (length (run p z).1 < length z) ⊎ (run p z ≡ ([], z))
run_cases p [] = inr refl
run_cases p (c ∷ z) = by (p c) refl
  where
    by : (b : Bool) → p c ≡ b → (length (run p (c ∷ z)).1 < length (c ∷ z)) ⊎ (run p (c ∷ z) ≡ ([], c ∷ z))
    by true e = let s = ap (λ x. length x.1) (run_yes p c z e) in inl (omega (arith, s, run_shorter p z))
    by false e = inr (run_no p c z e)

-- after characters that pass: further, or exactly these
pub run_over_cases : (p : ℕ → Bool) (xs z : Text) → list_all p xs ≡ true → (length (run p (xs ++ z)).1 < length z) ⊎ (run p (xs ++ z) ≡ (xs, z))
run_over_cases p xs z h = by (run_cases p z)
  where
    over : run p (xs ++ z) ≡ (xs ++ (run p z).0, (run p z).1)
    over = run_over p xs z h

    by : (length (run p z).1 < length z) ⊎ (run p z ≡ ([], z)) → (length (run p (xs ++ z)).1 < length z) ⊎ (run p (xs ++ z) ≡ (xs, z))
    by (inl l) = let s = ap (λ x. length x.1) over in inl (omega (arith, s, l))
    by (inr e) = inr (over ∙ (ap (λ x. (xs ++ x.0, x.1)) e ∙ ap (λ t. (t, z)) (append-nil xs)))

-- ---- the loop of the code

abbrev pub with_front : Text → Text × Text → Text × Text
with_front front x = (front ++ x.0, x.1)

front_more : (front : Text) (c : ℕ) (x : Text × Text) → with_front (front ++ c ∷ []) x ≡ with_front front (with_first c x)
front_more front c x = ap (λ t. (t, x.1)) (append_assoc front (c ∷ []) x.0)

-- one character more
pub run_more : (p : ℕ → Bool) (text : Text) (i : ℕ) → i < length text → p (get_or text i 0) ≡ true
    → with_front (take i text) (run p (drop i text)) ≡ run p text → with_front (take (i + 1) text) (run p (drop (i + 1) text)) ≡ run p text
run_more p text i within passes whole =
    let c = get_or text i 0 in
    let rest = drop (i + 1) text in
    ap (λ t. with_front t (run p rest)) (take_more text i 0 within)
    ∙ (front_more (take i text) c (run p rest)
    ∙ (ap (with_front (take i text)) (sym (run_yes p c rest passes) ∙ ap (run p) (sym (drop_more text i 0 within))) ∙ whole))

-- and no more
pub run_end : (p : ℕ → Bool) (text : Text) (i : ℕ) → i < length text → p (get_or text i 0) ≡ false
    → with_front (take i text) (run p (drop i text)) ≡ run p text → (take i text, drop i text) ≡ run p text
run_end p text i within other whole =
    let here : drop i text ≡ get_or text i 0 ∷ drop (i + 1) text = drop_more text i 0 within in
    let none : run p (drop i text) ≡ ([], drop i text) = ap (run p) here ∙ (run_no p _ _ other ∙ ap (λ t. ([], t)) (sym here)) in
    ap (λ t. (t, drop i text)) (sym (append-nil (take i text))) ∙ (ap (with_front (take i text)) (sym none) ∙ whole)
