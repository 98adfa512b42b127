-- Readers that are sound, and that go as far as the longest lexeme; two of them as one.
use Rattle.std.proofs.Common.{◌≡◌, ◌<◌, ◌≤◌, ◌⊎◌, ◌∙◌, ◌+◌, ◌-◌, Bool, true, false, ◌++◌, length, take, nat_lt, Some, None, refl, sym, ap, subst, inl, inr, arith, if◌then◌else◌}
use Rattle.std.proofs.lemmas.List.{length-append}
use Rattle.std.proofs.lemmas.Bool.Decides.{nat_tests}
use Rattle.std.proofs.Math.Seq.{take-append_seam}
use Rattle.cel_read.specs.Lexemes.{Text, Lexeme}
use Rattle.cel_read.specs.Internal.Reading.{Found, before, longer}

pub some_is : {A : Type 0} (a b : A) → Some a ≡ Some b → a ≡ b
some_is a b e = cc

abbrev pub at : Lexeme → Text → Lexeme × Text
at l rest = (l, rest)

-- what stands before the rest is a lexeme
abbrev pub Front : (Text → Lexeme → Type 0) → Text → Lexeme → Text → Type 0
Front P t l rest = (x : Text) × (t ≡ x ++ rest) × P x l

abbrev pub Sound : (Text → Found) → (Text → Lexeme → Type 0) → Type 0
Sound r P = (t : Text) (l : Lexeme) (rest : Text) → r t ≡ Some (l, rest) → Front P t l rest

pub front_is : (P : Text → Lexeme → Type 0) (t : Text) (w : Lexeme × Text) (l : Lexeme) (rest : Text) → Some w ≡ Some (l, rest) → Front P t w.0 w.1 → Front P t l rest
front_is P t w l rest e f = subst (λ v. Front P t v.0 v.1) (some_is w (l, rest) e) f

-- what is found goes on past the end of a lexeme, or it is that lexeme
abbrev pub Reaches : Found → Lexeme → Text → Type 0
Reaches None l z = ⊥
Reaches (Some f) l z = (length f.1 < length z) ⊎ (f ≡ (l, z))

abbrev pub Longest : (Text → Found) → (Text → Lexeme → Type 0) → Type 0
Longest r P = (x z : Text) (l : Lexeme) → P x l → Reaches (r (x ++ z)) l z

abbrev pub Disjoint : (Text → Lexeme → Type 0) → (Text → Lexeme → Type 0) → Type 0
Disjoint P Q = (x : Text) (l m : Lexeme) → P x l → Q x m → ⊥

abbrev pub Either : (Text → Lexeme → Type 0) → (Text → Lexeme → Type 0) → Text → Lexeme → Type 0
Either P Q x l = P x l ⊎ Q x l

-- texts that end with equally long ones begin alike
pub fronts_alike : (x y a b : Text) → x ++ a ≡ y ++ b → length a ≡ length b → x ≡ y
fronts_alike x y a b e n =
    let sums : length x + length a ≡ length y + length b = sym (length-append x a) ∙ (ap length e ∙ length-append y b) in
    let same : length x ≡ length y = omega (arith, sums, n) in
    sym (take-append_seam x a) ∙ (ap (take (length x)) e ∙ (ap (λ k. take k (y ++ b)) same ∙ take-append_seam y b))

pub before_is : (x r : Text) → before (x ++ r) r ≡ x
before_is x r =
    let n : length (x ++ r) - length r ≡ length x = omega (arith, length-append x r) in
    ap (λ k. take k (x ++ r)) n ∙ take-append_seam x r

module _ (p q : Text → Found) (P Q : Text → Lexeme → Type 0) where
  pub longer_sound : Sound p P → Sound q Q → Sound (λ t. longer (p t) (q t)) (Either P Q)
  longer_sound s u t l rest h = by (p t) (q t) refl refl h
    where
      pick : (f g : Lexeme × Text) → p t ≡ Some f → q t ≡ Some g → (b : Bool) → (if b then Some g else Some f) ≡ Some (l, rest) → Front (Either P Q) t l rest
      pick f g e k true h = let r = u t l rest (k ∙ h) in (r.0, r.1, inr r.2)
      pick f g e k false h = let r = s t l rest (e ∙ h) in (r.0, r.1, inl r.2)

      by : (f g : Found) → p t ≡ f → q t ≡ g → longer f g ≡ Some (l, rest) → Front (Either P Q) t l rest
      by None g e k h = let r = u t l rest (k ∙ h) in (r.0, r.1, inr r.2)
      by (Some f) None e k h = let r = s t l rest (e ∙ h) in (r.0, r.1, inl r.2)
      by (Some f) (Some g) e k h = pick f g e k (nat_lt (length g.1) (length f.1)) h

  -- the first one where both end alike: it is the lexeme, since none is of both sorts
  tied : Sound p P → Disjoint P Q → (x z : Text) (l : Lexeme) → Q x l → (f : Lexeme × Text) → p (x ++ z) ≡ Some f → length f.1 ≡ length z → ⊥
  tied s d x z l b f e n =
      let r = s (x ++ z) f.0 f.1 e in
      let same : r.0 ≡ x = fronts_alike r.0 x f.1 z (sym r.1) n in
      d x f.0 l (subst (λ y. P y f.0) same r.2) b

  pub longer_longest : Sound p P → Disjoint P Q → Longest p P → Longest q Q → Longest (λ t. longer (p t) (q t)) (Either P Q)
  longer_longest s d u v x z l (inl a) = by (p (x ++ z)) (q (x ++ z)) (u x z l a)
    where
      pick : (f g : Lexeme × Text) → (b : Bool) → nat_lt (length g.1) (length f.1) ≡ b → Reaches (Some f) l z → Reaches (if b then Some g else Some f) l z
      pick f g true e (inl r) = inl (grind (arith, nat_tests))
      pick f g true e (inr r) = let n = ap (λ w. length w.1) r in inl (grind (arith, nat_tests))
      pick f g false e r = r

      by : (f g : Found) → Reaches f l z → Reaches (longer f g) l z
      by None g r = absurd r
      by (Some f) None r = r
      by (Some f) (Some g) r = pick f g (nat_lt (length g.1) (length f.1)) refl r
  longer_longest s d u v x z l (inr b) = by (p (x ++ z)) (q (x ++ z)) refl (v x z l b)
    where
      settle : (f : Lexeme × Text) → p (x ++ z) ≡ Some f → length f.1 ≤ length z → Reaches (Some f) l z
      settle f e n = at (nat_lt (length f.1) (length z)) refl
        where
          at : (c : Bool) → nat_lt (length f.1) (length z) ≡ c → Reaches (Some f) l z
          at true k = inl (grind (arith, nat_tests))
          at false k = let m : length f.1 ≡ length z = grind (arith, nat_tests) in absurd (tied s d x z l b f e m)

      pick : (f g : Lexeme × Text) → p (x ++ z) ≡ Some f → (c : Bool) → nat_lt (length g.1) (length f.1) ≡ c → Reaches (Some g) l z
          → Reaches (if c then Some g else Some f) l z
      pick f g e true k r = r
      pick f g e false k (inl r) = settle f e (grind (arith, nat_tests))
      pick f g e false k (inr r) = let n = ap (λ w. length w.1) r in settle f e (grind (arith, nat_tests))

      by : (f g : Found) → p (x ++ z) ≡ f → Reaches g l z → Reaches (longer f g) l z
      by None g e r = r
      by (Some f) None e r = absurd r
      by (Some f) (Some g) e r = pick f g e (nat_lt (length g.1) (length f.1)) refl r
