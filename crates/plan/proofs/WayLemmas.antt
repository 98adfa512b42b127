-- Along a way: which sites are beside it, and the entries that are right over the changed pools.
use Rattle.std.proofs.Common.{◌≡◌, ◌<◌, ◌≤◌, ◌+◌, ℕ, zero, suc, List, [], ◌∷◌, ◌++◌, true, false, refl, sym, ap, subst, ◌∙◌, inl, inr, append-nil, append_assoc, arith, length, get_or}
use Rattle.std.specs.Str.{bytes_eq}
use Rattle.std.proofs.lemmas.Bool.{cases_lt}
use Rattle.std.proofs.lemmas.List.{append_cancel_left}
use Rattle.jtree.specs.Internal.Lookups.{bool_cases, same_name}
use Rattle.schema.specs.Document.Texts.{is_among}
use Rattle.schema.specs.Nodes.Node.{Node}
use Rattle.explain.specs.Paths.FieldPath.{FieldStep, FieldPath}
use Rattle.explain.specs.Paths.PathText.{path_text}
use Rattle.plan.specs.Pools.Pools.{Pools, fixed_at}
use Rattle.plan.specs.Pools.Along.{beginnings, DifferAlong}
use Rattle.plan.specs.Samples.Sites.{Site, no_site, below, site_at}
use Rattle.plan.specs.Samples.Candidates.{sort_of}
use Rattle.plan.specs.Internal.Arena.{IsRight, AreRightBelow, AreRight}
use Rattle.plan.specs.Internal.Frame.{IsSameAt, AreSameBelow}
use Rattle.plan.specs.Internal.Way.{IsWay}
use Rattle.plan.specs.declared.values.Values.{Values}
use Rattle.plan.specs.declared.arena.Entry.{Entry}
use Rattle.plan.specs.declared.sort.Sort.TheVariants.{Leaf}
use Rattle.plan.proofs.PoolPathLemmas.{OneText}
use Rattle.plan.proofs.FrameLemmas.{AreAlike, right_over}
use Rattle.plan.proofs.PlaceLemmas.{text_join, text_below, join_one}

-- ---- texts of beginnings

record IsBeginning (front p : FieldPath) (text : List ℕ) : Type 0 where
  pub before : FieldPath
  pub rest : FieldPath
  pub whole : before ++ rest ≡ p
  pub text_is : text ≡ path_text (front ++ before)

beginning : (front p : FieldPath) (text : List ℕ) → is_among text (beginnings (path_text front) p) ≡ true → IsBeginning front p text
beginning front [] text e = absurd (cc)
beginning front (t ∷ p) text e = elim (bool_cases (bytes_eq text (below (path_text front) t))) [
  | inl same ↦ record { before = t ∷ []; rest = p; whole = refl; text_is = same_name text (below (path_text front) t) same ∙ text_below front t }
  | inr other ↦
      let later : is_among text (beginnings (below (path_text front) t) p) ≡ true = rw other at e in
      let b = beginning (front ++ t ∷ []) p text (subst (λ x. is_among text (beginnings x p) ≡ true) (text_below front t) later) in
      record { before = t ∷ b.before; rest = b.rest; whole = ap (λ x. t ∷ x) b.whole; text_is = b.text_is ∙ ap path_text (join_one front t b.before) }
]

-- a path that is no beginning of p
abbrev pub IsBeside : FieldPath → FieldPath → Type 0
IsBeside p c = (r : FieldPath) → c ++ r ≡ p → ⊥

not_among : OneText → (p c x : FieldPath) → IsBeside p c → is_among (path_text (c ++ x)) (beginnings [] p) ≡ false
not_among one p c x off = elim (bool_cases (is_among (path_text (c ++ x)) (beginnings [] p))) [
  | inr other ↦ other
  | inl among ↦
      let b = beginning [] p (path_text (c ++ x)) among in
      let same : c ++ x ≡ b.before = one (c ++ x) b.before b.text_is in
      absurd (off (x ++ b.rest) (sym (append_assoc c x b.rest) ∙ (ap (λ a. a ++ b.rest) same ∙ b.whole)))
]

module _ (one : OneText) {root : Node} {P Q : Pools} {p : FieldPath} (differ : DifferAlong root P Q p) where
  pub same_at : (c : FieldPath) → IsBeside p c → IsSameAt P Q (path_text c)
  same_at c off = differ.beside (path_text c) (subst (λ x. is_among (path_text x) (beginnings [] p) ≡ false) (append-nil c) (not_among one p c [] off))

  same_under : (c : FieldPath) → ((t : FieldStep) → IsBeside p (c ++ t ∷ [])) → AreSameBelow P Q (path_text c)
  same_under c off t x =
      let text : below (path_text c) t ++ path_text x ≡ path_text ((c ++ t ∷ []) ++ x) = ap (λ a. a ++ path_text x) (text_below c t) ∙ sym (text_join (c ++ t ∷ []) x) in
      subst (IsSameAt P Q) (sym text) (differ.beside (path_text ((c ++ t ∷ []) ++ x)) (not_among one p (c ++ t ∷ []) x (off t)))

longer_beside : (p c : FieldPath) (t : FieldStep) → IsBeside p c → IsBeside p (c ++ t ∷ [])
longer_beside p c t off r e = off (t ∷ r) (sym (join_one c t r) ∙ e)

-- beyond the end
end_beside : (p : FieldPath) (t : FieldStep) → IsBeside p (p ++ t ∷ [])
end_beside p t r e =
    let same : p ++ t ∷ r ≡ p ++ [] = sym (join_one p t r) ∙ (e ∙ sym (append-nil p)) in
    let bad : t ∷ r ≡ [] = append_cancel_left p (t ∷ r) [] same in
    cc

-- of two beginnings of a path one begins the other
data Nested (a b : FieldPath) : Type 0 where
  within : (x : FieldPath) → b ≡ a ++ x → Nested a b
  past : (t : FieldStep) (x : FieldPath) → a ≡ b ++ t ∷ x → Nested a b

nested : (a b r s : FieldPath) → a ++ r ≡ b ++ s → Nested a b
nested [] b r s e = within b refl
nested (t ∷ a) [] r s e = past t a refl
nested (t ∷ a) (u ∷ b) r s e =
    let head : t ≡ u = cc in
    elim (nested a b r s (cc)) [
      | within x same ↦ within x (rw (head, same) refl)
      | past v x same ↦ past v x (rw (head, same) refl)
    ]

past_end : (xs : List Site) (i : ℕ) → length xs ≤ i → site_at xs i ≡ no_site
past_end [] i l = refl
past_end (x ∷ xs) zero l = absurd (omega arith)
past_end (x ∷ xs) (suc i) l = past_end xs i (omega arith)

-- ---- sites beside the way

module _ (one : OneText) {root : Node} {P Q : Pools} {p : FieldPath} {sites others : List Site} (way : IsWay root P Q p sites others) where
  -- the path of a site
  abbrev path_at : (j : ℕ) → j < length sites → FieldPath
  path_at j l = (way.placed j l).front

  pub alike : AreAlike P Q sites others
  alike j same = elim (cases_lt j (length sites)) as (λ _. site_at others j ≡ site_at sites j) [
    | inl l ↦
        let s = site_at sites j in
        way.others_are j l ∙ ap (λ f. record { node = s.node; keys = s.keys; path = s.path; fixed = f }) (same.1 ∙ sym (way.placed j l).fixed_is)
    | inr after ↦ past_end others j (omega (arith, way.count)) ∙ sym (past_end sites j after)
  ]

  -- the same entry is right for a site beside it
  pub beside_right : {Z : Type 0} (holds : Z → ℕ → Type 0) (limit : ℕ) (v : Values) (j : ℕ) (e : Entry Z) (l : j < length sites) → IsBeside p (path_at j l) → IsRight holds limit P v sites j e → IsRight holds limit Q v others j e
  beside_right holds limit v j e l off right =
      let c = path_at j l in
      let is = (way.placed j l).path_is in
      let here : site_at others j ≡ site_at sites j = alike j (subst (IsSameAt P Q) (sym is) (same_at one way.differ c off)) in
      right_over holds limit P Q v sites others way.lists alike j e here (subst (AreSameBelow P Q) (sym is) (same_under one way.differ c (λ t. longer_beside p c t off))) right

  -- a site after the child of one on the way, and before that
  between_beside : (front rest : FieldPath) (t : FieldStep) (n k j : ℕ) (l : j < length sites) → front ++ t ∷ rest ≡ p → n < length sites → (site_at sites n).path ≡ path_text front → (site_at sites k).path ≡ path_text (front ++ t ∷ [])
      → k < j → j < n → IsBeside p (path_at j l)
  between_beside front rest t n k j l whole inside here child after before r e =
      let c = path_at j l in
      let is = (way.placed j l).path_is in
      elim (nested c front r (t ∷ rest) (e ∙ sym whole)) [
        | within x same ↦ (way.ordered j n before inside).apart x (here ∙ (ap path_text same ∙ (text_join c x ∙ ap (λ a. a ++ path_text x) (sym is))))
        | past u x same ↦
            let steps : u ∷ (x ++ r) ≡ t ∷ rest = append_cancel_left front (u ∷ (x ++ r)) (t ∷ rest) (sym (append_assoc front (u ∷ x) r) ∙ (ap (λ a. a ++ r) (sym same) ∙ (e ∙ sym whole))) in
            let head : u ≡ t = cc in
            let on : c ≡ (front ++ t ∷ []) ++ x = same ∙ (ap (λ s. front ++ s ∷ x) head ∙ sym (join_one front t x)) in
            (way.ordered k j after l).apart x (is ∙ (ap path_text on ∙ (text_join (front ++ t ∷ []) x ∙ ap (λ a. a ++ path_text x) (sym child))))
      ]

  -- a site before a leaf on the way
  leaf_beside : (front rest : FieldPath) (n j : ℕ) (l : j < length sites) → front ++ rest ≡ p → n < length sites → (site_at sites n).path ≡ path_text front → sort_of (site_at sites n) ≡ Leaf → j < n → IsBeside p (path_at j l)
  leaf_beside front rest n j l whole inside here leaf before r e =
      let c = path_at j l in
      let is = (way.placed j l).path_is in
      let order = way.ordered j n before inside in
      elim (nested c front r rest (e ∙ sym whole)) [
        | within x same ↦ order.apart x (here ∙ (ap path_text same ∙ (text_join c x ∙ ap (λ a. a ++ path_text x) (sym is))))
        | past u x same ↦ order.open_above (u ∷ x) (is ∙ (ap path_text same ∙ (text_join front (u ∷ x) ∙ ap (λ a. a ++ path_text (u ∷ x)) (sym here)))) leaf
      ]

  -- a site before the end of the way
  end_before : (n j : ℕ) (l : j < length sites) → n < length sites → (site_at sites n).path ≡ path_text p → j < n → IsBeside p (path_at j l)
  end_before n j l inside here before r e =
      let c = path_at j l in
      let is = (way.placed j l).path_is in
      (way.ordered j n before inside).apart r (here ∙ (ap path_text (sym e) ∙ (text_join c r ∙ ap (λ a. a ++ path_text r) (sym is))))

  module _ {Z : Type 0} (holds : Z → ℕ → Type 0) (limit : ℕ) (v : Values) (old : List (Entry Z)) (count : length old ≡ length sites) (right : AreRight holds limit P v sites old) where
    at_old : (j : ℕ) (e : Entry Z) → j < length sites → IsRight holds limit P v sites j (get_or old j e)
    at_old j e l = right j e (omega (arith, count))

    -- all before a site on the way, where all up to its child are right and nothing after the child has changed
    pub right_between : (front rest : FieldPath) (t : FieldStep) (n k : ℕ) (new : List (Entry Z)) → front ++ t ∷ rest ≡ p → n < length sites → (site_at sites n).path ≡ path_text front → (site_at sites k).path ≡ path_text (front ++ t ∷ [])
        → AreRightBelow holds limit Q v others (k + 1) new → ((i : ℕ) (e : Entry Z) → k < i → get_or new i e ≡ get_or old i e) → AreRightBelow holds limit Q v others n new
    right_between front rest t n k new whole inside here child before same j e less = elim (cases_lt j (k + 1)) as (λ _. IsRight holds limit Q v others j (get_or new j e)) [
      | inl first ↦ before j e first
      | inr after ↦
          let l : j < length sites = omega arith in
          rw (same j e (omega arith)) (beside_right holds limit v j (get_or old j e) l (between_beside front rest t n k j l whole inside here child (omega arith) less) (at_old j e l))
    ]

    -- all before a leaf on the way
    pub right_leaf : (front rest : FieldPath) (n : ℕ) → front ++ rest ≡ p → n < length sites → (site_at sites n).path ≡ path_text front → sort_of (site_at sites n) ≡ Leaf → AreRightBelow holds limit Q v others n old
    right_leaf front rest n whole inside here leaf j e less =
        let l : j < length sites = omega arith in
        beside_right holds limit v j (get_or old j e) l (leaf_beside front rest n j l whole inside here leaf less) (at_old j e l)

    -- all up to the end of the way, where its values are not fixed
    pub right_end : (n : ℕ) → n < length sites → (site_at sites n).path ≡ path_text p → fixed_at (site_at sites n).path Q ≡ fixed_at (site_at sites n).path P → AreRightBelow holds limit Q v others (n + 1) old
    right_end n inside here same j e less = elim (cases_lt j n) as (λ _. IsRight holds limit Q v others j (get_or old j e)) [
      | inl before ↦ let l : j < length sites = omega arith in beside_right holds limit v j (get_or old j e) l (end_before n j l inside here before) (at_old j e l)
      | inr after ↦
          let is : j ≡ n = omega arith in
          let s = site_at sites n in
          let alike_here : site_at others n ≡ site_at sites n = way.others_are n inside ∙ ap (λ f. record { node = s.node; keys = s.keys; path = s.path; fixed = f }) (same ∙ sym (way.placed n inside).fixed_is) in
          rw is (right_over holds limit P Q v sites others way.lists alike n (get_or old n e) alike_here (subst (AreSameBelow P Q) (sym here) (same_under one way.differ p (λ t. end_beside p t))) (at_old n e inside))
    ]

-- one entry more
pub right_one : {Z : Type 0} (holds : Z → ℕ → Type 0) (limit : ℕ) (P : Pools) (v : Values) (sites : List Site) (n : ℕ) (mid new : List (Entry Z)) → AreRightBelow holds limit P v sites n mid
    → ((i : ℕ) (e : Entry Z) → i < n → get_or new i e ≡ get_or mid i e) → ((e : Entry Z) → IsRight holds limit P v sites n (get_or new n e)) → AreRightBelow holds limit P v sites (n + 1) new
right_one holds limit P v sites n mid new before same here j e less = elim (cases_lt j n) as (λ _. IsRight holds limit P v sites j (get_or new j e)) [
  | inl first ↦ rw (same j e first) (before j e first)
  | inr after ↦ let is : j ≡ n = omega arith in rw is (here e)
]
