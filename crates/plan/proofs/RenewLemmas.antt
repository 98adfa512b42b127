-- What is made anew along a way.
use Rattle.std.proofs.Common.{◌≡◌, ◌<◌, ◌≤◌, ◌+◌, ℕ, zero, suc, List, [], ◌∷◌, Bool, refl, sym, ap, subst, ◌∙◌, inl, inr, arith, length, get_or, set}
use Rattle.std.specs.Prelude.{option_map}
use Rattle.std.proofs.lemmas.Bool.{cases_lt}
use Rattle.std.proofs.lemmas.List.{get_or_default}
use Rattle.jtree.specs.View.{data_of}
use Rattle.schema.specs.Nodes.View.{node_of, fields_of}
use Rattle.schema.specs.declared.node.Field.{Field}
use Rattle.std.specs.Prelude.{◌≢◌, ◌^◌, All, IfSome}
use Rattle.std.proofs.lemmas.List.{get_or-set_same, get_or-set_other, length-set}
use Rattle.schema.specs.Nodes.Node.{IsNode, Validations}
use Rattle.schema.specs.Nodes.Junctors.{most_named}
use Rattle.schema.specs.declared.node.Bounds.{Bounds}
use Rattle.plan.specs.Pools.Pools.{Pools}
use Rattle.plan.specs.Samples.Sites.{Site, site_at, slots}
use Rattle.plan.specs.Samples.Candidates.{sort_of}
use Rattle.plan.specs.Samples.Sizes.{ending_of}
use Rattle.plan.specs.Samples.RuleOfParts.{admits_null}
use Rattle.plan.specs.Internal.Tables.{IsClosed, AreMet}
use Rattle.plan.specs.Internal.Arena.{IsRight, AreRightBelow, AreSlots, slots_in, with_must}
use Rattle.plan.specs.Internal.Renewed.{IsRowRemade, IsFieldAt}
use Rattle.plan.specs.declared.values.Values.{Values}
use Rattle.plan.specs.declared.arena.SlotEntry.{SlotEntry}
use Rattle.plan.specs.declared.arena.Entry.{Entry}
use Rattle.plan.specs.declared.sort.Sort.TheVariants.{Row}
use Rattle.plan.proofs.SeenLemmas.{closed_of}

-- one index more
pub all_more : {X : Type 0} (R : X → Type 0) (xs : List X) (i : ℕ) (x : X) → i < length xs → x ≡ get_or xs i x → ((k : ℕ) (d : X) → k < i → R (get_or xs k d)) → R x → (k : ℕ) (d : X) → k < i + 1 → R (get_or xs k d)
all_more R xs i x l is before here k d less = elim (cases_lt k i) as (λ _. R (get_or xs k d)) [
  | inl first ↦ before k d first
  | inr after ↦ let same : k ≡ i = omega arith in rw (same, get_or_default xs i d x l, ← is) here
]

-- ---- slots

pub must_set : (must : Bool) (xs : List SlotEntry) (place : ℕ) (s : SlotEntry) → place < length xs → s ≡ get_or xs place s
    → set xs place (record { name = s.name; node = s.node; must = must; key = s.key; bit = s.bit }) ≡ with_must place must xs
must_set must [] place s l is = absurd (omega arith)
must_set must (x ∷ xs) zero s l is = rw is refl
must_set must (x ∷ xs) (suc place) s l is = ap (λ ys. x ∷ ys) (must_set must xs place s (omega arith) is)

pub must_past : (must : Bool) (xs : List SlotEntry) (place : ℕ) → length xs ≤ place → xs ≡ with_must place must xs
must_past must [] place l = refl
must_past must (x ∷ xs) zero l = absurd (omega arith)
must_past must (x ∷ xs) (suc place) l = ap (λ ys. x ∷ ys) (must_past must xs place (omega arith))

-- ---- fields

pub placed_field : (name : List ℕ) (xs : List Field) (i : ℕ) (x : Field) → i < length xs → x ≡ get_or xs i x → x.name ≡ name → IsFieldAt i name (node_of x.node) x.required (option_map data_of x.default) (fields_of xs)
placed_field name [] i x l is named = absurd (omega arith)
placed_field name (y ∷ xs) zero x l is named = (ap (λ f. Field.name f) (sym is) ∙ named, ap (λ f. node_of (Field.node f)) (sym is), ap (λ f. Field.required f) (sym is), ap (λ f. option_map data_of (Field.default f)) (sym is))
placed_field name (y ∷ xs) (suc i) x l is named = placed_field name xs i x (omega arith) is named

-- what does not depend on whether a slot has to be filled
must_all : (R : SlotEntry → Type 0) → ((s : SlotEntry) (must : Bool) → R s → R (record { name = s.name; node = s.node; must = must; key = s.key; bit = s.bit })) → (must : Bool) (xs : List SlotEntry) (place : ℕ) → All R xs → All R (with_must place must xs)
must_all R any must [] place h k d l = absurd (omega arith)
must_all R any must (x ∷ xs) zero h zero d l = any x must (h zero x (omega arith))
must_all R any must (x ∷ xs) zero h (suc k) d l = h (suc k) d (omega arith)
must_all R any must (x ∷ xs) (suc place) h zero d l = h zero x (omega arith)
must_all R any must (x ∷ xs) (suc place) h (suc k) d l = must_all R any must xs place (λ j e m. h (suc j) e (omega arith)) k d (omega arith)

pub must_below : (must : Bool) (xs : List SlotEntry) (place n : ℕ) → All (λ (s : SlotEntry). s.node < n) xs → All (λ (s : SlotEntry). s.node < n) (with_must place must xs)
must_below must xs place n h = must_all (λ s. s.node < n) (λ s m l. l) must xs place h

pub must_closed : (must : Bool) (xs : List SlotEntry) (place n : ℕ) → n ≤ most_named → All (λ (s : SlotEntry). IfSome s.bit (λ j. j < n)) xs → All (λ (s : SlotEntry). IsClosed (2 ^ n) s.bit) (with_must place must xs)
must_closed must xs place n few h = must_all (λ s. IsClosed (2 ^ n) s.bit) (λ s m c. c) must xs place (λ k d l. closed_of n (SlotEntry.bit (get_or xs k d)) few (h k d l))

-- ---- entries put in place of others

-- the entry of a row, of which the first form is put aside
pub row_remade : {Z : Type 0} (holds : Z → ℕ → Type 0) (limit : ℕ) (v : Values) (n : ℕ) (bounds : Bounds) (named : List (List ℕ)) (ends : List Bool) (place : ℕ) (must nullable : Bool) (old mid new : List (Entry Z)) (aside found entry : Entry Z)
    → mid ≡ set old n aside → new ≡ set mid n entry → (n < length old → found ≡ get_or old n found)
    → ((Q : Pools) (sites : List Site) (i : ℕ) (cs : Validations) → AreRightBelow holds limit Q v sites i mid → i ≤ length mid → IsNode (site_at sites i).node → sort_of (site_at sites i) ≡ Row → ending_of Q (site_at sites i) ≡ record { bounds = bounds; asked = cs } → AreMet cs ends
    → admits_null Q (site_at sites i) ≡ nullable → AreSlots v.names.items sites i (with_must place must (slots_in found.content)) (slots Q (site_at sites i)) → IsRight holds limit Q v sites i entry)
    → IsRowRemade holds limit v n bounds named ends place must nullable old new
row_remade {Z = Z} holds limit v n bounds named ends place must nullable old mid new aside found entry first second is made = record {
  count = rw (second, length-set, first, length-set) refl;
  others = λ i e other. rw (second, get_or-set_other mid n i entry e other, first, get_or-set_other old n i aside e other) refl;
  right = λ Q sites cs e f inside before o sort ending met null nodes bits are.
      let within : n < length mid = rw (first, length-set) inside in
      let same : get_or old n e ≡ found = get_or_default old n e found inside ∙ sym (is inside) in
      let rights : AreRightBelow holds limit Q v sites n mid = λ i x l.
      let other : i ≢ n = omega arith in
      rw (first, get_or-set_other old n i aside x other) (before i x l)
      in
      rw (second, get_or-set_same mid n entry f within) (made Q sites n cs rights (omega arith) o sort ending met null (subst (λ (x : Entry Z). AreSlots v.names.items sites n (with_must place must (slots_in x.content)) (slots Q (site_at sites n))) same are));
}

-- an entry that was no such row
pub row_aside : {Z : Type 0} (holds : Z → ℕ → Type 0) (limit : ℕ) (v : Values) (n : ℕ) (bounds : Bounds) (named : List (List ℕ)) (ends : List Bool) (place : ℕ) (must nullable : Bool) (old mid : List (Entry Z)) (aside found : Entry Z)
    → mid ≡ set old n aside → (n < length old → found ≡ get_or old n found)
    → (n < length old → All (λ (s : SlotEntry). s.node < length old) (slots_in found.content) → All (λ (s : SlotEntry). IfSome s.bit (λ j. j < length named)) (slots_in found.content) → ⊥)
    → IsRowRemade holds limit v n bounds named ends place must nullable old mid
row_aside {Z = Z} holds limit v n bounds named ends place must nullable old mid aside found first is never = record {
  count = rw (first, length-set) refl;
  others = λ i e other. rw (first, get_or-set_other old n i aside e other) refl;
  right = λ Q sites cs e f inside before o sort ending met null nodes bits are.
      let same : get_or old n e ≡ found = get_or_default old n e found inside ∙ sym (is inside) in
      let wide : All (λ (s : SlotEntry). s.node < length old) (slots_in (get_or old n e).content) = λ k d l. let h = nodes k d l in omega arith in
      absurd (never inside (subst (λ (x : Entry Z). All (λ (s : SlotEntry). s.node < length old) (slots_in x.content)) same wide)
      (subst (λ (x : Entry Z). All (λ (s : SlotEntry). IfSome s.bit (λ j. j < length named)) (slots_in x.content)) same bits));
}
