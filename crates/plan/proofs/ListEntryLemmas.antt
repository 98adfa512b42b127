-- How many tuples the keys of slots have, from the last slot to the first.
use Rattle.std.specs.Prelude.{◌≡◌, ℕ, zero, suc, drop, ◌+◌, ◌-◌, ◌*◌, ◌^◌, ◌≤◌, ◌<◌, true, false, List, min, get_or, length, reverse}
use Rattle.std.proofs.Common.{refl, inl, inr, arith, [], ◌∷◌}
use Rattle.std.proofs.lemmas.Bool.{cases_lt}
use Rattle.std.proofs.lemmas.List.{length-reverse, get_or-reverse}
use Rattle.std.proofs.Math.Nat.{mul_comm, mul-le-mul_left, mul-le-mul_right}
use Rattle.plan.specs.Pools.Pools.{Pools}
use Rattle.plan.specs.Samples.Sites.{Site, Slot}
use Rattle.plan.specs.Samples.Candidates.{HasCount}
use Rattle.plan.specs.Samples.Part.{IsPart}
use Rattle.plan.specs.Samples.NoDeadEnd.{product}
use Rattle.plan.specs.Internal.Arena.{IsSlot, AreSlots, AreLater}
use Rattle.plan.specs.Samples.Keys.{AreKeySlots, HasTuples}
use Rattle.plan.specs.declared.arena.SlotEntry.{SlotEntry}
use Rattle.plan.proofs.EntryLemmas.{slot_count}
use Rattle.plan.proofs.MapListLemmas.{later_keys}
use Rattle.plan.proofs.RowLemmas.{drop_all}

above : (p x top : ℕ) → top < p → min (top * x) top ≡ min (p * x) top
above p zero top l = omega arith
above p (suc x) top l =
    let a : top ≤ top * suc x = omega (arith, mul-le-mul_left top (let h : 1 ≤ suc x = omega arith in h)) in
    let b : top * suc x ≤ p * suc x = mul-le-mul_right (suc x) (let h : top ≤ p = omega arith in h) in
    omega (arith, a, b)

-- a product that saturates
capped : (p x top : ℕ) → min (min p top * x) top ≡ min (p * x) top
capped p x top = elim (cases_lt top p) as (λ _. min (min p top * x) top ≡ min (p * x) top) [
  | inr l ↦ let e : min p top ≡ p = omega arith in rw e refl
  | inl l ↦ let e : min p top ≡ top = omega arith in rw e (above p x top l)
]

pub no_tuples : (P : Pools) → HasTuples P [] 1
no_tuples P = ([], (tt, omega arith))

-- one slot more, before the others
pub key_first : (P : Pools) (s : Slot) (ss : List Slot) (n c : ℕ) → s.key ≡ true → HasTuples P ss n → HasCount (IsPart P s.site) c → HasTuples P (s ∷ ss) (min (n * c) (2 ^ 64 - 1))
key_first P s ss n c key h k = rw key (c ∷ h.0, ((k, h.1.0), rw (h.1.1, mul_comm c (product h.0)) (capped (product h.0) c (2 ^ 64 - 1))))

pub other_first : (P : Pools) (s : Slot) (ss : List Slot) (n : ℕ) → s.key ≡ false → HasTuples P ss n → HasTuples P (s ∷ ss) n
other_first P s ss n key h = rw key h

-- ---- the slots from a place on

abbrev pub HasTuplesFrom : Pools → List Slot → ℕ → ℕ → Type 0
HasTuplesFrom P ss place n = AreKeySlots P (drop place ss) → HasTuples P (drop place ss) n

-- the numbers for each place, the last place first
abbrev pub AreTuplesBack : Pools → List Slot → ℕ → List ℕ → Type 0
AreTuplesBack P ss count ns = (k n : ℕ) → k < length ns → HasTuplesFrom P ss (count - k) (get_or ns k n)

slot_from : (names : List (List ℕ)) (sites : List Site) (i : ℕ) (xs : List SlotEntry) (ss : List Slot) (place : ℕ) (x : SlotEntry) → AreSlots names sites i xs ss → place < length xs
    → (s : Slot) × (drop place ss ≡ s ∷ drop (suc place) ss) × IsSlot names sites i (get_or xs place x) s
slot_from names sites i [] ss place x h l = absurd (omega arith)
slot_from names sites i (y ∷ xs) [] place x h l = absurd h
slot_from names sites i (y ∷ xs) (s ∷ ss) zero x h l = (s, refl, h.0)
slot_from names sites i (y ∷ xs) (s ∷ ss) (suc place) x h l = slot_from names sites i xs ss place x h.1 (omega arith)

pub tuples_end : (P : Pools) (names : List (List ℕ)) (sites : List Site) (i : ℕ) (xs : List SlotEntry) (ss : List Slot) → AreSlots names sites i xs ss → HasTuplesFrom P ss (length xs) 1
tuples_end P names sites i xs ss h = rw (slot_count names sites i xs ss h, drop_all ss) (λ keys. no_tuples P)

pub tuples_next : (P : Pools) (names : List (List ℕ)) (sites : List Site) (i : ℕ) (xs : List SlotEntry) (ss : List Slot) (place : ℕ) (x : SlotEntry) (n m : ℕ) → AreSlots names sites i xs ss → place < length xs → x ≡ get_or xs place x
    → ((s : Slot) (rest : List Slot) → IsSlot names sites i x s → AreKeySlots P (s ∷ rest) → HasTuples P rest n → HasTuples P (s ∷ rest) m) → HasTuplesFrom P ss (suc place) n → HasTuplesFrom P ss place m
tuples_next P names sites i xs ss place x n m h l is step after =
    let s = slot_from names sites i xs ss place x h l in
    rw s.1 (λ keys. step s.0 (drop (suc place) ss) (rw (← is) at s.2) keys (after (later_keys P s.0 (drop (suc place) ss) keys)))

-- in the order of the slots
pub tuples_later : (P : Pools) (ss : List Slot) (count : ℕ) (ns : List ℕ) → length ns ≡ count → AreTuplesBack P ss count ns → AreLater P ss (reverse ns)
tuples_later P ss count ns whole h k n l =
    let inside : k < length ns = omega (arith, length-reverse ns, l) in
    let place : count - (length ns - 1 - k) ≡ k + 1 = omega arith in
    rw (get_or-reverse ns k n inside) (rw place at (h (length ns - 1 - k) n (omega arith)))
