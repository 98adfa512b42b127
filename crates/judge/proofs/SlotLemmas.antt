-- The names of an object, with those that are missing.
use Rattle.std.proofs.Common.{◌≡◌, ◌≤◌, ◌<◌, ◌+◌, ℕ, zero, suc, List, [], ◌∷◌, ◌++◌, length, take, drop, get_or, Some, Bor, refl, sym, ap, ◌∙◌, arith, append_assoc}
use Rattle.std.specs.Ordering.{match_ordering}
use Rattle.std.specs.declared.cmp.Ordering.{Ordering}
use Rattle.std.specs.declared.cmp.Ordering.TheVariants.{Less, Equal, Greater}
use Rattle.std.proofs.lemmas.List.{drop_more, take_more, at_drop_all, map-append, take-append-drop}
use Rattle.jtree.specs.Data.{Data, Members, no_members, member, members_depth}
use Rattle.jtree.specs.Order.{text_cmp}
use Rattle.jtree.specs.View.{data_of}
use Rattle.jtree.specs.declared.value.Tree.{Tree}
use Rattle.judge.specs.Asked.{required, required_by, schemas_of}
use Rattle.judge.specs.Faults.{Asking}
use Rattle.judge.specs.Internal.FaultsByLevel.{Named, named_by, slots_of, member_slots, no_value, with_slot, with_slots, slot_parts, no_part, with_part, with_parts, member_parts, slots_depth, value_depth}
use Rattle.judge.specs.declared.slots.Slot.{Slot}

-- ---- a name is added in its place

-- what stands before an index, and what is left with the name
abbrev pub added_past : List ℕ → List Slot → ℕ → List Named
added_past k xs i = slots_of (take i xs) ++ with_slot k (slots_of (drop i xs))

past : (k : List ℕ) (x : Slot) (xs : List Slot) → text_cmp k x.name.now ≡ Greater → with_slot k (slots_of (x ∷ xs)) ≡ named_by x ∷ with_slot k (slots_of xs)
past k x xs e = rw e refl

pub past_more : (k : List ℕ) (xs : List Slot) (i : ℕ) (x : Slot) → i < length xs → x ≡ get_or xs i x → text_cmp k x.name.now ≡ Greater
    → with_slot k (slots_of xs) ≡ added_past k xs i → with_slot k (slots_of xs) ≡ added_past k xs (i + 1)
past_more k xs i x within is e h =
    let rest = drop (i + 1) xs in
    let split : drop i xs ≡ x ∷ rest = drop_more xs i x within ∙ ap (λ y. y ∷ rest) (sym is) in
    let taken : take (i + 1) xs ≡ take i xs ++ (x ∷ []) = take_more xs i x within ∙ ap (λ y. take i xs ++ (y ∷ [])) (sym is) in
    let joined_up : slots_of (take i xs ++ (x ∷ [])) ++ with_slot k (slots_of rest) ≡ slots_of (take i xs) ++ (named_by x ∷ with_slot k (slots_of rest)) = rw (map-append, append_assoc) refl in
    h ∙ (ap (λ ys. slots_of (take i xs) ++ with_slot k (slots_of ys)) split
    ∙ (ap (λ zs. slots_of (take i xs) ++ zs) (past k x rest e) ∙ (sym joined_up ∙ ap (λ ys. slots_of ys ++ with_slot k (slots_of rest)) (sym taken))))

-- it comes before the one at the index, or after all
pub put_here : (k : List ℕ) (xs : List Slot) (i : ℕ) (x : Slot) → i < length xs → x ≡ get_or xs i x → text_cmp k x.name.now ≡ Less
    → with_slot k (slots_of xs) ≡ added_past k xs i → with_slot k (slots_of xs) ≡ slots_of (take i xs) ++ (no_value k ∷ slots_of (drop i xs))
put_here k xs i x within is e h =
    let rest = drop (i + 1) xs in
    let split : drop i xs ≡ x ∷ rest = drop_more xs i x within ∙ ap (λ y. y ∷ rest) (sym is) in
    let first : with_slot k (slots_of (x ∷ rest)) ≡ no_value k ∷ slots_of (x ∷ rest) = rw e refl in
    h ∙ ap (λ zs. slots_of (take i xs) ++ zs) (ap (λ ys. with_slot k (slots_of ys)) split ∙ (first ∙ ap (λ ys. no_value k ∷ slots_of ys) (sym split)))

-- it is there
pub not_put : (k : List ℕ) (xs : List Slot) (i : ℕ) (x : Slot) → i < length xs → x ≡ get_or xs i x → text_cmp k x.name.now ≡ Equal
    → with_slot k (slots_of xs) ≡ added_past k xs i → with_slot k (slots_of xs) ≡ slots_of xs
not_put k xs i x within is e h =
    let rest = drop (i + 1) xs in
    let split : drop i xs ≡ x ∷ rest = drop_more xs i x within ∙ ap (λ y. y ∷ rest) (sym is) in
    let first : with_slot k (slots_of (x ∷ rest)) ≡ slots_of (x ∷ rest) = rw e refl in
    h ∙ (ap (λ zs. slots_of (take i xs) ++ zs) (ap (λ ys. with_slot k (slots_of ys)) split ∙ (first ∙ ap slots_of (sym split)))
    ∙ (sym (map-append named_by (take i xs) (drop i xs)) ∙ ap slots_of (take-append-drop i xs)))

pub put_last : (k : List ℕ) (xs : List Slot) (i : ℕ) → length xs ≤ i → with_slot k (slots_of xs) ≡ added_past k xs i
    → with_slot k (slots_of xs) ≡ slots_of (take i xs) ++ (no_value k ∷ slots_of (drop i xs))
put_last k xs i end h =
    h ∙ ap (λ zs. slots_of (take i xs) ++ zs) (at_drop_all (λ ys. with_slot k (slots_of ys)) xs i end ∙ sym (at_drop_all (λ ys. no_value k ∷ slots_of ys) xs i end))

-- ---- names are added one after another

with_slots-append : (ks ls : List (List ℕ)) (ss : List Named) → with_slots (ks ++ ls) ss ≡ with_slots ls (with_slots ks ss)
with_slots-append [] ls ss = refl
with_slots-append (k ∷ ks) ls ss = with_slots-append ks ls (with_slot k ss)

pub schemas_more : (ss : List (Bor Tree)) (i : ℕ) (x : Bor Tree) (old new z : List Named) → i < length ss → x ≡ get_or ss i x → new ≡ with_slots (required_by (data_of x.now)) old
    → with_slots (required (schemas_of (drop i ss))) old ≡ z → with_slots (required (schemas_of (drop (i + 1) ss))) new ≡ z
schemas_more ss i x old new z within is e h =
    let rest = drop (i + 1) ss in
    let split : drop i ss ≡ x ∷ rest = drop_more ss i x within ∙ ap (λ y. y ∷ rest) (sym is) in
    ap (with_slots (required (schemas_of rest))) e
    ∙ (sym (with_slots-append (required_by (data_of x.now)) (required (schemas_of rest)) old) ∙ (ap (λ ys. with_slots (required (schemas_of ys)) old) (sym split) ∙ h))

-- ---- the parts of the names

module _ (ask : Asking) (ss : List Data) where
  slot_step : (k : List ℕ) (s : Named) (slots : List Named) → slot_parts ask ss (with_slot k slots) ≡ with_part ask k (slot_parts ask ss slots) → (o : Ordering)
      → slot_parts ask ss (match_ordering o (no_value k ∷ s ∷ slots) (s ∷ slots) (s ∷ with_slot k slots))
      ≡ match_ordering o (no_part ask k ∷ slot_parts ask ss (s ∷ slots)) (slot_parts ask ss (s ∷ slots)) (slot_parts ask ss (s ∷ []) ++ with_part ask k (slot_parts ask ss slots))
  slot_step k s slots h Less = refl
  slot_step k s slots h Equal = refl
  slot_step k s slots h Greater = ap (λ bs. slot_parts ask ss (s ∷ []) ++ bs) h

  slots_with : (k : List ℕ) (slots : List Named) → slot_parts ask ss (with_slot k slots) ≡ with_part ask k (slot_parts ask ss slots)
  slots_with k [] = refl
  slots_with k (s ∷ slots) = slot_step k s slots (slots_with k slots) (text_cmp k s.name)

  slots_with_all : (ks : List (List ℕ)) (slots : List Named) → slot_parts ask ss (with_slots ks slots) ≡ with_parts ask ks (slot_parts ask ss slots)
  slots_with_all [] slots = refl
  slots_with_all (k ∷ ks) slots = slots_with_all ks (with_slot k slots) ∙ ap (with_parts ask ks) (slots_with k slots)

  members_slots : (ms : Members) → slot_parts ask ss (member_slots ms) ≡ member_parts ask ms ss
  members_slots no_members = refl
  members_slots (member k d ms) = ap (λ bs. slot_parts ask ss (record { name = k; value = Some d } ∷ []) ++ bs) (members_slots ms)

  pub all_slots : (ks : List (List ℕ)) (ms : Members) → slot_parts ask ss (with_slots ks (member_slots ms)) ≡ with_parts ask ks (member_parts ask ms ss)
  all_slots ks ms = slots_with_all ks (member_slots ms) ∙ ap (with_parts ask ks) (members_slots ms)

-- ---- how deep the values nest

depth_step : (k : List ℕ) (s : Named) (slots : List Named) → slots_depth (with_slot k slots) ≡ slots_depth slots → (o : Ordering)
    → slots_depth (match_ordering o (no_value k ∷ s ∷ slots) (s ∷ slots) (s ∷ with_slot k slots)) ≡ slots_depth (s ∷ slots)
depth_step k s slots h Less = omega arith
depth_step k s slots h Equal = refl
depth_step k s slots h Greater = omega (arith, h)

depth_with : (k : List ℕ) (slots : List Named) → slots_depth (with_slot k slots) ≡ slots_depth slots
depth_with k [] = omega arith
depth_with k (s ∷ slots) = depth_step k s slots (depth_with k slots) (text_cmp k s.name)

depth_with_all : (ks : List (List ℕ)) (slots : List Named) → slots_depth (with_slots ks slots) ≡ slots_depth slots
depth_with_all [] slots = refl
depth_with_all (k ∷ ks) slots = depth_with_all ks (with_slot k slots) ∙ depth_with k slots

depth_of_members : (ms : Members) → slots_depth (member_slots ms) ≡ members_depth ms
depth_of_members no_members = refl
depth_of_members (member k d ms) = omega (arith, depth_of_members ms)

pub all_depth : (ks : List (List ℕ)) (ms : Members) → slots_depth (with_slots ks (member_slots ms)) ≡ members_depth ms
all_depth ks ms = depth_with_all ks (member_slots ms) ∙ depth_of_members ms

pub slot_depth : (xs : List Slot) (i : ℕ) (d : Slot) → i < length xs → value_depth (Named.value (named_by (get_or xs i d))) ≤ slots_depth (slots_of xs)
slot_depth [] i d h = absurd (omega arith)
slot_depth (x ∷ xs) zero d h = omega arith
slot_depth (x ∷ xs) (suc i) d h = omega (arith, slot_depth xs i d (omega arith))
