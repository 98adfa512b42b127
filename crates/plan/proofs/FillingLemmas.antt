-- The members of an object, as the content of slots.
use Rattle.std.proofs.Common.{◌≡◌, ℕ, ◌+◌, List, [], ◌∷◌, true, false, Option, Some, None, refl, ap, sym, ◌∙◌, subst, inl, inr}
use Rattle.std.specs.Str.{bytes_eq}
use Rattle.std.specs.declared.cmp.Ordering.TheVariants.{Less}
use Rattle.std.proofs.lemmas.Option.{same_Some}
use Rattle.jtree.specs.Data.{Data, Members, no_members, member, IsNameBefore, AreMembers}
use Rattle.jtree.specs.Nodes.{node_count, members_count}
use Rattle.jtree.specs.Order.{text_cmp}
use Rattle.jtree.specs.Path.{member_at}
use Rattle.jtree.specs.Internal.Lookups.{bool_cases, option_cases, same_name, later_name, not_itself, member_first, member_later, member_tail, before_each, before_none}
use Rattle.jtree.specs.Internal.Rising.{Among, contains}
use Rattle.plan.specs.Pools.Pools.{Pools}
use Rattle.plan.specs.Samples.Part.{IsPart}
use Rattle.plan.specs.Samples.Sites.{Slot}
use Rattle.plan.specs.Samples.Sizes.{AreFillings, filled_nodes}
use Rattle.plan.specs.Samples.RuleOfParts.{members_in}
use Rattle.plan.specs.Samples.Keys.{AreInOrder}

-- the members are parts under the names of slots, and none is absent that must be there
pub record AreInSlots (P : Pools) (ss : List Slot) (ms : Members) : Type 0 where
  pub named : (k : List ℕ) (w : Data) → member_at k ms ≡ Some w → (s : Slot) × Among ss s × (s.name ≡ k) × IsPart P s.site w
  pub present : (s : Slot) → Among ss s → s.must ≡ true → member_at s.name ms ≡ None → ⊥

-- ---- the content of slots

in_named : (P : Pools) (ss : List Slot) (gs : List (Option Data)) → AreFillings P ss gs → (k : List ℕ) (w : Data) → member_at k (members_in ss gs) ≡ Some w → (s : Slot) × Among ss s × (s.name ≡ k) × IsPart P s.site w
in_named P [] [] h k w is = absurd (cc)
in_named P [] (g ∷ gs) h k w is = absurd h
in_named P (s ∷ ss) [] h k w is = absurd h
in_named P (s ∷ ss) (None ∷ gs) h k w is = let r = in_named P ss gs h.1 k w is in (r.0, inr r.1, r.2, r.3)
in_named P (s ∷ ss) (Some v ∷ gs) h k w is = elim (bool_cases (bytes_eq k s.name)) [
  | inl t ↦ (s, inl refl, sym (same_name k s.name t), subst (IsPart P s.site) (same_Some v w (rw t at is)) h.0)
  | inr o ↦ let r = in_named P ss gs h.1 k w (sym (member_later k s.name v (members_in ss gs) o) ∙ is) in (r.0, inr r.1, r.2, r.3)
]

in_before : (k : List ℕ) (ss : List Slot) (gs : List (Option Data)) → ((s : Slot) → Among ss s → text_cmp k s.name ≡ Less) → IsNameBefore k (members_in ss gs)
in_before k [] gs h = tt
in_before k (s ∷ ss) [] h = tt
in_before k (s ∷ ss) (None ∷ gs) h = in_before k ss gs (λ t a. h t (inr a))
in_before k (s ∷ ss) (Some v ∷ gs) h = h s (inl refl)

pub in_members : (P : Pools) (ss : List Slot) (gs : List (Option Data)) → AreInOrder ss → AreFillings P ss gs → AreMembers (members_in ss gs)
in_members P [] gs o h = tt
in_members P (s ∷ ss) [] o h = tt
in_members P (s ∷ ss) (None ∷ gs) o h = in_members P ss gs o.1 h.1
in_members P (s ∷ ss) (Some v ∷ gs) o h = (h.0.tree, in_before s.name ss gs (λ t a. o.0 t (contains ss t a)), in_members P ss gs o.1 h.1)

in_present : (P : Pools) (ss : List Slot) (gs : List (Option Data)) → AreInOrder ss → AreFillings P ss gs → (s : Slot) → Among ss s → s.must ≡ true → member_at s.name (members_in ss gs) ≡ None → ⊥
in_present P [] gs o h s a must none = a
in_present P (t ∷ ss) [] o h s a must none = absurd h
in_present P (t ∷ ss) (None ∷ gs) o h s (inl e) must none = let no : t.must ≡ true = rw e must in let free = h.0 in cc
in_present P (t ∷ ss) (None ∷ gs) o h s (inr a) must none = in_present P ss gs o.1 h.1 s a must none
in_present P (t ∷ ss) (Some v ∷ gs) o h s (inl e) must none = let found = member_first s.name v (members_in ss gs) in let no = rw e at none in let x = sym found ∙ no in cc
in_present P (t ∷ ss) (Some v ∷ gs) o h s (inr a) must none = in_present P ss gs o.1 h.1 s a must (sym (member_later s.name t.name v (members_in ss gs) (later_name s.name t.name (o.0 s (contains ss s a)))) ∙ none)

pub in_slots : (P : Pools) (ss : List Slot) (gs : List (Option Data)) → AreInOrder ss → AreFillings P ss gs → AreInSlots P ss (members_in ss gs)
in_slots P ss gs o h = record { named = in_named P ss gs h; present = in_present P ss gs o h }

pub in_nodes : (P : Pools) (ss : List Slot) (gs : List (Option Data)) → AreFillings P ss gs → members_count (members_in ss gs) ≡ filled_nodes gs
in_nodes P [] [] h = refl
in_nodes P [] (g ∷ gs) h = absurd h
in_nodes P (s ∷ ss) [] h = absurd h
in_nodes P (s ∷ ss) (None ∷ gs) h = in_nodes P ss gs h.1
in_nodes P (s ∷ ss) (Some v ∷ gs) h = ap (λ n. node_count v + n) (in_nodes P ss gs h.1)

-- ---- and the other way round

-- the slots after the first have the members whose names they have
later_absent : (P : Pools) (s : Slot) (ss : List Slot) (ms : Members) → AreInSlots P (s ∷ ss) ms → member_at s.name ms ≡ None → AreInSlots P ss ms
later_absent P s ss ms h none = record {
  named = λ k w is.
      let r = h.named k w is in
      elim r.1 as (λ _. (t : Slot) × Among ss t × (t.name ≡ k) × IsPart P t.site w) [
        | inl e ↦ let same : s.name ≡ k = ap (λ t. t.name) e ∙ r.2 in let no = sym (rw same at none) ∙ is in absurd (cc)
        | inr a ↦ (r.0, a, r.2, r.3)
      ];
  present = λ t a. h.present t (inr a);
}

later_present : (P : Pools) (s : Slot) (ss : List Slot) (d : Data) (ms : Members) → AreInOrder (s ∷ ss) → AreMembers (member s.name d ms) → AreInSlots P (s ∷ ss) (member s.name d ms) → AreInSlots P ss ms
later_present P s ss d ms o members h = record {
  named = λ k w is.
      let past = before_each s.name ms k w members.1 members.2 is in
      let r = h.named k w (member_tail s.name d ms k w members is) in
      elim r.1 as (λ _. (t : Slot) × Among ss t × (t.name ≡ k) × IsPart P t.site w) [
        | inl e ↦ absurd (not_itself s.name k (ap (λ t. t.name) e ∙ r.2) past)
        | inr a ↦ (r.0, a, r.2, r.3)
      ];
  present = λ t a must none. h.present t (inr a) must (member_later t.name s.name d ms (later_name t.name s.name (o.0 t (contains ss t a))) ∙ none);
}

-- the first member has the name of the first slot that is filled
first_name : (P : Pools) (s : Slot) (ss : List Slot) (l : List ℕ) (d : Data) (ms : Members) (w : Data) → AreInOrder (s ∷ ss) → AreMembers (member l d ms) → AreInSlots P (s ∷ ss) (member l d ms) → member_at s.name (member l d ms) ≡ Some w → l ≡ s.name
first_name P s ss l d ms w o members h is =
    let r = h.named l d (member_first l d ms) in
    elim r.1 [
      | inl e ↦ sym (ap (λ t. t.name) e ∙ r.2)
      | inr a ↦
          let before : text_cmp s.name l ≡ Less = rw r.2 at (o.0 r.0 (contains ss r.0 a)) in
          let gone = before_none s.name (member l d ms) before members in
          let no = sym gone ∙ is in
          absurd (cc)
    ]

-- the first slot is empty
left_out : (P : Pools) (s : Slot) (ss : List Slot) (ms : Members) → AreInSlots P (s ∷ ss) ms → member_at s.name ms ≡ None → (gs : List (Option Data)) × AreFillings P ss gs × (ms ≡ members_in ss gs)
    → (gs : List (Option Data)) × AreFillings P (s ∷ ss) gs × (ms ≡ members_in (s ∷ ss) gs)
left_out P s ss ms h none r =
    let free : s.must ≡ false = elim (bool_cases s.must) [ inl must ↦ absurd (h.present s (inl refl) must none) | inr f ↦ f ] in
    (None ∷ r.0, (free, r.1), r.2)

-- the part under the name of the first slot
first_part : (P : Pools) (s : Slot) (ss : List Slot) (d : Data) (ms : Members) → AreInOrder (s ∷ ss) → AreInSlots P (s ∷ ss) (member s.name d ms) → IsPart P s.site d
first_part P s ss d ms o h =
    let n = h.named s.name d (member_first s.name d ms) in
    elim n.1 [
      | inl same ↦ subst (λ t. IsPart P t.site d) (sym same) n.3
      | inr a ↦ absurd (not_itself s.name n.0.name (sym n.2) (o.0 n.0 (contains ss n.0 a)))
    ]

same_member : (k l : List ℕ) (d : Data) (ms ns : Members) → k ≡ l → ms ≡ ns → member k d ms ≡ member l d ns
same_member k l d ms ns p q = λ i. member (p i) d (q i)

pub fill : (P : Pools) (ss : List Slot) (ms : Members) → AreInOrder ss → AreMembers ms → AreInSlots P ss ms → (gs : List (Option Data)) × AreFillings P ss gs × (ms ≡ members_in ss gs)
fill P [] no_members o members h = ([], tt, refl)
fill P [] (member l d ms) o members h = absurd (h.named l d (member_first l d ms)).1
fill P (s ∷ ss) no_members o members h = left_out P s ss no_members h refl (fill P ss no_members o.1 members (later_absent P s ss no_members h refl))
fill P (s ∷ ss) (member l d ms) o members h = elim (option_cases (member_at s.name (member l d ms))) [
  | inl none ↦ left_out P s ss (member l d ms) h none (fill P ss (member l d ms) o.1 members (later_absent P s ss (member l d ms) h none))
  | inr w ↦
      let e = first_name P s ss l d ms w.0 o members h w.1 in
      let members' : AreMembers (member s.name d ms) = rw e at members in
      let h' : AreInSlots P (s ∷ ss) (member s.name d ms) = rw e at h in
      let r = fill P ss ms o.1 members'.2 (later_present P s ss d ms o members' h') in
      (Some d ∷ r.0, (first_part P s ss d ms o h', r.1), same_member l s.name d ms (members_in ss r.0) e r.2)
]
