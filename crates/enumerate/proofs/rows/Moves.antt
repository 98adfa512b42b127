-- What the steps of a move make of the slots of a row.
use Rattle.std.specs.Prelude.{◌≡◌, ℕ, ◌+◌, ◌≤◌, List, false, Option, Some, None, drop}
use Rattle.std.proofs.Common.{refl, ap, sym, ◌∙◌, subst, [], ◌∷◌, ◌++◌, length}
use Rattle.std.proofs.lemmas.List.{append_assoc, drop_at}
use Rattle.jtree.specs.Data.{Data, Members, no_members, member, IsNameBefore}
use Rattle.jtree.specs.Nodes.{node_count, most_nodes}
use Rattle.jtree.specs.Order.{tree_cmp}
use Rattle.jtree.specs.Internal.Lookups.{not_itself}
use Rattle.jtree.specs.View.{data_of, members_of}
use Rattle.jtree.specs.declared.value.Member.{Member}
use Rattle.plan.specs.Pools.Pools.{Pools}
use Rattle.plan.specs.Samples.Sites.{Slot}
use Rattle.plan.specs.Samples.Sizes.{filled_nodes}
use Rattle.plan.specs.Samples.RuleOfParts.{members_in}
use Rattle.plan.specs.Samples.Keys.{AreKeySlots, AreInOrder}
use Rattle.enumerate.specs.Least.{IsNext}
use Rattle.enumerate.specs.Internal.Rows.{fill_cmp, Demand, demand_after, IsRest, AddsFirst, IsValue, IsGrown}
use Rattle.enumerate.specs.Internal.Moves.{Begins, AreInSlots, AreNext, AreNextMembers}
use Rattle.enumerate.specs.declared.walk.NextParts.{NextParts}
use Rattle.enumerate.specs.declared.walk.NextParts.TheVariants.{Made, Last}
use Rattle.enumerate.proofs.rows.Lemmas.{next_after_out, grown_after_out, none_after_out_slot, next_after_in, next_value, grown_after_in, none_after_in}
use Rattle.enumerate.proofs.rows.Order.{before_in}

pub never_begins : (k : List ℕ) (ms : Members) → IsNameBefore k ms → Begins k ms → ⊥
never_begins k no_members before b = b
never_begins k (member l d ms) before b = not_itself k l (sym b) before

module _ (P : Pools) (s : Slot) (ss : List Slot) (d : Demand) (keys : AreKeySlots P (s ∷ ss)) where
  -- ---- the slot is left out

  pub moved_out : (gs : List (Option Data)) (new : List Member) → d.room ≤ most_nodes → s.must ≡ false → AreNext P ss d gs new → AreNext P (s ∷ ss) d (None ∷ gs) new
  moved_out gs new small free h = record { fillings = None ∷ h.fillings; are = h.are; next = next_after_out P s ss d keys small gs h.fillings free h.next }

  pub grown_out : (made : NextParts) (gs : List (Option Data)) (base new : List Member) → d.room ≤ most_nodes → s.must ≡ false → length base ≡ d.before.count → IsNext fill_cmp (IsRest P ss d) gs None
      → IsGrown made P s ss d 0 base new → AreNextMembers made P (s ∷ ss) d (None ∷ gs) (drop d.before.count new)
  grown_out (Made n) gs base new small free count last both =
      let h = both.0 in
      let v = data_of h.one.tree in
      let is : new ≡ base ++ (h.one ∷ h.rest.added) = h.rest.is ∙ append_assoc base (h.one ∷ []) h.rest.added in
      record {
        fillings = Some v ∷ h.rest.fillings;
        are = ap members_of (ap (λ l. drop d.before.count l) is ∙ drop_at base (h.one ∷ h.rest.added) d.before.count count) ∙ (λ k. member (h.name k) v (h.rest.are k));
        next = grown_after_out P s ss d keys small gs h.size v h.rest.fillings free last h.least h.first h.rest.least;
      }
  grown_out (Last n) gs base new small free count last h = (none_after_out_slot P s ss d keys small gs free last h.1, sym h.2)

  -- ---- a value is in it

  pub slot_filled : (members : List Member) (gs : List (Option Data)) → AreInOrder (s ∷ ss) → AreInSlots P (s ∷ ss) d members gs → Begins s.name (members_of members)
      → (v : Data) × ((hs : List (Option Data)) × (gs ≡ Some v ∷ hs))
  slot_filled members [] o h begin = absurd h.rest.are
  slot_filled members (Some v ∷ gs) o h begin = (v, (gs, refl))
  slot_filled members (None ∷ gs) o h begin = absurd (never_begins s.name (members_in ss gs) (before_in s.name ss gs o.0) (subst (Begins s.name) h.are begin))

  module _ (v : Data) (gs : List (Option Data)) (is : IsRest P (s ∷ ss) d (Some v ∷ gs)) (small : d.room ≤ most_nodes) where
    pub moved_in : (one : Member) (new : List Member) → one.name ≡ s.name → data_of one.tree ≡ v → AreNext P ss (demand_after s v (filled_nodes gs) d) gs new → AreNext P (s ∷ ss) d (Some v ∷ gs) (one ∷ new)
    moved_in one new name tree_is h = record {
      fillings = Some v ∷ h.fillings;
      are = λ k. member (name k) (tree_is k) (h.are k);
      next = next_after_in P s ss d keys small v gs is h.fillings h.next;
    }

    -- nothing comes after what is in the slots after the value
    module _ (last : IsNext fill_cmp (IsRest P ss (demand_after s v (filled_nodes gs) d)) gs None) where
      pub value_in : (one : Member) (base new : List Member) → length base ≡ d.before.count → one.name ≡ s.name → IsNext tree_cmp (IsValue P s ss d.used (node_count v)) v (Some (data_of one.tree))
          → AddsFirst P ss (demand_after s (data_of one.tree) (filled_nodes gs) d) (base ++ one ∷ []) new → AreNext P (s ∷ ss) d (Some v ∷ gs) (drop d.before.count new)
      value_in one base new count name next h =
          let w = data_of one.tree in
          let all : new ≡ base ++ (one ∷ h.added) = h.is ∙ append_assoc base (one ∷ []) h.added in
          record {
            fillings = Some w ∷ h.fillings;
            are = ap members_of (ap (λ l. drop d.before.count l) all ∙ drop_at base (one ∷ h.added) d.before.count count) ∙ (λ k. member (name k) w (h.are k));
            next = next_value P s ss d keys small v gs is w h.fillings last next h.least;
          }

      pub grown_in : (made : NextParts) (base new : List Member) → length base ≡ d.before.count → IsNext tree_cmp (IsValue P s ss d.used (node_count v)) v None
          → IsGrown made P s ss d (node_count v + 1) base new → AreNextMembers made P (s ∷ ss) d (Some v ∷ gs) (drop d.before.count new)
      grown_in (Made n) base new count none both =
          let h = both.0 in
          let w = data_of h.one.tree in
          let all : new ≡ base ++ (h.one ∷ h.rest.added) = h.rest.is ∙ append_assoc base (h.one ∷ []) h.rest.added in
          record {
            fillings = Some w ∷ h.rest.fillings;
            are = ap members_of (ap (λ l. drop d.before.count l) all ∙ drop_at base (h.one ∷ h.rest.added) d.before.count count) ∙ (λ k. member (h.name k) w (h.rest.are k));
            next = grown_after_in P s ss d keys small v gs is h.size w h.rest.fillings last none h.least h.first h.rest.least;
          }
      grown_in (Last n) base new count none h = (none_after_in P s ss d keys small v gs is last none h.1, sym h.2)
