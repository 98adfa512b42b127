-- What the steps of a move make of a row, at a place of it.
use Rattle.std.specs.Prelude.{◌≡◌, ℕ, ◌+◌, ◌≤◌, List, false, Option, Some, None, drop}
use Rattle.std.proofs.Common.{refl, ap, sym, ◌∙◌, subst, arith, [], ◌∷◌, ◌++◌, length}
use Rattle.jtree.specs.Data.{Data}
use Rattle.jtree.specs.Data as tree
use Rattle.jtree.specs.Nodes.{node_count, members_count, most_nodes}
use Rattle.jtree.specs.Order.{tree_cmp}
use Rattle.jtree.specs.View.{data_of, members_of}
use Rattle.jtree.specs.declared.value.Member.{Member}
use Rattle.plan.specs.Pools.Pools.{Pools}
use Rattle.plan.specs.Samples.Sites.{Slot, slots}
use Rattle.plan.specs.Samples.Sizes.{filled_nodes}
use Rattle.plan.specs.Samples.RuleOfParts.{members_in}
use Rattle.plan.specs.Samples.Keys.{AreKeySlots, AreInOrder, HasSoundParts}
use Rattle.plan.specs.Samples.Question.{Question}
use Rattle.enumerate.specs.Least.{IsNext}
use Rattle.enumerate.specs.Internal.Nodes.{site, IsPartOf}
use Rattle.enumerate.specs.Internal.Candidates.{IsFreeKey}
use Rattle.enumerate.specs.Internal.Rows.{fill_cmp, slots_from, slot_in, Demand, row_demand, demand_after, IsRest, AreUsed, IsOpen, AddsFirst, still_used, IsValue, IsGrown, IsRow}
use Rattle.enumerate.specs.Internal.Moves.{IsFilled, AreInSlots, AreNext, AreNextMembers, AreLastAfter, demand_of, IsNextTree}
use Rattle.enumerate.specs.declared.walk.NextTree as answer
use Rattle.enumerate.specs.declared.walk.NextParts.{NextParts}
use Rattle.enumerate.specs.declared.walk.NextParts.TheVariants.{Made}
use Rattle.enumerate.proofs.rows.Lemmas.{can_fill, has_free, filled_in, keys_after, used_after}
use Rattle.enumerate.proofs.rows.Moves.{grown_out, slot_filled, value_in, grown_in}
use Rattle.enumerate.proofs.walks.Moves.{moved_same}
use Rattle.enumerate.proofs.rows.Order.{filled_count_nodes}
use Rattle.enumerate.proofs.rows.Slots.{keys_at, IsPlainOf, IsKeyOf, part_is_value, key_is_value}
use Rattle.enumerate.proofs.walks.Membership.{order_from}

-- what is in the slots has as many nodes as the members
pub in_slots_nodes : (P : Pools) (ss : List Slot) (d : Demand) (members : List Member) (gs : List (Option Data)) → AreInSlots P ss d members gs → members_count (members_of members) ≡ filled_nodes gs
in_slots_nodes P ss d members gs h = ap members_count h.are ∙ filled_count_nodes P ss gs h.rest.are

-- the members of a row are in its slots
pub row_in_slots : (q : Question) (i n : ℕ) (used : List Data) (v : Data) (members : List Member) (r : IsRow q i n used v) → v ≡ tree.object (members_of members) → AreInSlots q.pools (slots_from q i 0) (demand_of q i used r.fillings) members r.fillings
row_in_slots q i n used v members r e =
    let is : tree.object (members_of members) ≡ tree.object (members_in (slots_from q i 0) r.fillings) = sym e ∙ r.is in
    record { are = cc (is); rest = subst (λ m. IsRest q.pools (slots_from q i 0) (row_demand q i m used) r.fillings) (sym r.rest.nodes_are) r.rest }

-- the slot is left out, and what is in those after it has no next one
pub record IsLastOut (q : Question) (i place : ℕ) (d : Demand) (gs : List (Option Data)) : Type 0 where
  pub small : d.room ≤ most_nodes
  pub rest : List (Option Data)
  pub is : gs ≡ None ∷ rest
  pub must : (slot_in q i place).must ≡ false
  pub last : IsNext fill_cmp (IsRest q.pools (slots_from q i (place + 1)) d) rest None

module _ (q : Question) (i place : ℕ) (sound : HasSoundParts q.pools (site q i)) (first : slots_from q i place ≡ slot_in q i place ∷ slots_from q i (place + 1)) where
  abbrev after : List Slot
  after = slots_from q i (place + 1)

  abbrev here : Slot
  here = slot_in q i place

  keys : AreKeySlots q.pools (here ∷ after)
  keys = subst (AreKeySlots q.pools) first (keys_at q i place sound)

  in_order : AreInOrder (here ∷ after)
  in_order = subst AreInOrder first (order_from place (slots q.pools (site q i)) sound.order)

  pub known_after : (used : List Data) (v : Data) → AreUsed q.pools (slots_from q i place) used → AreUsed q.pools after (still_used here v used)
  known_after used v h = used_after q.pools here after v used (subst (λ ss. AreUsed q.pools ss used) first h)

  moved_back : (made : NextParts) (d : Demand) (gs hs : List (Option Data)) (new : List Member) → gs ≡ hs → AreNextMembers made q.pools (here ∷ after) d hs new → AreNextMembers made q.pools (slots_from q i place) d gs new
  moved_back made d gs hs new e h = subst (λ ss. AreNextMembers made q.pools ss d gs new) (sym first) (subst (λ us. AreNextMembers made q.pools (here ∷ after) d us new) (sym e) h)

  -- the slots can be filled, as they are
  pub open_here : (d : Demand) (gs : List (Option Data)) → AreUsed q.pools (slots_from q i place) d.used → IsRest q.pools (slots_from q i place) d gs → IsOpen q.pools (slots_from q i place) d
  open_here d gs known h = record { known = known; rest = can_fill q.pools (slots_from q i place) d gs h; free = has_free q.pools (slots_from q i place) d gs (keys_at q i place sound) h }

  -- ---- the slot is left out

  pub out_grown : (made : NextParts) (d : Demand) (gs : List (Option Data)) (base new : List Member) → IsLastOut q i place d gs → length base ≡ d.before.count
      → IsGrown made q.pools here after d 0 base new → AreNextMembers made q.pools (slots_from q i place) d gs (drop d.before.count new)
  out_grown made d gs base new o count h = moved_back made d gs (None ∷ o.rest) (drop d.before.count new) o.is (grown_out q.pools here after d keys made o.rest base new o.small o.must count o.last h)

  -- ---- a value is in it

  filled_so : (d : Demand) (one : Member) (others : List Member) (hs : List (Option Data)) → d.room ≤ most_nodes → AreInSlots q.pools (here ∷ after) d (one ∷ others) (Some (data_of one.tree) ∷ hs)
      → IsFilled q i place d one others (Some (data_of one.tree) ∷ hs)
  filled_so d one others hs small h =
      let v = data_of one.tree in
      let in_slots = filled_in q.pools here after d v hs (record { keys = keys; small = small; rest = h.rest }) in
      let are = h.are in
      record {
        rest = hs;
        is = refl;
        name = cc (are);
        value = record { part = h.rest.are.0; nodes_are = refl; free = has_free q.pools after (demand_after here v (filled_nodes hs) d) hs (keys_after q.pools here after keys) in_slots.rest };
        in_slots = record { are = cc (are); rest = in_slots.rest };
        whole = h.rest;
      }

  first_value : (one : Member) (others : List Member) (v : Data) (hs : List (Option Data)) → members_of (one ∷ others) ≡ members_in (here ∷ after) (Some v ∷ hs) → v ≡ data_of one.tree
  first_value one others v hs e = cc (e)

  pub filled_here : (d : Demand) (one : Member) (others : List Member) (gs : List (Option Data)) → d.room ≤ most_nodes → AreInSlots q.pools (slots_from q i place) d (one ∷ others) gs → one.name ≡ here.name → IsFilled q i place d one others gs
  filled_here d one others gs small h begin =
      let s = subst (λ ss. AreInSlots q.pools ss d (one ∷ others) gs) first h in
      let r = slot_filled q.pools here after d keys (one ∷ others) gs in_order s begin in
      let e = r.1.1 ∙ ap (λ v. Some v ∷ r.1.0) (first_value one others r.0 r.1.0 (subst (λ x. members_of (one ∷ others) ≡ members_in (here ∷ after) x) r.1.1 s.are)) in
      subst (IsFilled q i place d one others) (sym e) (filled_so d one others r.1.0 small (subst (AreInSlots q.pools (here ∷ after) d (one ∷ others)) e s))

  module _ (d : Demand) (old : Member) (others : List Member) (gs : List (Option Data)) (h : AreLastAfter q i place d old others gs) where
    abbrev value : Data
    value = data_of old.tree

    abbrev f : IsFilled q i place d old others gs
    f = h.are_filled

    pub in_value : (room : ℕ) (one : Member) (base new : List Member) → length base ≡ d.before.count → one.name ≡ here.name → d.room ≡ room + node_count value → IsNext tree_cmp (IsValue q.pools here after d.used (node_count value)) value (Some (data_of one.tree))
        → AddsFirst q.pools after (demand_after here (data_of one.tree) room d) (base ++ one ∷ []) new → AreNext q.pools (slots_from q i place) d gs (drop d.before.count new)
    in_value room one base new count name nodes next adds =
        let whole = f.whole.nodes_are in
        let left : room ≡ filled_nodes f.rest = omega (arith, nodes, whole) in
        moved_back (Made 0) d gs (Some value ∷ f.rest) (drop d.before.count new) f.is
        (value_in q.pools here after d keys value f.rest f.whole h.small h.last one base new count name next (subst (λ m. AddsFirst q.pools after (demand_after here (data_of one.tree) m d) (base ++ one ∷ []) new) left adds))

    pub in_grown : (made : NextParts) (base new : List Member) → length base ≡ d.before.count → IsNext tree_cmp (IsValue q.pools here after d.used (node_count value)) value None
        → IsGrown made q.pools here after d (node_count value + 1) base new → AreNextMembers made q.pools (slots_from q i place) d gs (drop d.before.count new)
    in_grown made base new count none grown = moved_back made d gs (Some value ∷ f.rest) (drop d.before.count new) f.is (grown_in q.pools here after d keys value f.rest f.whole h.small h.last made base new count none grown)

-- ---- the value itself

module _ (q : Question) (c : ℕ) (s : Slot) (ss : List Slot) (used : List Data) (n : ℕ) (old : Data) (m : answer.NextTree) where
  -- the next free key is the next value
  pub key_moved : (later : ℕ) → IsKeyOf q c s ss used later → IsNextTree (IsFreeKey q c n s.name used later) old m → IsNextTree (IsValue q.pools s ss used n) old m
  key_moved later k h =
      let e = λ (u : Data). key_is_value q c s ss used later k n u in
      moved_same (IsFreeKey q c n s.name used later) (IsValue q.pools s ss used n) old m (λ u. (e u).0) (λ u. (e u).1) h

  -- where the slot is no key, the next part is
  pub part_moved : IsPlainOf q c s ss used → IsNextTree (IsPartOf q c n) old m → IsNextTree (IsValue q.pools s ss used n) old m
  part_moved plain h =
      let e = λ (u : Data). part_is_value q c s ss used n u plain in
      moved_same (IsPartOf q c n) (IsValue q.pools s ss used n) old m (λ u. (e u).0) (λ u. (e u).1) h
