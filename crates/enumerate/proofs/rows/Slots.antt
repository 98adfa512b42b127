-- What the steps of filling a row make of its slots.
use Rattle.std.specs.Prelude.{◌≡◌, ◌↔◌, ℕ, zero, suc, ◌+◌, ◌-◌, ◌≤◌, ◌<◌, List, true, false, Option, Some, None, IfSome, filter, drop, Contains}
use Rattle.std.proofs.Common.{refl, ap, sym, ◌∙◌, subst, inl, inr, arith, [], ◌∷◌, length, append-nil}
use Rattle.std.proofs.Math.ListN.{drop_of_length-le}
use Rattle.std.proofs.Math.Seq.{drop-cons}
use Rattle.std.proofs.lemmas.List.{length-map, append_assoc}
use Rattle.std.proofs.lemmas.Option.{slice_get_within, get_or_from_slice_get}
use Rattle.std.specs.declared.cmp.Ordering.TheVariants.{Less}
use Rattle.jtree.specs.Data.{Data, no_members, member}
use Rattle.jtree.specs.Data as tree
use Rattle.jtree.specs.Nodes.{node_count, members_count, most_nodes}
use Rattle.jtree.specs.Order.{tree_cmp}
use Rattle.jtree.specs.View.{data_of, members_of}
use Rattle.jtree.specs.declared.value.Member.{Member}
use Rattle.plan.specs.Pools.Pools.{Pools}
use Rattle.plan.specs.Sets.{IsEmptyFrom}
use Rattle.plan.specs.Samples.Part.{IsPart}
use Rattle.plan.specs.Samples.Sites.{Slot, slots, sites_of}
use Rattle.plan.specs.Samples.Sizes.{AreFillings, CanFill, HasSize, filled_nodes, Before, filled, state_after, MayEnd}
use Rattle.plan.specs.Samples.RuleOfParts.{members_in}
use Rattle.plan.specs.Samples.NoDeadEnd.{is_key, IsTuple, HasFree}
use Rattle.plan.specs.Samples.Keys.{IsKeySlot, AreKeySlots, HasTuples, HasSoundParts, key_under}
use Rattle.plan.specs.Samples.ByPlace.{IsSlotAt}
use Rattle.plan.specs.Samples.Question.{Question}
use Rattle.enumerate.specs.declared.walk.NextParts.{NextParts}
use Rattle.enumerate.specs.declared.walk.NextParts.TheVariants.{Made, Last}
use Rattle.plan.specs.declared.plan.Slot as answer
use Rattle.enumerate.specs.Least.{IsLeast, IsNext}
use Rattle.enumerate.specs.Internal.Nodes.{site, IsPartOf, FreeLaw}
use Rattle.enumerate.specs.Internal.Candidates.{agreeing, IsFreeKey}
use Rattle.enumerate.specs.Internal.Rows.{option_cmp, fill_cmp, slots_from, slot_in, IsSlotOf, IsGrown, used_keys, IsUnused, Demand, demand_after, CanMeet, IsRest, AreUsed, IsOpen, AddsFirst, still_used, IsValue, FitsSlot, Grows}
use Rattle.enumerate.proofs.walks.Least.{least_same, then_less, option_order}
use Rattle.enumerate.proofs.lists.Lemmas.{some_nodes}
use Rattle.enumerate.proofs.rows.Order.{filled_count_nodes}
use Rattle.enumerate.proofs.rows.Lemmas.{still_used_other, keys_first, still_used_key, used_out, used_after, free_out, key_here, keys_after, no_key, unused_first, some_rest, left_out_first, grown_first}

-- ---- the slot at a place

pub slot_of : (q : Question) (i place : ℕ) (t : answer.Slot) → IsSlotAt (sites_of q.pools q.root) (slots q.pools (site q i)) place t → t.node < i → HasTuples q.pools (slots_from q i (place + 1)) t.later → IfSome t.bit (λ j. j < 4) → place < 18446744073709551615
    → IsSlotOf q i place t
slot_of q i place t at below later few followed =
    let ss = slots q.pools (site q i) in
    let d = slot_in q i place in
    let is : d ≡ at.slot = get_or_from_slice_get ss place at.slot _ at.is in
    let next : suc place ≡ place + 1 = omega arith in
    record {
      first = subst (λ n. drop place ss ≡ d ∷ drop n ss) next (drop-cons ss place _ (slice_get_within ss place at.slot at.is));
      name = at.name ∙ ap (λ s. Slot.name s) (sym is);
      node = at.node ∙ ap (λ s. Slot.site s) (sym is);
      must = at.must ∙ ap (λ s. Slot.must s) (sym is);
      key = at.key ∙ ap (λ s. Slot.key s) (sym is);
      bit = at.bit ∙ ap (λ s. Slot.bit s) (sym is);
      few = few;
      below = below;
      later = later;
      followed = followed;
    }

-- what is before the next place, where the slot is filled
pub filled_at : (q : Question) (i place : ℕ) (t : answer.Slot) (x y : Before) → IsSlotOf q i place t → y ≡ filled t.bit x → y ≡ filled (slot_in q i place).bit x
filled_at q i place t x y slot is = is ∙ ap (λ k. filled k x) slot.bit

pub no_slots : (q : Question) (i place : ℕ) → length (slots q.pools (site q i)) ≤ place → slots_from q i place ≡ []
no_slots q i place past = drop_of_length-le (slots q.pools (site q i)) past

pub keys_from : (P : Pools) (ss : List Slot) (place : ℕ) → AreKeySlots P ss → AreKeySlots P (drop place ss)
keys_from P ss zero keys = keys
keys_from P [] (suc place) keys = keys
keys_from P (s ∷ ss) (suc place) keys = keys_from P ss place (keys_after P s ss keys)

-- ---- the first members

only_nothing : (P : Pools) (d : Demand) (gs : List (Option Data)) → IsRest P [] d gs → fill_cmp gs [] ≡ Less → ⊥
only_nothing P d [] h less = cc
only_nothing P d (g ∷ gs) h less = h.are

nothing_rest : (P : Pools) (d : Demand) (gs : List (Option Data)) (k : List Data) → AreFillings P [] gs → MayEnd d.ending (state_after [] gs d.before) → filled_nodes gs ≡ d.room → IsTuple P [] k → (Contains (used_keys [] d.used) k → ⊥) → IsRest P [] d []
nothing_rest P d (g ∷ gs) k are ends nodes is free = absurd are
nothing_rest P d [] (v ∷ k) are ends nodes is free = absurd is
nothing_rest P d [] [] are ends nodes is free = record { are = tt; ends = ends; nodes_are = nodes; unused = free }

pub adds_none : (P : Pools) (d : Demand) (old : List Member) → IsOpen P [] d → AddsFirst P [] d old old
adds_none P d old h = record {
  added = [];
  is = sym (append-nil old);
  fillings = [];
  are = refl;
  least = record { is = nothing_rest P d h.rest.fillings h.free.0 h.rest.are h.rest.ends h.rest.nodes_are h.free.1.0 h.free.1.1; least = only_nothing P d };
}

same_member : (k l : List ℕ) (d : Data) (ms : tree.Members) (ns : tree.Members) → k ≡ l → ms ≡ ns → member k d ms ≡ member l d ns
same_member k l d ms ns p q = λ i. member (p i) d (q i)

module _ (P : Pools) (s : Slot) (ss : List Slot) (d : Demand) where
  -- the slot is left out
  pub adds_out : (old new : List Member) → AreKeySlots P (s ∷ ss) → d.room ≤ most_nodes → s.must ≡ false → AddsFirst P ss d old new → AddsFirst P (s ∷ ss) d old new
  adds_out old new keys small free h = record { added = h.added; is = h.is; fillings = None ∷ h.fillings; are = h.are; least = left_out_first P s ss d keys small h.fillings free h.least }

  pub open_out : AreKeySlots P (s ∷ ss) → s.must ≡ false → CanMeet P ss d → IsOpen P (s ∷ ss) d → IsOpen P ss d
  open_out keys free can h =
      let other = no_key P s ss keys free in
      record { known = used_out P s ss d.used other h.known; rest = can; free = free_out P s ss d.used other h.free }

  -- a value is in it
  pub adds_grown : (old new : List Member) → AreKeySlots P (s ∷ ss) → d.room ≤ most_nodes → (s.must ≡ false → CanMeet P ss d → ⊥) → Grows P s ss d 0 old new → AddsFirst P (s ∷ ss) d old new
  adds_grown old new keys small stays h = record {
    added = h.one ∷ h.rest.added;
    is = h.rest.is ∙ append_assoc old (h.one ∷ []) h.rest.added;
    fillings = Some (data_of h.one.tree) ∷ h.rest.fillings;
    are = same_member h.one.name s.name (data_of h.one.tree) (members_of h.rest.added) (members_in ss h.rest.fillings) h.name h.rest.are;
    least = grown_first P s ss d keys small h.size (data_of h.one.tree) h.rest.fillings stays h.least h.first h.rest.least;
  }

  -- some size fits where the slot is not left out
  fits_some : (gs : List (Option Data)) → AreFillings P (s ∷ ss) gs → MayEnd d.ending (state_after (s ∷ ss) gs d.before) → filled_nodes gs ≡ d.room → (s.must ≡ false → CanMeet P ss d → ⊥) → IsEmptyFrom (FitsSlot P s ss d) 0 → ⊥
  fits_some [] are ends nodes stays none = are
  fits_some (None ∷ gs) are ends nodes stays none = stays are.0 (record { fillings = gs; are = are.1; ends = ends; nodes_are = nodes })
  fits_some (Some v ∷ gs) are ends nodes stays none =
      none (node_count v) (omega arith) (
        record { part = v; is = are.0; nodes_are = refl },
        (filled_nodes gs, (record { fillings = gs; are = are.1; ends = ends; nodes_are = refl }, nodes)),
      )

  pub not_stuck : CanMeet P (s ∷ ss) d → (s.must ≡ false → CanMeet P ss d → ⊥) → IsEmptyFrom (FitsSlot P s ss d) 0 → ⊥
  not_stuck h stays none = fits_some h.fillings h.are h.ends h.nodes_are stays none

  -- the slots after a value
  pub open_after : (n : ℕ) (v : Data) → AreUsed P (s ∷ ss) d.used → FitsSlot P s ss d n → IsValue P s ss d.used n v → IsOpen P ss (demand_after s v (d.room - n) d)
  open_after n v known fits value = record {
    known = used_after P s ss v d.used known;
    rest = subst (CanFill P ss d.ending (filled s.bit d.before)) (let sum = fits.1.1.1 in omega (arith, sum)) fits.1.1.0;
    free = value.free;
  }

-- ---- the value in a slot

-- of a slot that is no key: the node of its parts, and that the keys after it are not all used
pub record IsPlainOf (q : Question) (c : ℕ) (s : Slot) (ss : List Slot) (used : List Data) : Type 0 where
  pub node : site q c ≡ s.site
  pub other : s.key ≡ false
  pub free : HasFree q.pools (filter is_key ss) (used_keys ss used) []

-- its values are the parts of its node
pub part_is_value : (q : Question) (c : ℕ) (s : Slot) (ss : List Slot) (used : List Data) (n : ℕ) (u : Data) → IsPlainOf q c s ss used → IsPartOf q c n u ↔ IsValue q.pools s ss used n u
part_is_value q c s ss used n u k = (
  λ p. record {
    part = subst (λ M. IsPart q.pools M u) k.node p.part;
    nodes_are = p.nodes_are;
    free = subst (λ us. HasFree q.pools (filter is_key ss) (used_keys ss us) []) (sym (still_used_other s ss k.other u used)) k.free;
  },
  λ w. record { part = subst (λ M. IsPart q.pools M u) (sym k.node) w.part; nodes_are = w.nodes_are },
)

pub part_value : (q : Question) (c : ℕ) (s : Slot) (ss : List Slot) (used : List Data) (n : ℕ) (v : Data) → IsPlainOf q c s ss used → IsLeast tree_cmp (IsPartOf q c n) v → IsLeast tree_cmp (IsValue q.pools s ss used n) v
part_value q c s ss used n v k h =
    let e = λ (u : Data). part_is_value q c s ss used n u k in
    least_same tree_cmp (IsPartOf q c n) (IsValue q.pools s ss used n) v (λ u. (e u).0) (λ u. (e u).1) h

-- of a key: the node of its values, the used rows, and how many tuples the keys after it have
pub record IsKeyOf (q : Question) (c : ℕ) (s : Slot) (ss : List Slot) (used : List Data) (later : ℕ) : Type 0 where
  pub law : FreeLaw
  pub node : site q c ≡ s.site
  pub key : s.key ≡ true
  pub slot : IsKeySlot q.pools s
  pub known : AreUsed q.pools (s ∷ ss) used
  pub tuples : HasTuples q.pools ss later

module _ (q : Question) (c : ℕ) (s : Slot) (ss : List Slot) (used : List Data) (later : ℕ) (k : IsKeyOf q c s ss used later) where
  -- a key leaves another, where fewer rows have it than there are tuples of the keys after it
  key_free : (v : Data) → (length (agreeing s.name v used) < later) ↔ HasFree q.pools (filter is_key ss) (used_keys ss (still_used s v used)) []
  key_free v =
      let u = used_after q.pools s ss v used k.known in
      let same = still_used_key s ss k.key v used in
      let is = k.law q.pools (filter is_key ss) (used_keys ss (still_used s v used)) k.tuples.0 u.tuples u.apart k.tuples.1.0 in
      let count : length (used_keys ss (still_used s v used)) ≡ length (agreeing s.name v used) = length-map (still_used s v used) (λ w. key_under ss w) ∙ ap length same in
      let few = subst (λ us. length us < 4294967296) same u.few in (
        (λ l. is.1 (omega (arith, count, l, k.tuples.1.1))),
        λ free. let l = is.0 free in omega (arith, count, l, k.tuples.1.1, few),
      )

  -- so its values are the parts of its node that few rows have
  pub key_is_value : (n : ℕ) (u : Data) → IsFreeKey q c n s.name used later u ↔ IsValue q.pools s ss used n u
  key_is_value n u = (
    λ f. record { part = subst (λ M. IsPart q.pools M u) k.node f.0.part; nodes_are = f.0.nodes_are; free = (key_free u).0 f.1 },
    λ w. (record { part = subst (λ M. IsPart q.pools M u) (sym k.node) w.part; nodes_are = w.nodes_are }, (key_free u).1 w.free),
  )

  pub key_value : (n : ℕ) (v : Data) → IsLeast tree_cmp (IsFreeKey q c n s.name used later) v → IsLeast tree_cmp (IsValue q.pools s ss used n) v
  key_value n v h = least_same tree_cmp (IsFreeKey q c n s.name used later) (IsValue q.pools s ss used n) v (λ u. (key_is_value n u).0) (λ u. (key_is_value n u).1) h

  -- a free key, from a free tuple
  tuple_key : (n : ℕ) (t : List Data) → HasSize q.pools s.site n → IsTuple q.pools (s ∷ filter is_key ss) t → IsUnused (s ∷ ss) used t → (v : Data) × IsFreeKey q c n s.name used later v
  tuple_key n [] size tuple free = absurd tuple
  tuple_key n (x ∷ t) size tuple free =
      let unused = (unused_first s ss k.key used x t (λ e. k.slot.no_null (subst (IsPart q.pools s.site) e tuple.0))).0 free in
      let left = subst (λ us. HasFree q.pools (filter is_key ss) (used_keys ss us) []) (sym (still_used_key s ss k.key x used)) (t, (tuple.1, unused)) in
      let one = k.slot.one x tuple.0 in
      let nodes = k.slot.one size.part size.is in
      let size_is = size.nodes_are in
      (x, (record { part = subst (λ M. IsPart q.pools M x) (sym k.node) tuple.0; nodes_are = omega (arith, one, nodes, size_is) }, (key_free x).1 left))

  pub some_key : (n : ℕ) → HasSize q.pools s.site n → HasFree q.pools (filter is_key (s ∷ ss)) (used_keys (s ∷ ss) used) [] → (v : Data) × IsFreeKey q c n s.name used later v
  some_key n size free = tuple_key n free.0 size (rw (keys_first s ss k.key) at free.1.0) free.1.1

-- ---- where no nodes are left

-- slots without nodes are all empty
same_nothing : (P : Pools) (ss : List Slot) (gs hs : List (Option Data)) → AreFillings P ss gs → AreFillings P ss hs → filled_nodes gs ≡ 0 → filled_nodes hs ≡ 0 → gs ≡ hs
same_nothing P [] [] [] a b m n = refl
same_nothing P [] [] (h ∷ hs) a b m n = absurd b
same_nothing P [] (g ∷ gs) hs a b m n = absurd a
same_nothing P (s ∷ ss) [] hs a b m n = absurd a
same_nothing P (s ∷ ss) (g ∷ gs) [] a b m n = absurd b
same_nothing P (s ∷ ss) (Some v ∷ gs) (h ∷ hs) a b m n = absurd (omega (arith, m, some_nodes v))
same_nothing P (s ∷ ss) (None ∷ gs) (Some v ∷ hs) a b m n = absurd (omega (arith, n, some_nodes v))
same_nothing P (s ∷ ss) (None ∷ gs) (None ∷ hs) a b m n = ap (λ us. None ∷ us) (same_nothing P ss gs hs a.1 b.1 m n)

fill_own : (gs : List (Option Data)) → fill_cmp gs gs ≡ Less → ⊥
fill_own [] h = cc
fill_own (g ∷ gs) h = elim (then_less (option_cmp g g) (fill_cmp gs gs) h) [
  | inl less ↦ let own = option_order.own g in cc
  | inr (equal, less) ↦ fill_own gs less
]

no_other : (P : Pools) (ss : List Slot) (d : Demand) (gs us : List (Option Data)) → AreFillings P ss gs → filled_nodes gs ≡ 0 → d.room ≡ 0 → IsRest P ss d us → gs ≡ us
no_other P ss d gs us are none empty h = same_nothing P ss gs us are h.are none (h.nodes_are ∙ empty)

pub nothing_after : (P : Pools) (ss : List Slot) (d : Demand) (gs : List (Option Data)) → AreFillings P ss gs → filled_nodes gs ≡ 0 → d.room ≡ 0 → IsNext fill_cmp (IsRest P ss d) gs None
nothing_after P ss d gs are none empty = λ us h less. fill_own gs (subst (λ v. fill_cmp gs v ≡ Less) (sym (no_other P ss d gs us are none empty h)) less)

pub no_members_in : (P : Pools) (ss : List Slot) (gs : List (Option Data)) → AreFillings P ss gs → filled_nodes gs ≡ 0 → members_in ss gs ≡ no_members
no_members_in P ss gs are none = empty (members_in ss gs) (filled_count_nodes P ss gs are ∙ none)
  where
    empty : (ms : tree.Members) → members_count ms ≡ 0 → ms ≡ no_members
    empty no_members h = refl
    empty (member k d ms) h = absurd (omega (arith, h, some_nodes d))

-- where a row may end so, with some key unused, empty slots are the first ones
pub least_nothing : (P : Pools) (ss : List Slot) (d : Demand) (gs : List (Option Data)) → AreKeySlots P ss → AreFillings P ss gs → filled_nodes gs ≡ 0 → d.room ≡ 0 → CanMeet P ss d → HasFree P (filter is_key ss) (used_keys ss d.used) []
    → IsLeast fill_cmp (IsRest P ss d) gs
least_nothing P ss d gs keys are none empty can free =
    let r = some_rest P ss d keys can free in
    record {
      is = subst (IsRest P ss d) (sym (no_other P ss d gs r.0 are none empty r.1)) r.1;
      least = λ us i less. fill_own gs (subst (λ v. fill_cmp v gs ≡ Less) (sym (no_other P ss d gs us are none empty i)) less);
    }

pub adds_nothing : (P : Pools) (ss : List Slot) (d : Demand) (old : List Member) → AreKeySlots P ss → d.room ≡ 0 → IsOpen P ss d → AddsFirst P ss d old old
adds_nothing P ss d old keys empty h =
    let gs = h.rest.fillings in
    let none = h.rest.nodes_are ∙ empty in
    record {
      added = [];
      is = sym (append-nil old);
      fillings = gs;
      are = sym (no_members_in P ss gs h.rest.are none);
      least = least_nothing P ss d gs keys h.rest.are none empty h.rest h.free;
    }

-- ---- at a place of a row

pub keys_at : (q : Question) (i place : ℕ) → HasSoundParts q.pools (site q i) → AreKeySlots q.pools (slots_from q i place)
keys_at q i place sound = keys_from q.pools (slots q.pools (site q i)) place sound.keys

pub one_fewer : (q : Question) (i place : ℕ) → slots_from q i place ≡ slot_in q i place ∷ slots_from q i (place + 1) → length (slots_from q i place) ≡ 1 + length (slots_from q i (place + 1))
one_fewer q i place first = let e = ap (λ (xs : List Slot). length xs) first in omega (arith, e)

module _ (q : Question) (i place : ℕ) (sound : HasSoundParts q.pools (site q i)) where
  abbrev after : List Slot
  after = slots_from q i (place + 1)

  abbrev here : Slot
  here = slot_in q i place

  pub none_at : (d : Demand) (old : List Member) → length (slots q.pools (site q i)) ≤ place → IsOpen q.pools (slots_from q i place) d → AddsFirst q.pools (slots_from q i place) d old old
  none_at d old past so =
      let none = no_slots q i place past in
      subst (λ ss. AddsFirst q.pools ss d old old) (sym none) (adds_none q.pools d old (subst (λ ss. IsOpen q.pools ss d) none so))

  module _ (first : slots_from q i place ≡ here ∷ after) where
    keys : AreKeySlots q.pools (here ∷ after)
    keys = subst (AreKeySlots q.pools) first (keys_at q i place sound)

    opened : (d : Demand) → IsOpen q.pools (slots_from q i place) d → IsOpen q.pools (here ∷ after) d
    opened d so = subst (λ ss. IsOpen q.pools ss d) first so

    pub out_open : (d : Demand) → here.must ≡ false → CanMeet q.pools after d → IsOpen q.pools (slots_from q i place) d → IsOpen q.pools after d
    out_open d free can so = open_out q.pools here after d keys free can (opened d so)

    pub out_adds : (d : Demand) (old new : List Member) → d.room ≤ most_nodes → here.must ≡ false → AddsFirst q.pools after d old new → AddsFirst q.pools (slots_from q i place) d old new
    out_adds d old new small free h = subst (λ ss. AddsFirst q.pools ss d old new) (sym first) (adds_out q.pools here after d old new keys small free h)

    grown_adds : (made : NextParts) (d : Demand) (old new : List Member) → d.room ≤ most_nodes → (here.must ≡ false → CanMeet q.pools after d → ⊥) → CanMeet q.pools (here ∷ after) d → IsGrown made q.pools here after d 0 old new → AddsFirst q.pools (here ∷ after) d old new
    grown_adds (Made n) d old new small stays can h = adds_grown q.pools here after d old new keys small stays h.0
    grown_adds (Last n) d old new small stays can h = absurd (not_stuck q.pools here after d can stays h.1)

    pub grown_at : (made : NextParts) (d : Demand) (old new : List Member) → d.room ≤ most_nodes → (here.must ≡ false → CanMeet q.pools after d → ⊥) → IsOpen q.pools (slots_from q i place) d → IsGrown made q.pools here after d 0 old new → AddsFirst q.pools (slots_from q i place) d old new
    grown_at made d old new small stays so h = subst (λ ss. AddsFirst q.pools ss d old new) (sym first) (grown_adds made d old new small stays (opened d so).rest h)

    pub after_open : (d : Demand) (n : ℕ) (v : Data) → AreUsed q.pools (slots_from q i place) d.used → FitsSlot q.pools here after d n → IsValue q.pools here after d.used n v → IsOpen q.pools after (demand_after here v (d.room - n) d)
    after_open d n v known fits value = open_after q.pools here after d n v (subst (λ ss. AreUsed q.pools ss d.used) first known) fits value

    pub key_slot : here.key ≡ true → IsKeySlot q.pools here
    key_slot key = key_here q.pools here after keys key

-- a key that the plan answers
pub key_of : (q : Question) (i place : ℕ) (t : answer.Slot) (used : List Data) → HasSoundParts q.pools (site q i) → FreeLaw → IsSlotOf q i place t → t.key ≡ true → AreUsed q.pools (slots_from q i place) used
    → IsKeyOf q t.node (slot_in q i place) (slots_from q i (place + 1)) used t.later
key_of q i place t used sound law slot key known = record {
  law = law;
  node = slot.node;
  key = sym slot.key ∙ key;
  slot = key_here q.pools (slot_in q i place) (slots_from q i (place + 1)) (subst (AreKeySlots q.pools) slot.first (keys_at q i place sound)) (sym slot.key ∙ key);
  known = subst (λ ss. AreUsed q.pools ss used) slot.first known;
  tuples = slot.later;
}
