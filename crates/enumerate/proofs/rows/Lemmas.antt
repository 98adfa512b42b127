-- The slots of a row, one after the other, where some rows are used.
use Rattle.std.specs.Prelude.{◌≡◌, ◌≢◌, ◌⊎◌, ◌↔◌, ℕ, ◌+◌, ◌-◌, ◌≤◌, List, Bool, true, false, Option, Some, None, map, filter, unwrap_or, All}
use Rattle.std.proofs.Common.{refl, ap, sym, ◌∙◌, subst, inl, inr, arith, [], ◌∷◌, length, not, ◌<◌}
use Rattle.std.proofs.lemmas.List.Filters.{length-filter_both}
use Rattle.std.proofs.lemmas.Bool.{cases_Bool}
use Rattle.std.proofs.lemmas.List.Elements.{All-contains}
use Rattle.jtree.specs.Data.{Data, Members}
use Rattle.jtree.specs.Data as tree
use Rattle.jtree.specs.Nodes.{node_count, most_nodes}
use Rattle.jtree.specs.Order.{tree_cmp}
use Rattle.jtree.specs.Path.{member_at}
use Rattle.jtree.specs.Internal.Lookups.{option_cases}
use Rattle.jtree.specs.Internal.Rising.{Among, Rising, contained, contains, each_of, rising, all_pairs}
use Rattle.plan.specs.Pools.Pools.{Pools}
use Rattle.plan.specs.Samples.Part.{IsPart}
use Rattle.plan.specs.Samples.Sites.{Slot}
use Rattle.plan.specs.Samples.Sizes.{AreFillings, filled_nodes, Before, filled, state_after, MayEnd, CanFill}
use Rattle.plan.specs.Samples.NoDeadEnd.{is_key, IsTuple, HasFree}
use Rattle.plan.specs.Samples.Keys.{under, key_under, IsKeySlot, AreKeySlots}
use Rattle.enumerate.specs.Internal.Candidates.{is_there, has_under, agreeing}
use Rattle.std.specs.Ordering.{ordering_then}
use Rattle.plan.specs.Sets.{IsLeastFrom, IsEmptyFrom}
use Rattle.enumerate.specs.Least.{IsLeast, IsNext}
use Rattle.enumerate.specs.Internal.Rows.{option_cmp, fill_cmp, key_values, used_keys, IsUnused, Demand, demand_after, CanMeet, IsRest, AreUsed, still_used, IsValue, FitsSlot}
use Rattle.enumerate.proofs.walks.Least.{same_tree, own_tree, option_order, least_same, next_same, first_by_size, next_of_size, next_size, no_next_size, OutOrIn, left_out, first_in, next_in, in_after_out, none_after_out, least_pair, next_rest, next_part, no_next}

-- ---- mapped and filtered lists

pub map_among : {X Y : Type 0} (f : X → Y) (xs : List X) (x : X) → Among xs x → Among (map f xs) (f x)
map_among f [] x a = absurd a
map_among f (y ∷ ys) x (inl e) = inl (ap f e)
map_among f (y ∷ ys) x (inr a) = inr (map_among f ys x a)

pub among_map : {X Y : Type 0} (f : X → Y) (xs : List X) (v : Y) → Among (map f xs) v → (x : X) × (Among xs x × (f x ≡ v))
among_map f [] v a = absurd a
among_map f (x ∷ xs) v (inl e) = (x, (inl refl, e))
among_map f (x ∷ xs) v (inr a) = let r = among_map f xs v a in (r.0, (inr r.1.0, r.1.1))

pub among_filter : {X : Type 0} (test : X → Bool) (xs : List X) (v : X) → Among (filter test xs) v → Among xs v × (test v ≡ true)
among_filter test [] v a = absurd a
among_filter test (x ∷ xs) v a = elim (cases_Bool (test x)) [
  | inl t ↦
      let b : (x ≡ v) ⊎ Among (filter test xs) v = rw t at a in
      elim b as (λ _. Among (x ∷ xs) v × (test v ≡ true)) [ inl e ↦ (inl e, subst (λ w. test w ≡ true) e t) | inr c ↦ let r = among_filter test xs v c in (inr r.0, r.1) ]
  | inr f ↦ let r = among_filter test xs v (rw f at a) in (inr r.0, r.1)
]

pub filter_among : {X : Type 0} (test : X → Bool) (xs : List X) (v : X) → Among xs v → test v ≡ true → Among (filter test xs) v
filter_among test [] v a t = absurd a
filter_among test (x ∷ xs) v (inl e) t = let here : test x ≡ true = rw e t in rw here (inl e)
filter_among test (x ∷ xs) v (inr a) t = elim (cases_Bool (test x)) [
  | inl here ↦ rw here (inr (filter_among test xs v a t))
  | inr other ↦ rw other (filter_among test xs v a t)
]

-- ---- the key of a used row, after the first slot

there : (o : Option Data) (v : Data) → is_there o v ≡ true → o ≡ Some v
there None v e = cc
there (Some w) v e = ap Some (same_tree w v e)

-- of a slot that is no key
module _ (s : Slot) (ss : List Slot) (other : s.key ≡ false) where
  pub keys_other : filter is_key (s ∷ ss) ≡ filter is_key ss
  keys_other = rw other refl

  key_under_other : (u : Data) → key_under (s ∷ ss) u ≡ key_under ss u
  key_under_other (tree.object ms) = ap (λ ks. map (under ms) ks) keys_other
  key_under_other tree.null = refl
  key_under_other (tree.boolean b) = refl
  key_under_other (tree.integer z) = refl
  key_under_other (tree.number t) = refl
  key_under_other (tree.text t) = refl
  key_under_other (tree.list ds) = refl

  pub used_keys_other : (used : List Data) → used_keys (s ∷ ss) used ≡ used_keys ss used
  used_keys_other [] = refl
  used_keys_other (u ∷ us) = rw (key_under_other u, used_keys_other us) refl

  pub still_used_other : (v : Data) (used : List Data) → still_used s v used ≡ used
  still_used_other v used = rw other refl

  key_values_other : (v : Data) (gs : List (Option Data)) → key_values (s ∷ ss) (Some v ∷ gs) ≡ key_values ss gs
  key_values_other v gs = rw other refl

-- of a key
module _ (s : Slot) (ss : List Slot) (key : s.key ≡ true) where
  pub keys_first : filter is_key (s ∷ ss) ≡ s ∷ filter is_key ss
  keys_first = rw key refl

  pub still_used_key : (v : Data) (used : List Data) → still_used s v used ≡ agreeing s.name v used
  still_used_key v used = rw key refl

  key_values_first : (v : Data) (gs : List (Option Data)) → key_values (s ∷ ss) (Some v ∷ gs) ≡ v ∷ key_values ss gs
  key_values_first v gs = rw key refl

  -- a row with the value has it first in its key
  has_first : (u v : Data) → has_under s.name v u ≡ true → key_under (s ∷ ss) u ≡ v ∷ key_under ss u
  has_first (tree.object ms) v h = rw (key, there (member_at s.name ms) v h) refl
  has_first tree.null v h = cc
  has_first (tree.boolean b) v h = cc
  has_first (tree.integer z) v h = cc
  has_first (tree.number t) v h = cc
  has_first (tree.text t) v h = cc
  has_first (tree.list ds) v h = cc

  found : (ms : Members) (v : Data) → (v ≡ tree.null → ⊥) → unwrap_or (member_at s.name ms) tree.null ≡ v → member_at s.name ms ≡ Some v
  found ms v some e = elim (option_cases (member_at s.name ms)) [
    | inl none ↦ let null : tree.null ≡ v = rw none at e in absurd (some (sym null))
    | inr w ↦ let same : w.0 ≡ v = rw w.1 at e in w.1 ∙ ap Some same
  ]

  -- and the other way round, since no key is null
  first_has : (u v : Data) (k : List Data) → (v ≡ tree.null → ⊥) → key_under (s ∷ ss) u ≡ v ∷ k → (has_under s.name v u ≡ true) × (key_under ss u ≡ k)
  first_has (tree.object ms) v k some e =
      let f : unwrap_or (member_at s.name ms) tree.null ∷ map (under ms) (filter is_key ss) ≡ v ∷ k = rw key at e in
      let is = found ms v some (cc (f)) in (rw is (own_tree v), cc (f))
  first_has tree.null v k some e = cc
  first_has (tree.boolean b) v k some e = cc
  first_has (tree.integer z) v k some e = cc
  first_has (tree.number t) v k some e = cc
  first_has (tree.text t) v k some e = cc
  first_has (tree.list ds) v k some e = cc

  among_agreeing : (used : List Data) (v : Data) (k : List Data) → Among (used_keys ss (agreeing s.name v used)) k → Among (used_keys (s ∷ ss) used) (v ∷ k)
  among_agreeing used v k a =
      let r = among_map (key_under ss) (agreeing s.name v used) k a in
      let f = among_filter (has_under s.name v) used r.0 r.1.0 in
      subst (Among (used_keys (s ∷ ss) used)) (has_first r.0 v f.1 ∙ ap (λ l. v ∷ l) r.1.1) (map_among (key_under (s ∷ ss)) used r.0 f.0)

  agreeing_among : (used : List Data) (v : Data) (k : List Data) → (v ≡ tree.null → ⊥) → Among (used_keys (s ∷ ss) used) (v ∷ k) → Among (used_keys ss (agreeing s.name v used)) k
  agreeing_among used v k some a =
      let r = among_map (key_under (s ∷ ss)) used (v ∷ k) a in
      let h = first_has r.0 v k some r.1.1 in
      subst (Among (used_keys ss (agreeing s.name v used))) h.1 (map_among (key_under ss) (agreeing s.name v used) r.0 (filter_among (has_under s.name v) used r.0 r.1.0 h.0))

  -- the key with the value in front is unused exactly where the rest is unused by the rows that have the value
  pub unused_first : (used : List Data) (v : Data) (k : List Data) → (v ≡ tree.null → ⊥) → IsUnused (s ∷ ss) used (v ∷ k) ↔ IsUnused ss (agreeing s.name v used) k
  unused_first used v k some = (
    λ free c. free (contains _ _ (among_agreeing used v k (contained _ _ c))),
    λ free c. free (contains _ _ (agreeing_among used v k some (contained _ _ c))),
  )

  apart_agreeing : (used : List Data) (v : Data) → Rising (λ t u. t ≢ u) (used_keys (s ∷ ss) used) → Rising (λ t u. t ≢ u) (used_keys ss (agreeing s.name v used))
  apart_agreeing [] v h = tt
  apart_agreeing (u ∷ us) v h = elim (cases_Bool (has_under s.name v u)) [
    | inl has ↦ rw has (
      (λ k a e. h.0 (v ∷ k) (among_agreeing us v k a) (has_first u v has ∙ ap (λ l. v ∷ l) e)),
      apart_agreeing us v h.1,
    )
    | inr lacks ↦ rw lacks (apart_agreeing us v h.1)
  ]

  tuples_agreeing : (P : Pools) (used : List Data) (v : Data) → All (IsTuple P (filter is_key (s ∷ ss))) (used_keys (s ∷ ss) used) → All (IsTuple P (filter is_key ss)) (used_keys ss (agreeing s.name v used))
  tuples_agreeing P used v h = each_of (IsTuple P (filter is_key ss)) (used_keys ss (agreeing s.name v used)) (λ k a.
      let t = All-contains (IsTuple P (filter is_key (s ∷ ss))) (used_keys (s ∷ ss) used) (v ∷ k) h (contains _ _ (among_agreeing used v k a)) in
      let t' : IsTuple P (s ∷ filter is_key ss) (v ∷ k) = rw keys_first at t in t'.1)

-- ---- what is left of the used rows

fewer : (test : Data → Bool) (us : List Data) → length us < 4294967296 → length (filter test us) < 4294967296
fewer test us h = let e = length-filter_both test (λ u. not (test u)) (λ u. refl) us in omega (arith, e, h)

pub used_out : (P : Pools) (s : Slot) (ss : List Slot) (used : List Data) → s.key ≡ false → AreUsed P (s ∷ ss) used → AreUsed P ss used
used_out P s ss used other h = record {
  few = h.few;
  tuples = rw (keys_other s ss other, used_keys_other s ss other used) at h.tuples;
  apart = rw (used_keys_other s ss other used) at h.apart;
}

pub used_after : (P : Pools) (s : Slot) (ss : List Slot) (v : Data) (used : List Data) → AreUsed P (s ∷ ss) used → AreUsed P ss (still_used s v used)
used_after P s ss v used h = elim (cases_Bool s.key) [
  | inl key ↦ subst (AreUsed P ss) (sym (still_used_key s ss key v used)) (record {
    few = fewer (has_under s.name v) used h.few;
    tuples = tuples_agreeing s ss key P used v h.tuples;
    apart = all_pairs (λ t u. t ≢ u) _ (apart_agreeing s ss key used v (rising (λ t u. t ≢ u) _ h.apart));
  })
  | inr other ↦ subst (AreUsed P ss) (sym (still_used_other s ss other v used)) (used_out P s ss used other h)
]

pub free_out : (P : Pools) (s : Slot) (ss : List Slot) (used : List Data) → s.key ≡ false → HasFree P (filter is_key (s ∷ ss)) (used_keys (s ∷ ss) used) [] → HasFree P (filter is_key ss) (used_keys ss used) []
free_out P s ss used other h = rw (keys_other s ss other, used_keys_other s ss other used) at h

pub unused_after : (P : Pools) (s : Slot) (ss : List Slot) (used : List Data) (v : Data) (gs : List (Option Data)) → (s.key ≡ true → IsKeySlot P s) → IsPart P s.site v
    → IsUnused (s ∷ ss) used (key_values (s ∷ ss) (Some v ∷ gs)) ↔ IsUnused ss (still_used s v used) (key_values ss gs)
unused_after P s ss used v gs keyed p = elim (cases_Bool s.key) [
  | inl key ↦ rw (key_values_first s ss key v gs, still_used_key s ss key v used) (unused_first s ss key used v (key_values ss gs) (λ e. (keyed key).no_null (subst (IsPart P s.site) e p)))
  | inr other ↦ rw (key_values_other s ss other v gs, still_used_other s ss other v used, used_keys_other s ss other used) ((λ h. h), λ h. h)
]

-- ---- rows with other keys

pub key_here : (P : Pools) (s : Slot) (ss : List Slot) → AreKeySlots P (s ∷ ss) → s.key ≡ true → IsKeySlot P s
key_here P s ss keys = keys s (contains (s ∷ ss) s (inl refl))

pub keys_after : (P : Pools) (s : Slot) (ss : List Slot) → AreKeySlots P (s ∷ ss) → AreKeySlots P ss
keys_after P s ss keys = λ t c. keys t (contains (s ∷ ss) t (inr (contained ss t c)))

-- what may be left out is no key
pub no_key : (P : Pools) (s : Slot) (ss : List Slot) → AreKeySlots P (s ∷ ss) → s.must ≡ false → s.key ≡ false
no_key P s ss keys free = elim (cases_Bool s.key) [ inl key ↦ let must = (key_here P s ss keys key).must in let no = sym must ∙ free in absurd (cc) | inr other ↦ other ]

pub known : (P : Pools) (ss : List Slot) (gs : List (Option Data)) → AreKeySlots P ss → AreFillings P ss gs → IsTuple P (filter is_key ss) (key_values ss gs)
known P [] [] keys h = tt
known P [] (g ∷ gs) keys h = absurd h
known P (s ∷ ss) [] keys h = absurd h
known P (s ∷ ss) (None ∷ gs) keys h = rw (keys_other s ss (no_key P s ss keys h.0)) (known P ss gs (keys_after P s ss keys) h.1)
known P (s ∷ ss) (Some v ∷ gs) keys h =
    let r = known P ss gs (keys_after P s ss keys) h.1 in
    elim (cases_Bool s.key) [
      | inl key ↦ rw key (h.0, r)
      | inr other ↦ rw other r
    ]

-- the slots with another key, as many nodes, and the same after them
record Refilled (P : Pools) (ss : List Slot) (gs : List (Option Data)) (k : List Data) : Type 0 where
  fillings : List (Option Data)
  are : AreFillings P ss fillings
  key_is : key_values ss fillings ≡ k
  nodes_are : filled_nodes fillings ≡ filled_nodes gs
  state_is : (x : Before) → state_after ss fillings x ≡ state_after ss gs x

refilled : (P : Pools) (ss : List Slot) (gs : List (Option Data)) (k : List Data) → AreKeySlots P ss → AreFillings P ss gs → IsTuple P (filter is_key ss) k → Refilled P ss gs k
refilled P [] [] [] keys h t = record { fillings = []; are = tt; key_is = refl; nodes_are = refl; state_is = λ y. refl }
refilled P [] [] (x ∷ k) keys h t = absurd t
refilled P [] (g ∷ gs) k keys h t = absurd h
refilled P (s ∷ ss) [] k keys h t = absurd h
refilled P (s ∷ ss) (None ∷ gs) k keys h t =
    let r = refilled P ss gs k (keys_after P s ss keys) h.1 (rw (keys_other s ss (no_key P s ss keys h.0)) at t) in
    record { fillings = None ∷ r.fillings; are = (h.0, r.are); key_is = r.key_is; nodes_are = r.nodes_are; state_is = r.state_is }
refilled P (s ∷ ss) (Some v ∷ gs) k keys h t = elim (cases_Bool s.key) [
  | inl key ↦ first k key (rw key at t) (λ l is. refilled P ss gs l (keys_after P s ss keys) h.1 is)
  | inr other ↦
      let r = refilled P ss gs k (keys_after P s ss keys) h.1 (rw (keys_other s ss other) at t) in
      record { fillings = Some v ∷ r.fillings; are = (h.0, r.are); key_is = key_values_other s ss other v r.fillings ∙ r.key_is; nodes_are = ap (λ n. node_count v + n) r.nodes_are; state_is = λ y. r.state_is (filled s.bit y) }
]
  where
    first : (k : List Data) → s.key ≡ true → IsTuple P (s ∷ filter is_key ss) k → ((l : List Data) → IsTuple P (filter is_key ss) l → Refilled P ss gs l) → Refilled P (s ∷ ss) (Some v ∷ gs) k
    first [] key t rest = absurd t
    first (x ∷ k) key t rest =
        let r = rest k t.1 in
        let slot = key_here P s ss keys key in
        record {
          fillings = Some x ∷ r.fillings;
          are = (t.0, r.are);
          key_is = rw (key, r.key_is) refl;
          nodes_are = omega (arith, slot.one x t.0, slot.one v h.0, r.nodes_are);
          state_is = λ y. r.state_is (filled s.bit y);
        }

-- ---- where the slots can be filled

pub some_rest : (P : Pools) (ss : List Slot) (d : Demand) → AreKeySlots P ss → CanMeet P ss d → HasFree P (filter is_key ss) (used_keys ss d.used) [] → (gs : List (Option Data)) × IsRest P ss d gs
some_rest P ss d keys can free =
    let r = refilled P ss can.fillings free.0 keys can.are free.1.0 in
    (r.fillings, record { are = r.are; ends = subst (MayEnd d.ending) (sym (r.state_is d.before)) can.ends; nodes_are = r.nodes_are ∙ can.nodes_are; unused = subst (IsUnused ss d.used) (sym r.key_is) free.1.1 })

pub can_fill : (P : Pools) (ss : List Slot) (d : Demand) (gs : List (Option Data)) → IsRest P ss d gs → CanMeet P ss d
can_fill P ss d gs h = record { fillings = gs; are = h.are; ends = h.ends; nodes_are = h.nodes_are }

pub has_free : (P : Pools) (ss : List Slot) (d : Demand) (gs : List (Option Data)) → AreKeySlots P ss → IsRest P ss d gs → HasFree P (filter is_key ss) (used_keys ss d.used) []
has_free P ss d gs keys h = (key_values ss gs, (known P ss gs keys h.are, h.unused))

-- what is after a slot that is left out
pub rest_out : (P : Pools) (s : Slot) (ss : List Slot) (d : Demand) → AreKeySlots P (s ∷ ss) → (gs : List (Option Data)) → IsRest P (s ∷ ss) d (None ∷ gs) → IsRest P ss d gs
rest_out P s ss d keys gs h =
    let unused = h.unused in
    record { are = h.are.1; ends = h.ends; nodes_are = h.nodes_are; unused = rw (used_keys_other s ss (no_key P s ss keys h.are.0) d.used) at unused }

-- ---- one slot, and those after it

module _ (P : Pools) (s : Slot) (ss : List Slot) (d : Demand) (keys : AreKeySlots P (s ∷ ss)) (small : d.room ≤ most_nodes) where
  abbrev Goes : Option Data → List (Option Data) → Type 0
  Goes None gs = (s.must ≡ false) × IsRest P ss d gs
  Goes (Some v) gs = IsPart P s.site v × (node_count v ≤ d.room) × IsRest P ss (demand_after s v (d.room - node_count v) d) gs

  abbrev Whole : List (Option Data) → Type 0
  Whole gs = IsRest P (s ∷ ss) d gs

  abbrev Out : Type 0
  Out = (s.must ≡ false) × CanMeet P ss d × HasFree P (filter is_key ss) (used_keys ss d.used) []

  abbrev In : Data → Type 0
  In v = FitsSlot P s ss d (node_count v) × IsValue P s ss d.used (node_count v) v

  pub goes_in : (v : Data) (gs : List (Option Data)) → Whole (Some v ∷ gs) → Goes (Some v) gs
  goes_in v gs h =
      let nodes = h.nodes_are in (
        h.are.0,
        omega (arith, nodes),
        record {
          are = h.are.1;
          ends = h.ends;
          nodes_are = omega (arith, nodes);
          unused = (unused_after P s ss d.used v gs (key_here P s ss keys) h.are.0).0 h.unused;
        },
      )

  split : (x : List (Option Data)) → Whole x → (o : Option Data) × ((gs : List (Option Data)) × (Goes o gs × (x ≡ o ∷ gs)))
  split [] h = absurd h.are
  split (None ∷ gs) h = (None, (gs, ((h.are.0, rest_out P s ss d keys gs h), refl)))
  split (Some v ∷ gs) h = (Some v, (gs, (goes_in v gs h, refl)))

  join : (o : Option Data) (gs : List (Option Data)) → Goes o gs → Whole (o ∷ gs)
  join None gs h =
      let unused = h.1.unused in
      record { are = (h.0, h.1.are); ends = h.1.ends; nodes_are = h.1.nodes_are; unused = rw (used_keys_other s ss (no_key P s ss keys h.0) d.used) unused }
  join (Some v) gs h =
      let nodes = h.2.nodes_are in
      let few = h.1 in
      record {
        are = (h.0, h.2.are);
        ends = h.2.ends;
        nodes_are = omega (arith, nodes, few);
        unused = (unused_after P s ss d.used v gs (key_here P s ss keys) h.0).1 h.2.unused;
      }

  fits : (o : Option Data) → ((gs : List (Option Data)) × Goes o gs) → OutOrIn Out In o
  fits None h = (h.1.0, can_fill P ss d h.0 h.1.1, has_free P ss d h.0 (keys_after P s ss keys) h.1.1)
  fits (Some v) h =
      let left = demand_after s v (d.room - node_count v) d in
      let few = h.1.1 in (
        (record { part = v; is = h.1.0; nodes_are = refl }, (d.room - node_count v, (can_fill P ss left h.0 h.1.2, omega (arith, few)))),
        record { part = h.1.0; nodes_are = refl; free = has_free P ss left h.0 (keys_after P s ss keys) h.1.2 },
      )

  fitting : (o : Option Data) → OutOrIn Out In o → (gs : List (Option Data)) × Goes o gs
  fitting None h = let r = some_rest P ss d (keys_after P s ss keys) h.1 h.2 in (r.0, (h.0, r.1))
  fitting (Some v) h =
      let j = h.0.1 in
      let sum = j.1.1 in
      let left : j.0 ≡ d.room - node_count v = omega (arith, sum) in
      let r = some_rest P ss (demand_after s v (d.room - node_count v) d) (keys_after P s ss keys) (subst (CanFill P ss d.ending (filled s.bit d.before)) left j.1.0) h.1.free in
      (r.0, (h.1.part, omega (arith, sum), r.1))

  sizes_small : (n : ℕ) → FitsSlot P s ss d n → n ≤ most_nodes
  sizes_small n h = let sum = h.1.1.1 in omega (arith, sum, small)

  value_nodes : (n : ℕ) (v : Data) → IsValue P s ss d.used n v → node_count v ≡ n
  value_nodes n v h = h.nodes_are

  least_slot : (o : Option Data) → IsLeast option_cmp (OutOrIn Out In) o → IsLeast option_cmp (λ p. (gs : List (Option Data)) × Goes p gs) o
  least_slot o h = least_same option_cmp (OutOrIn Out In) (λ p. (gs : List (Option Data)) × Goes p gs) o fitting fits h

  next_slot : (old : Option Data) (next : Option (Option Data)) → IsNext option_cmp (OutOrIn Out In) old next → IsNext option_cmp (λ p. (gs : List (Option Data)) × Goes p gs) old next
  next_slot old next h = next_same option_cmp (OutOrIn Out In) (λ p. (gs : List (Option Data)) × Goes p gs) old next fitting fits h

  order : (a c : Option Data) (r u : List (Option Data)) → fill_cmp (a ∷ r) (c ∷ u) ≡ ordering_then (option_cmp a c) (fill_cmp r u)
  order a c r u = refl

  -- what is after a value
  abbrev pub After : Data → ℕ → List (Option Data) → Type 0
  After v j gs = IsRest P ss (demand_after s v j d) gs

  least_out : (gs : List (Option Data)) → s.must ≡ false → IsLeast fill_cmp (IsRest P ss d) gs → IsLeast fill_cmp (Goes None) gs
  least_out gs free h = least_same fill_cmp (IsRest P ss d) (Goes None) gs (λ u r. (free, r)) (λ u r. r.1) h

  least_in : (n : ℕ) (v : Data) (gs : List (Option Data)) → IsValue P s ss d.used n v → n ≤ d.room → IsLeast fill_cmp (After v (d.room - n)) gs → IsLeast fill_cmp (Goes (Some v)) gs
  least_in n v gs value few h =
      let nodes = value.nodes_are in
      least_same fill_cmp (After v (d.room - n)) (Goes (Some v)) gs
      (λ u r. (value.part, omega (arith, nodes, few), subst (λ k. After v (d.room - k) u) (sym nodes) r)) (λ u r. subst (λ k. After v (d.room - k) u) nodes r.2) h

  within : (from n : ℕ) → IsLeastFrom (FitsSlot P s ss d) from n → n ≤ d.room
  within from n h = let sum = h.1.1.1.1 in omega (arith, sum)

  -- ---- the first ones

  pub left_out_first : (gs : List (Option Data)) → s.must ≡ false → IsLeast fill_cmp (IsRest P ss d) gs → IsLeast fill_cmp Whole (None ∷ gs)
  left_out_first gs free h = least_pair option_cmp fill_cmp fill_cmp (λ o us. o ∷ us) Whole Goes option_order order split join None gs
      (least_slot None (left_out Out In (fits None (gs, (free, h.is))))) (least_out gs free h)

  pub grown_first : (n : ℕ) (v : Data) (gs : List (Option Data)) → (s.must ≡ false → CanMeet P ss d → ⊥) → IsLeastFrom (FitsSlot P s ss d) 0 n → IsLeast tree_cmp (IsValue P s ss d.used n) v
      → IsLeast fill_cmp (After v (d.room - n)) gs → IsLeast fill_cmp Whole (Some v ∷ gs)
  grown_first n v gs stays size first h = least_pair option_cmp fill_cmp fill_cmp (λ o us. o ∷ us) Whole Goes option_order order split join (Some v) gs
      (least_slot (Some v) (first_in Out In (λ out. stays out.0 out.1) v (first_by_size (IsValue P s ss d.used) (FitsSlot P s ss d) value_nodes sizes_small n v size first)))
      (least_in n v gs first.is (within 0 n size) h)

  -- ---- the next ones, where the slot is left out

  pub next_after_out : (old new : List (Option Data)) → s.must ≡ false → IsNext fill_cmp (IsRest P ss d) old (Some new) → IsNext fill_cmp Whole (None ∷ old) (Some (None ∷ new))
  next_after_out old new free h = next_rest option_cmp fill_cmp fill_cmp (λ o us. o ∷ us) Whole Goes option_order order split join None old new (next_same fill_cmp (IsRest P ss d) (Goes None) old (Some new) (λ u r. (free, r)) (λ u r. r.1) h)

  last_out : (old : List (Option Data)) → s.must ≡ false → IsNext fill_cmp (IsRest P ss d) old None → IsNext fill_cmp (Goes None) old None
  last_out old free h = next_same fill_cmp (IsRest P ss d) (Goes None) old None (λ u r. (free, r)) (λ u r. r.1) h

  pub grown_after_out : (old : List (Option Data)) (n : ℕ) (v : Data) (gs : List (Option Data)) → s.must ≡ false → IsNext fill_cmp (IsRest P ss d) old None → IsLeastFrom (FitsSlot P s ss d) 0 n
      → IsLeast tree_cmp (IsValue P s ss d.used n) v → IsLeast fill_cmp (After v (d.room - n)) gs → IsNext fill_cmp Whole (None ∷ old) (Some (Some v ∷ gs))
  grown_after_out old n v gs free last size first h = next_part option_cmp fill_cmp fill_cmp (λ o us. o ∷ us) Whole Goes option_order order split join None old (Some v) gs (last_out old free last)
      (next_slot None (Some (Some v)) (in_after_out Out In v (first_by_size (IsValue P s ss d.used) (FitsSlot P s ss d) value_nodes sizes_small n v size first)))
      (least_in n v gs first.is (within 0 n size) h)

  pub none_after_out_slot : (old : List (Option Data)) → s.must ≡ false → IsNext fill_cmp (IsRest P ss d) old None → IsEmptyFrom (FitsSlot P s ss d) 0 → IsNext fill_cmp Whole (None ∷ old) None
  none_after_out_slot old free last none = no_next option_cmp fill_cmp fill_cmp (λ o us. o ∷ us) Whole Goes option_order order split join None old (last_out old free last)
      (next_slot None None (none_after_out Out In (λ v h. none (node_count v) (omega arith) h.0)))

  -- ---- the next ones, where a value is in the slot

  module _ (v : Data) (old : List (Option Data)) (is : Whole (Some v ∷ old)) where
    abbrev old_goes : Goes (Some v) old
    old_goes = goes_in v old is

    next_in_goes : (next : Option (List (Option Data))) → IsNext fill_cmp (After v (filled_nodes old)) old next → IsNext fill_cmp (Goes (Some v)) old next
    next_in_goes next h = next_same fill_cmp (After v (filled_nodes old)) (Goes (Some v)) old next
        (λ u r. (old_goes.0, old_goes.1, subst (λ k. After v k u) old_goes.2.nodes_are r)) (λ u r. subst (λ k. After v k u) (sym old_goes.2.nodes_are) r.2) h

    pub next_after_in : (new : List (Option Data)) → IsNext fill_cmp (After v (filled_nodes old)) old (Some new) → IsNext fill_cmp Whole (Some v ∷ old) (Some (Some v ∷ new))
    next_after_in new h = next_rest option_cmp fill_cmp fill_cmp (λ o us. o ∷ us) Whole Goes option_order order split join (Some v) old new (next_in_goes (Some new) h)

    pub next_value : (w : Data) (gs : List (Option Data)) → IsNext fill_cmp (After v (filled_nodes old)) old None → IsNext tree_cmp (IsValue P s ss d.used (node_count v)) v (Some w)
        → IsLeast fill_cmp (After w (filled_nodes old)) gs → IsNext fill_cmp Whole (Some v ∷ old) (Some (Some w ∷ gs))
    next_value w gs last next h = next_part option_cmp fill_cmp fill_cmp (λ o us. o ∷ us) Whole Goes option_order order split join (Some v) old (Some w) gs (next_in_goes None last)
        (next_slot (Some v) (Some (Some w)) (next_in Out In v (Some w) (next_of_size (IsValue P s ss d.used) (FitsSlot P s ss d) value_nodes sizes_small v w (fits (Some v) (old, old_goes)) next)))
        (least_in (node_count v) w gs next.is.0 old_goes.1 (subst (λ k. IsLeast fill_cmp (After w k) gs) old_goes.2.nodes_are h))

    pub grown_after_in : (n : ℕ) (w : Data) (gs : List (Option Data)) → IsNext fill_cmp (After v (filled_nodes old)) old None → IsNext tree_cmp (IsValue P s ss d.used (node_count v)) v None
        → IsLeastFrom (FitsSlot P s ss d) (node_count v + 1) n → IsLeast tree_cmp (IsValue P s ss d.used n) w → IsLeast fill_cmp (After w (d.room - n)) gs → IsNext fill_cmp Whole (Some v ∷ old) (Some (Some w ∷ gs))
    grown_after_in n w gs last none size first h = next_part option_cmp fill_cmp fill_cmp (λ o us. o ∷ us) Whole Goes option_order order split join (Some v) old (Some w) gs (next_in_goes None last)
        (next_slot (Some v) (Some (Some w)) (next_in Out In v (Some w) (next_size (IsValue P s ss d.used) (FitsSlot P s ss d) value_nodes sizes_small v n w (fits (Some v) (old, old_goes)) none size first)))
        (least_in n w gs first.is (within (node_count v + 1) n size) h)

    pub none_after_in : IsNext fill_cmp (After v (filled_nodes old)) old None → IsNext tree_cmp (IsValue P s ss d.used (node_count v)) v None → IsEmptyFrom (FitsSlot P s ss d) (node_count v + 1) → IsNext fill_cmp Whole (Some v ∷ old) None
    none_after_in last none empty = no_next option_cmp fill_cmp fill_cmp (λ o us. o ∷ us) Whole Goes option_order order split join (Some v) old (next_in_goes None last)
        (next_slot (Some v) None (next_in Out In v None (no_next_size (IsValue P s ss d.used) (FitsSlot P s ss d) value_nodes sizes_small v (fits (Some v) (old, old_goes)) none empty)))

-- ---- what is in slots

-- slots with sound keys are filled as is asked, with no more nodes than a tree may have
pub record AreFilled (P : Pools) (ss : List Slot) (d : Demand) (gs : List (Option Data)) : Type 0 where
  pub keys : AreKeySlots P ss
  pub small : d.room ≤ most_nodes
  pub rest : IsRest P ss d gs

pub filled_out : (P : Pools) (s : Slot) (ss : List Slot) (d : Demand) (gs : List (Option Data)) → AreFilled P (s ∷ ss) d (None ∷ gs) → AreFilled P ss d gs
filled_out P s ss d gs h = record { keys = keys_after P s ss h.keys; small = h.small; rest = rest_out P s ss d h.keys gs h.rest }

pub filled_in : (P : Pools) (s : Slot) (ss : List Slot) (d : Demand) (v : Data) (gs : List (Option Data)) → AreFilled P (s ∷ ss) d (Some v ∷ gs) → AreFilled P ss (demand_after s v (filled_nodes gs) d) gs
filled_in P s ss d v gs h =
    let nodes = h.rest.nodes_are in
    let left : d.room - node_count v ≡ filled_nodes gs = omega (arith, nodes) in
    record {
      keys = keys_after P s ss h.keys;
      small = omega (arith, nodes, h.small);
      rest = subst (λ n. IsRest P ss (demand_after s v n d) gs) left (goes_in P s ss d h.keys h.small v gs h.rest).2;
    }
