-- The sizes that the items of a list can take, from the last item to the first.
use Rattle.std.specs.Prelude.{◌≡◌, ℕ, zero, suc, ◌+◌, ◌*◌, ◌≤◌, ◌⊎◌, ◌↔◌}
use Rattle.std.proofs.Common.{refl, ap, sym, inl, inr, arith}
use Rattle.std.proofs.lemmas.Bool.{cases_lt}
use Rattle.std.proofs.Math.Nat.{mul-le-mul_left}
use Rattle.jtree.specs.Data.{Data, Items, no_items, item}
use Rattle.jtree.specs.Data as tree
use Rattle.jtree.specs.Nodes.{node_count, items_count}
use Rattle.schema.specs.declared.node.Bounds.{Bounds}
use Rattle.stored.specs.Objects.Fault as fault
use Rattle.stored.specs.Objects.StoredByParts.{IsWithin}
use Rattle.plan.specs.Pools.Pools.{Pools}
use Rattle.plan.specs.Sets.{IsSum, IsLeastFrom, IsEmptyFrom}
use Rattle.plan.specs.Samples.Sites.{Site}
use Rattle.plan.specs.Samples.Part.{IsPart}
use Rattle.plan.specs.Samples.Sizes.{HasSize, items_from, IsUpTo}
use Rattle.plan.specs.Samples.RuleOfParts.{AreParts}
use Rattle.plan.specs.Internal.Lists.{CanFollow, HasMoreFree, IsLeastSize}

-- a tree has at least one node
pub tree_positive : (v : Data) → 1 ≤ node_count v
tree_positive tree.null = omega arith
tree_positive (tree.boolean b) = omega arith
tree_positive (tree.integer z) = omega arith
tree_positive (tree.number s) = omega arith
tree_positive (tree.text s) = omega arith
tree_positive (tree.list ds) = omega arith
tree_positive (tree.object ms) = omega arith

pub size_positive : (P : Pools) (M : Site) (n : ℕ) → HasSize P M n → 1 ≤ n
size_positive P M n h = omega (arith, tree_positive h.part, h.nodes_are)

pub least_positive : (P : Pools) (limit : ℕ) (M : Site) (s : ℕ) → IsLeastSize P limit M s → 1 ≤ s
least_positive P limit M s low = elim (cases_lt limit s) as (λ _. 1 ≤ s) [ inl l ↦ omega arith | inr l ↦ size_positive P M s (low.reached l) ]

none_more : (t : ℕ) → t + 0 ≡ t
none_more t = omega arith

none_before : (t : ℕ) → 0 + t ≡ t
none_before t = omega arith

one_more : (t n : ℕ) → t + (1 + n) ≡ t + 1 + n
one_more t n = omega arith

-- no item or one more
follow_items : (P : Pools) (M : Site) (b : Bounds) (t m : ℕ) (ds : Items) → AreParts P M ds → IsWithin b (t + fault.items_count ds) → items_count ds ≡ m → ((m ≡ 0) × IsWithin b t) ⊎ IsSum (HasSize P M) (CanFollow P M b (t + 1)) m
follow_items P M b t m no_items h within nodes = inl (sym nodes, rw none_more at within)
follow_items P M b t m (item d ds) h within nodes =
    inr (node_count d, (items_count ds, (record { part = d; is = h.0; nodes_are = refl }, record { items = ds; are = h.1; within = rw (one_more t (fault.items_count ds)) at within; nodes_are = refl }, nodes)))

pub follow_step : (P : Pools) (M : Site) (b : Bounds) (t m : ℕ) → CanFollow P M b t m ↔ (((m ≡ 0) × IsWithin b t) ⊎ IsSum (HasSize P M) (CanFollow P M b (t + 1)) m)
follow_step P M b t m = (
  (λ h. follow_items P M b t m h.items h.are h.within h.nodes_are),
  λ s. elim s as (λ _. CanFollow P M b t m) [
    | inl h ↦ record { items = no_items; are = tt; within = rw none_more h.1; nodes_are = sym h.0 }
    | inr h ↦
        let v = h.1.1.0 in
        let r = h.1.1.1 in
        record { items = item v.part r.items; are = (v.is, r.are); within = rw (← one_more t (fault.items_count r.items)) at r.within; nodes_are = omega (arith, v.nodes_are, r.nodes_are, h.1.1.2) }
  ],
)

-- the sets of what can follow, up to the nodes that are left where each item before took one
pub follow_up_to : (limit k : ℕ) (P : Pools) (M : Site) (b : Bounds) (t : ℕ) (A V S : ℕ → Type 0) → k + 1 ≤ limit → IsUpTo limit A (HasSize P M) → IsUpTo k V (CanFollow P M b (t + 1))
    → ((n : ℕ) → S n ↔ (((n ≡ 0) × IsWithin b t) ⊎ ((n ≤ k + 1) × IsSum A V n))) → IsUpTo (k + 1) S (CanFollow P M b t)
follow_up_to limit k P M b t A V S within a v s n =
    let r = follow_step P M b t n in (
      (λ h. elim ((s n).0 h) as (λ _. (n ≤ k + 1) × CanFollow P M b t n) [
        | inl x ↦ (omega (arith, x.0), r.1 (inl x))
        | inr x ↦
            let y = x.1 in
            (x.0, r.1 (inr (y.0, (y.1.0, (((a y.0).0 y.1.1.0).1, ((v y.1.0).0 y.1.1.1).1, y.1.1.2)))))
      ]),
      λ h.
          (s n).1
          (elim (r.0 h.1) as (λ _. ((n ≡ 0) × IsWithin b t) ⊎ ((n ≤ k + 1) × IsSum A V n)) [
            | inl x ↦ inl x
            | inr y ↦
                let p = size_positive P M y.0 y.1.1.0 in
                let q : y.0 + y.1.0 ≡ n = y.1.1.2 in
                let l : n ≤ k + 1 = h.0 in
                inr (h.0, (y.0, (y.1.0, ((a y.0).1 (omega arith, y.1.1.0), (v y.1.0).1 (omega arith, y.1.1.1), q))))
          ]),
    )

-- after as many items as the limit nothing but the end can follow
pub follow_end : (P : Pools) (M : Site) (b : Bounds) (t : ℕ) (E : ℕ → Type 0) → ((n : ℕ) → E n ↔ ((n ≡ 0) × IsWithin b t)) → IsUpTo 0 E (CanFollow P M b t)
follow_end P M b t E e n =
    let r = follow_step P M b t n in (
      (λ h. let y = (e n).0 h in (omega (arith, y.0), r.1 (inl y))),
      λ h.
          elim (r.0 h.1) as (λ _. E n) [
            | inl x ↦ (e n).1 x
            | inr y ↦ absurd (let p = size_positive P M y.0 y.1.1.0 in omega (arith, y.1.1.2, h.0))
          ],
    )

-- ---- the items before an index and from it

pub from_are : (P : Pools) (M : Site) (t : ℕ) (ds : Items) → AreParts P M ds → AreParts P M (items_from t ds)
from_are P M zero ds h = h
from_are P M (suc t) no_items h = tt
from_are P M (suc t) (item d ds) h = from_are P M t ds h.1

pub from_count : (t : ℕ) (ds : Items) → t ≤ fault.items_count ds → t + fault.items_count (items_from t ds) ≡ fault.items_count ds
from_count zero ds l = omega arith
from_count (suc t) no_items l = absurd (omega arith)
from_count (suc t) (item d ds) l = omega (arith, from_count t ds (omega arith))

pub from_nodes : (P : Pools) (M : Site) (s : ℕ) → ((v : Data) → IsPart P M v → s ≤ node_count v) → (t : ℕ) (ds : Items) → AreParts P M ds → t ≤ fault.items_count ds → t * s + items_count (items_from t ds) ≤ items_count ds
from_nodes P M s low zero ds h l = omega arith
from_nodes P M s low (suc t) no_items h l = absurd (omega arith)
from_nodes P M s low (suc t) (item d ds) h l = omega (arith, from_nodes P M s low t ds h.1 (omega arith), low d h.0)

-- a part t times, before other items
many : ℕ → Data → Items → Items
many zero v ds = ds
many (suc t) v ds = item v (many t v ds)

many_are : (P : Pools) (M : Site) (t : ℕ) (v : Data) (ds : Items) → IsPart P M v → AreParts P M ds → AreParts P M (many t v ds)
unfolding many
many_are P M zero v ds h k = k
many_are P M (suc t) v ds h k = (h, many_are P M t v ds h k)

many_count : (t : ℕ) (v : Data) (ds : Items) → fault.items_count (many t v ds) ≡ t + fault.items_count ds
unfolding many
many_count zero v ds = omega arith
many_count (suc t) v ds = omega (arith, many_count t v ds)

many_nodes : (t : ℕ) (v : Data) (ds : Items) → items_count (many t v ds) ≡ t * node_count v + items_count ds
unfolding many
many_nodes zero v ds = omega arith
many_nodes (suc t) v ds = omega (arith, many_nodes t v ds)

many_from : (t : ℕ) (v : Data) (ds : Items) → items_from t (many t v ds) ≡ ds
unfolding many
many_from zero v ds = refl
many_from (suc t) v ds = many_from t v ds

more_many : (limit : ℕ) (P : Pools) (M : Site) (b : Bounds) (t m s : ℕ) → HasSize P M s → CanFollow P M b t m → t * s + 1 + m ≤ limit → HasMoreFree P limit M b t m
more_many limit P M b t m s v h l =
    let c = many_count t v.part h.items in
    let k = many_nodes t v.part h.items in
    let e = ap (λ x. t * x) v.nodes_are in
    record {
      items = many t v.part h.items;
      are = many_are P M t v.part h.items v.is h.are;
      within = rw c h.within;
      fits = omega (arith, h.nodes_are);
      many = omega arith;
      nodes_are = rw (many_from t v.part h.items) h.nodes_are;
    }

more_from : (limit : ℕ) (P : Pools) (M : Site) (b : Bounds) (t m s : ℕ) → IsLeastSize P limit M s → CanFollow P M b t m → t * s + 1 + m ≤ limit → HasMoreFree P limit M b t m
more_from limit P M b zero m s low h l = record { items = h.items; are = h.are; within = rw none_before at h.within; fits = omega (arith, h.nodes_are); many = omega arith; nodes_are = h.nodes_are }
more_from limit P M b (suc t) m s low h l = more_many limit P M b (suc t) m s (low.reached (omega arith)) h l

-- what can follow, where the items before take as few nodes as they can
pub more_step : (limit : ℕ) (P : Pools) (M : Site) (b : Bounds) (t m s : ℕ) → IsLeastSize P limit M s → HasMoreFree P limit M b t m ↔ (CanFollow P M b t m × (t * s + 1 + m ≤ limit))
more_step limit P M b t m s low = (
  (λ h.
      let c = from_count t h.items h.many in
      let k = from_nodes P M s (λ v p. low.below (node_count v) (record { part = v; is = p; nodes_are = refl })) t h.items h.are h.many in
      (record { items = items_from t h.items; are = from_are P M t h.items h.are; within = rw c h.within; nodes_are = h.nodes_are }, omega (arith, h.fits, h.nodes_are))),
  λ h. more_from limit P M b t m s low h.0 h.1,
)

-- the table of a list
pub more_up_to : (limit k : ℕ) (P : Pools) (M : Site) (b : Bounds) (t s : ℕ) (F W : ℕ → Type 0) → k + t ≡ limit → IsLeastSize P limit M s → IsUpTo k F (CanFollow P M b t) → ((n : ℕ) → W n ↔ (F n × (t * s + 1 + n ≤ limit))) → IsUpTo limit W (HasMoreFree P limit M b t)
more_up_to limit k P M b t s F W place low f m n =
    let r = more_step limit P M b t n s low in
    let p = mul-le-mul_left t (least_positive P limit M s low) in (
      (λ h. let x = (m n).0 h in (omega (arith, x.1), r.1 (((f n).0 x.0).1, x.1))),
      λ h.
          let x = r.0 h.1 in
          (m n).1 ((f n).1 (omega (arith, x.1), x.0), x.1),
    )

-- the least size, from the set
pub least_found : (limit : ℕ) (P : Pools) (M : Site) (A : ℕ → Type 0) (s : ℕ) → IsUpTo limit A (HasSize P M) → IsLeastFrom A 0 s → IsLeastSize P limit M s
least_found limit P M A s a h =
    let in_range = (a s).0 h.1 in
    record {
      below = λ n p. elim (cases_lt n s) as (λ _. s ≤ n) [
        | inl l ↦ absurd (h.2 n (omega arith) l ((a n).1 (omega (arith, in_range.0), p)))
        | inr g ↦ g
      ];
      reached = λ l. in_range.1;
    }

pub least_missing : (limit : ℕ) (P : Pools) (M : Site) (A : ℕ → Type 0) → IsUpTo limit A (HasSize P M) → IsEmptyFrom A 0 → IsLeastSize P limit M (limit + 1)
least_missing limit P M A a h = record {
  below = λ n p. elim (cases_lt limit n) as (λ _. limit + 1 ≤ n) [
    | inl l ↦ omega arith
    | inr g ↦ absurd (h n (omega arith) ((a n).1 (g, p)))
  ];
  reached = λ l. absurd (omega arith);
}

-- a list has no more items than they have nodes
pub count_nodes : (ds : Items) → fault.items_count ds ≤ items_count ds
count_nodes no_items = omega arith
count_nodes (item d ds) = omega (arith, count_nodes ds, tree_positive d)
