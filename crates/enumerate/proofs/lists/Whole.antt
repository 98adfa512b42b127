-- Whole lists, and what items may not be in one list.
use Rattle.std.proofs.Common.{◌≡◌, ◌↔◌, ◌<◌, ◌≤◌, ◌+◌, ◌-◌, ℕ, List, [], ◌∷◌, Bool, true, false, Some, refl, sym, ap, ◌∙◌, subst, inl, inr, arith}
use Rattle.std.proofs.lemmas.Bool.{or_parts, or_from, false_from_ne_true}
use Rattle.std.specs.Cmp.{nat_cmp_is}
use Rattle.std.specs.Ordering.{nat_cmp}
use Rattle.std.specs.declared.cmp.Ordering.TheVariants.{Less, Equal}
use Rattle.jtree.specs.Data.{Data, Items, no_items, item}
use Rattle.jtree.specs.Data as tree
use Rattle.jtree.specs.Nodes.{node_count, nodes, items_count}
use Rattle.jtree.specs.Order.{tree_cmp, items_cmp}
use Rattle.jtree.specs.View.{data_of, items_of}
use Rattle.jtree.specs.declared.value.Tree.{Tree}
use Rattle.jtree.specs.Internal.Rising.{Among, contained, contains}
use Rattle.schema.specs.Rules.Keywords.{any_item}
use Rattle.stored.specs.Objects.Tests.{is_same}
use Rattle.plan.specs.Samples.Part.{IsPart}
use Rattle.plan.specs.Samples.Sites.{Site, item_site}
use Rattle.plan.specs.Samples.Sizes.{HasMore}
use Rattle.plan.specs.Samples.RuleOfParts.{RuleOfParts, AreParts, alike_at, admits_null}
use Rattle.plan.specs.Samples.Candidates.{sort_of, distinct_of}
use Rattle.plan.specs.Samples.Keys.{HasSoundParts, AreSetItems}
use Rattle.plan.specs.Pools.Pools.{Pools}
use Rattle.plan.specs.Samples.Question.{Question}
use Rattle.plan.specs.declared.sort.Distinct.TheVariants.{Free}
use Rattle.plan.specs.declared.sort.Sort.TheVariants as sort
use Rattle.enumerate.specs.Least.{IsLeast}
use Rattle.enumerate.specs.View.{trees_of}
use Rattle.enumerate.specs.Internal.Nodes.{site, IsPartOf, HasSizeAt}
use Rattle.enumerate.specs.Internal.Candidates.{IsUnusedPart}
use Rattle.enumerate.specs.Internal.Lists.{AreItems, CanFollow, IsUnusedItem, AddsItems}
use Rattle.enumerate.proofs.walks.Least.{same_tree, own_tree}
use Rattle.enumerate.proofs.lists.Lemmas.{first_none, none_follow}

-- lists of as many nodes compare by their items
pub list_order : (ds es : Items) → items_count ds ≡ items_count es → tree_cmp (tree.list ds) (tree.list es) ≡ items_cmp ds es
list_order ds es e =
    let n : nat_cmp (nodes (tree.list ds)) (nodes (tree.list es)) ≡ Equal = sym (nat_cmp_is (nodes (tree.list ds)) (nodes (tree.list es)) Equal (omega (arith, e))) in
    rw n refl

-- a list with items has one item at least
pub has_item : (q : Question) (i : ℕ) (ds : Items) → 1 ≤ items_count ds → IsPart q.pools (site q i) (tree.list ds) → 1 + items_count ds ≤ q.limit → (m : ℕ) × HasMore q.pools q.limit (site q i) 1 m
has_item q i no_items some p fits = absurd (omega (arith, some))
has_item q i (item d ds) some p fits = (items_count ds, record { items = item d ds; part = p; fits = fits; many = omega arith; nodes_are = refl })

module _ (q : Question) (i : ℕ) (rule : RuleOfParts q.pools q.limit (site q i)) (is_list : sort_of (site q i) ≡ sort.List) where
  -- a part that is not null is a list
  pub part_list : (v : Data) → IsPart q.pools (site q i) v → node_count v ≤ q.limit → (v ≡ tree.null → admits_null q.pools (site q i) ≡ true → ⊥) → (ds : Items) × (v ≡ tree.list ds)
  part_list v p within no_null = let M = rule.items is_list in elim ((rule.list M.0 v M.1 within).0 p) [
    | inl none ↦ absurd (no_null none.0 none.1)
    | inr h ↦ (h.items, h.is)
  ]

  module _ (n : ℕ) (some : 1 ≤ n) (within : n ≤ q.limit) (no_null : n ≡ 1 → admits_null q.pools (site q i) ≡ false) where
    not_null : (v : Data) → node_count v ≡ n → v ≡ tree.null → admits_null q.pools (site q i) ≡ true → ⊥
    not_null v e is accepted =
        let one : n ≡ 1 = sym e ∙ ap node_count is in
        let refused = no_null one in cc

    pub list_items : (v : Data) → IsPartOf q i n v → (ds : Items) × (AreItems q i (n - 1) no_items ds × (v ≡ tree.list ds))
    list_items v p =
        let r = part_list v p.part (omega (arith, p.nodes_are, within)) (not_null v p.nodes_are) in
        let count : 1 + items_count r.0 ≡ n = sym (ap node_count r.1) ∙ p.nodes_are in
        (r.0, (record { part = subst (IsPart q.pools (site q i)) r.1 p.part; nodes_are = omega (arith, count) }, r.1))

    pub list_least : (ds : Items) → IsLeast items_cmp (AreItems q i (n - 1) no_items) ds → IsLeast tree_cmp (IsPartOf q i n) (tree.list ds)
    list_least ds h = record {
      is = record { part = h.is.part; nodes_are = omega (arith, h.is.nodes_are, some) };
      least = λ v p less.
          let r = list_items v p in
          let at = subst (λ u. tree_cmp u (tree.list ds) ≡ Less) r.1.1 less in
          h.least r.0 r.1.0 (sym (list_order r.0 ds (r.1.0.nodes_are ∙ sym h.is.nodes_are)) ∙ at);
    }

    -- items of n - 1 nodes can follow where there is none
    pub list_more : HasSizeAt q i n → HasMore q.pools q.limit (site q i) 0 (n - 1)
    list_more h =
        let r = list_items h.part (record { part = h.is; nodes_are = h.nodes_are }) in
        record { items = r.0; part = r.1.0.part; fits = omega (arith, r.1.0.nodes_are, some, within); many = omega arith; nodes_are = r.1.0.nodes_are }

    -- a list of more than a node has an item
    pub list_longer : 1 < n → HasSizeAt q i n → (m : ℕ) × HasMore q.pools q.limit (site q i) 1 m
    list_longer more h = let a = list_more h in has_item q i a.items (omega (arith, a.nodes_are, more)) a.part a.fits

    pub list_first : (new : List Tree) → AddsItems q i (n - 1) [] new → IsLeast tree_cmp (IsPartOf q i n) (tree.list (items_of new))
    list_first new a = subst (λ ts. IsLeast tree_cmp (IsPartOf q i n) (tree.list (items_of ts))) (sym a.is) (list_least (items_of a.added) a.least)

    -- a list of a node has no items
    pub list_alone : n ≤ 1 → HasSizeAt q i n → IsLeast tree_cmp (IsPartOf q i n) (tree.list no_items)
    list_alone few h =
        let r = list_items h.part (record { part = h.is; nodes_are = h.nodes_are }) in
        let zero_left : n - 1 ≡ 0 = omega (arith, few) in
        let none = none_follow q i no_items r.0 (subst (λ m. AreItems q i m no_items r.0) zero_left r.1.0) in
        list_least no_items (subst (λ m. IsLeast items_cmp (AreItems q i m no_items) no_items) (sym zero_left) none)

    pub list_follow : (c : ℕ) → item_site q.pools (site q i) ≡ Some (site q c) → HasSizeAt q i n → CanFollow q i c (n - 1) no_items
    list_follow c item_is h = record { first = first_none q i c item_is; more = list_more h; within = omega (arith, some, within) }

-- ---- items that may not be in one list

pub any_false : (test : Data → Bool) (ts : List Tree) → any_item test (items_of ts) ≡ false → (u : Data) → Among (trees_of ts) u → test u ≡ false
any_false test [] e u a = absurd a
any_false test (t ∷ ts) e u (inl same) = subst (λ x. test x ≡ false) same (or_parts (test (data_of t)) (any_item test (items_of ts)) e).0
any_false test (t ∷ ts) e u (inr a) = any_false test ts (or_parts (test (data_of t)) (any_item test (items_of ts)) e).1 u a

pub false_any : (test : Data → Bool) (ts : List Tree) → ((u : Data) → Among (trees_of ts) u → test u ≡ false) → any_item test (items_of ts) ≡ false
false_any test [] each = refl
false_any test (t ∷ ts) each = rw (each (data_of t) (inl refl)) (false_any test ts (λ u a. each u (inr a)))

pub always_unused : (P : Pools) (s : Site) → HasSoundParts P s → distinct_of s ≡ Free → (v : Data) (ds : Items) → any_item (λ u. alike_at s u v) ds ≡ false
always_unused P s sound e v no_items = refl
always_unused P s sound e v (item d ds) = or_from (alike_at s d v) (any_item (λ u. alike_at s u v) ds) (sound.free d v e) (always_unused P s sound e v ds)

-- in a free list each part is unused
pub part_unused : (q : Question) (i c n : ℕ) (used : Items) (v : Data) → HasSoundParts q.pools (site q i) → distinct_of (site q i) ≡ Free → IsPartOf q c n v → IsUnusedItem q i c n used v
part_unused q i c n used v sound e p = record { part = p; unused = always_unused q.pools (site q i) sound e v used }

pub among_parts : (P : Pools) (M : Site) (ts : List Tree) → AreParts P M (items_of ts) → (u : Data) → Among (trees_of ts) u → IsPart P M u
among_parts P M [] h u a = absurd a
among_parts P M (t ∷ ts) h u (inl same) = subst (IsPart P M) same h.0
among_parts P M (t ∷ ts) h u (inr a) = among_parts P M ts h.1 u a

-- in a set those are that are none of the items
pub set_item_unused : (q : Question) (i c n : ℕ) (used : List Tree) (v : Data) → AreSetItems q.pools (site q i) (site q c) → AreParts q.pools (site q c) (items_of used) → IsUnusedPart q c n (trees_of used) v ↔ IsUnusedItem q i c n (items_of used) v
set_item_unused q i c n used v set are = (
  λ h. record {
    part = h.0;
    unused = false_any (λ u. alike_at (site q i) u v) used (λ u a.
        set.alike u v (among_parts q.pools (site q c) used are u a) h.0.part ∙ false_from_ne_true (is_same u v) (λ same. h.1 (contains _ _ (subst (Among (trees_of used)) (same_tree u v same) a))));
  },
  λ h. (
    h.part,
    λ m.
        let no = any_false (λ u. alike_at (site q i) u v) used h.unused v (contained _ _ m) in
        let both : true ≡ false = sym (own_tree v) ∙ (sym (set.alike v v h.part.part h.part.part) ∙ no) in
        cc,
  ),
)
