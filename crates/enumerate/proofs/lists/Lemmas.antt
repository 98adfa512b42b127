-- Lists by their items: one item more after those that are there, and whole lists.
use Rattle.std.proofs.Common.{◌≡◌, ◌↔◌, ◌≤◌, ◌+◌, ◌-◌, ◌++◌, ℕ, zero, suc, List, [], ◌∷◌, Bool, true, false, not, Option, Some, None, Contains, length, refl, sym, ap, ◌∙◌, subst, inl, inr, append_assoc, arith}
use Rattle.std.specs.Prelude.{MatchOption}
use Rattle.std.proofs.lemmas.Bool.{and_parts, and_from, or_parts, or_from, not-true}
use Rattle.std.proofs.lemmas.List.{append-nil}
use Rattle.std.proofs.lemmas.List.Elements.{Contains-get_or}
use Rattle.std.specs.declared.cmp.Ordering.TheVariants.{Less}
use Rattle.jtree.specs.Data.{Data, Items, no_items, item}
use Rattle.jtree.specs.Data as tree
use Rattle.jtree.specs.Nodes.{node_count, items_count, most_nodes}
use Rattle.jtree.specs.Order.{tree_cmp, items_cmp}
use Rattle.jtree.specs.View.{data_of, items_of}
use Rattle.jtree.specs.declared.value.Tree.{Tree}
use Rattle.schema.specs.Rules.Keywords.{any_item}
use Rattle.stored.specs.Objects.Fault as fault
use Rattle.stored.specs.Objects.StoredByParts.{are_apart}
use Rattle.plan.specs.Pools.Pools.{Pools}
use Rattle.plan.specs.Sets.{IsLeastFrom, IsEmptyFrom}
use Rattle.plan.specs.Samples.Part.{IsPart}
use Rattle.plan.specs.Samples.Sites.{Site, item_site, sites_of}
use Rattle.plan.specs.Samples.Sizes.{items_from, HasSize, HasMore, IsUpTo}
use Rattle.plan.specs.Samples.RuleOfParts.{RuleOfParts, AreParts, alike_at}
use Rattle.plan.specs.Samples.NoDeadEnd.{NoDeadEnd, items_then}
use Rattle.plan.specs.Samples.Question.{Question}
use Rattle.enumerate.specs.Least.{IsLeast, IsNext}
use Rattle.enumerate.specs.Internal.Nodes.{site, IsNodeOf, IsSplit}
use Rattle.enumerate.specs.Internal.Following.{ItemsContinue, GrownItemsContinue}
use Rattle.enumerate.specs.Internal.Lists.{AreItems, AreFirst, CanFollow, IsUnusedItem, AddsItems, FitsItem, GrowsItems, AreGrown}
use Rattle.enumerate.specs.declared.walk.NextParts.{NextParts}
use Rattle.enumerate.specs.declared.walk.NextParts.TheVariants.{Made, Last}
use Rattle.enumerate.proofs.walks.Least.{tree_order, least_same, next_same, first_by_size, next_of_size, next_size, no_next_size, least_pair, next_rest, next_part, no_next}

-- ---- items one after another

pub some_nodes : (d : Data) → 1 ≤ node_count d
some_nodes tree.null = omega arith
some_nodes (tree.boolean b) = omega arith
some_nodes (tree.integer z) = omega arith
some_nodes (tree.number s) = omega arith
some_nodes (tree.text s) = omega arith
some_nodes (tree.list ds) = omega arith
some_nodes (tree.object ms) = omega arith

pub some_size : {P : Pools} {s : Site} {n : ℕ} → HasSize P s n → 1 ≤ n
some_size h = omega (arith, some_nodes h.part, h.nodes_are)

pub then_then : (ds es fs : Items) → items_then (items_then ds es) fs ≡ items_then ds (items_then es fs)
then_then no_items es fs = refl
then_then (item d ds) es fs = ap (λ x. item d x) (then_then ds es fs)

pub then_none : (ds : Items) → items_then ds no_items ≡ ds
then_none no_items = refl
then_none (item d ds) = ap (λ x. item d x) (then_none ds)

pub then_count : (ds es : Items) → fault.items_count (items_then ds es) ≡ fault.items_count ds + fault.items_count es
then_count no_items es = omega arith
then_count (item d ds) es = omega (arith, then_count ds es)

pub then_nodes : (ds es : Items) → items_count (items_then ds es) ≡ items_count ds + items_count es
then_nodes no_items es = omega arith
then_nodes (item d ds) es = omega (arith, then_nodes ds es)

then_from : (t : ℕ) (ds es : Items) → t ≡ fault.items_count ds → items_from t (items_then ds es) ≡ es
then_from zero no_items es e = refl
then_from (suc t) no_items es e = absurd (omega (arith, e))
then_from zero (item d ds) es e = absurd (omega (arith, e))
then_from (suc t) (item d ds) es e = then_from t ds es (omega (arith, e))

pub items_of-append : (ts us : List Tree) → items_of (ts ++ us) ≡ items_then (items_of ts) (items_of us)
items_of-append [] us = refl
items_of-append (t ∷ ts) us = ap (λ x. item (data_of t) x) (items_of-append ts us)

pub counted : (ts : List Tree) → fault.items_count (items_of ts) ≡ length ts
counted [] = refl
counted (t ∷ ts) = omega (arith, counted ts)

-- each item has a node
pub few_items : (ds : Items) → fault.items_count ds ≤ items_count ds
few_items no_items = omega arith
few_items (item d ds) = omega (arith, some_nodes d, few_items ds)

pub one_more : Items → Data → Items
one_more ds d = items_then ds (item d no_items)

-- ---- parts, and no two alike

pub parts_split : (P : Pools) (M : Site) (ds es : Items) → AreParts P M (items_then ds es) → AreParts P M ds × AreParts P M es
parts_split P M no_items es h = (tt, h)
parts_split P M (item d ds) es h = let r = parts_split P M ds es h.1 in ((h.0, r.0), r.1)

pub parts_then : (P : Pools) (M : Site) (ds es : Items) → AreParts P M ds → AreParts P M es → AreParts P M (items_then ds es)
parts_then P M no_items es h k = k
parts_then P M (item d ds) es h k = (h.0, parts_then P M ds es h.1 k)

none_front : (test : Data → Bool) (ds es : Items) → any_item test (items_then ds es) ≡ false → any_item test ds ≡ false
none_front test no_items es p = refl
none_front test (item d ds) es p =
    let h = or_parts (test d) (any_item test (items_then ds es)) p in
    or_from (test d) (any_item test ds) h.0 (none_front test ds es h.1)

none_there : (test : Data → Bool) (ds es : Items) (v : Data) → any_item test (items_then ds (item v es)) ≡ false → test v ≡ false
none_there test no_items es v p = (or_parts (test v) (any_item test es) p).0
none_there test (item d ds) es v p = none_there test ds es v (or_parts (test d) (any_item test (items_then ds (item v es))) p).1

none_more : (test : Data → Bool) (ds : Items) (v : Data) → any_item test ds ≡ false → test v ≡ false → any_item test (items_then ds (item v no_items)) ≡ false
none_more test no_items v p h = or_from (test v) false h refl
none_more test (item d ds) v p h =
    let r = or_parts (test d) (any_item test ds) p in
    or_from (test d) (any_item test (items_then ds (item v no_items))) r.0 (none_more test ds v r.1 h)

pub apart_front : (alike : Data → Data → Bool) (ds es : Items) → are_apart alike (items_then ds es) ≡ true → are_apart alike ds ≡ true
apart_front alike no_items es p = refl
apart_front alike (item d ds) es p =
    let h = and_parts (not (any_item (alike d) (items_then ds es))) (are_apart alike (items_then ds es)) p in
    and_from (not (any_item (alike d) ds)) (are_apart alike ds) (ap not (none_front (alike d) ds es (not-true (any_item (alike d) (items_then ds es)) h.0))) (apart_front alike ds es h.1)

-- what comes after others is alike none of them
pub apart_unused : (alike : Data → Data → Bool) (ds es : Items) (v : Data) → are_apart alike (items_then ds (item v es)) ≡ true → any_item (λ u. alike u v) ds ≡ false
apart_unused alike no_items es v p = refl
apart_unused alike (item d ds) es v p =
    let all = items_then ds (item v es) in
    let h = and_parts (not (any_item (alike d) all)) (are_apart alike all) p in
    or_from (alike d v) (any_item (λ u. alike u v) ds) (none_there (alike d) ds es v (not-true (any_item (alike d) all) h.0)) (apart_unused alike ds es v h.1)

apart_more : (alike : Data → Data → Bool) (ds : Items) (v : Data) → are_apart alike ds ≡ true → any_item (λ u. alike u v) ds ≡ false → are_apart alike (items_then ds (item v no_items)) ≡ true
apart_more alike no_items v p f = refl
apart_more alike (item d ds) v p f =
    let all = items_then ds (item v no_items) in
    let h = and_parts (not (any_item (alike d) ds)) (are_apart alike ds) p in
    let k = or_parts (alike d v) (any_item (λ u. alike u v) ds) f in
    and_from (not (any_item (alike d) all)) (are_apart alike all) (ap not (none_more (alike d) ds v (not-true (any_item (alike d) ds) h.0) k.0)) (apart_more alike ds v h.1 k.1)

-- ---- the items that are there

-- none
pub first_none : (q : Question) (i c : ℕ) → item_site q.pools (site q i) ≡ Some (site q c) → AreFirst q i c no_items
first_none q i c is = record { item = is; are = tt; apart = refl }

-- one unused item more
pub first_more : (q : Question) (i c n : ℕ) (used : Items) (d : Data) → AreFirst q i c used → IsUnusedItem q i c n used d → AreFirst q i c (items_then used (item d no_items))
first_more q i c n used d a f = record {
  item = a.item;
  are = parts_then q.pools (site q c) used (item d no_items) a.are (f.part.part, tt);
  apart = apart_more (alike_at (site q i)) used d a.apart f.unused;
}

-- the same items one by one
pub items_pushed : (old new : List Tree) (t : Tree) → new ≡ old ++ t ∷ [] → items_of new ≡ items_then (items_of old) (item (data_of t) no_items)
items_pushed old new t is = ap items_of is ∙ items_of-append old (t ∷ [])

-- those after items that end with an item
pub items_shift : (q : Question) (i m : ℕ) (used ds : Items) (d : Data) → AreItems q i m used (item d ds) → AreItems q i (m - node_count d) (items_then used (item d no_items)) ds
items_shift q i m used ds d a = record {
  part = subst (λ x. IsPart q.pools (site q i) (tree.list x)) (sym (then_then used (item d no_items) ds)) a.part;
  nodes_are = omega (arith, a.nodes_are);
}

pub items_unshift : (q : Question) (i m : ℕ) (used ds : Items) (d : Data) → node_count d ≤ m → AreItems q i (m - node_count d) (items_then used (item d no_items)) ds → AreItems q i m used (item d ds)
items_unshift q i m used ds d few a = record {
  part = subst (λ x. IsPart q.pools (site q i) (tree.list x)) (then_then used (item d no_items) ds) a.part;
  nodes_are = omega (arith, a.nodes_are, few);
}

-- ---- what can follow

-- the laws of a list and the node of its items: what its parts are, and that no beginning of one is a dead end
pub record HasItems (q : Question) (i c : ℕ) : Type 0 where
  pub rule : RuleOfParts q.pools q.limit (site q i)
  pub ends : NoDeadEnd q.pools q.limit (site q i)
  pub item : item_site q.pools (site q i) ≡ Some (site q c)

module _ (q : Question) (i c : ℕ) (laws : HasItems q i c) where
  pub list_parts : (ds : Items) → IsPart q.pools (site q i) (tree.list ds) → 1 + items_count ds ≤ q.limit → AreParts q.pools (site q c) ds × (are_apart (alike_at (site q i)) ds ≡ true)
  list_parts ds p within = elim ((laws.rule.list (site q c) (tree.list ds) laws.item within).0 p) [
    | inl none ↦ let e = none.0 in cc
    | inr h ↦
        let l : tree.list ds ≡ tree.list h.items = h.is in
        let e : h.items ≡ ds = cc in
        subst (λ x. AreParts q.pools (site q c) x × (are_apart (alike_at (site q i)) x ≡ true)) e (h.are, h.apart)
  ]

  module _ (used : Items) (m : ℕ) (within : 1 + items_count used + m ≤ q.limit) where
    -- an item that others follow is unused
    pub item_unused : (d : Data) (ds : Items) → AreItems q i m used (item d ds) → IsUnusedItem q i c (node_count d) used d
    item_unused d ds a =
        let all = list_parts (items_then used (item d ds)) a.part (omega (arith, then_nodes used (item d ds), a.nodes_are, within)) in
        record {
          part = record { part = (parts_split q.pools (site q c) used (item d ds) all.0).1.0; nodes_are = refl };
          unused = apart_unused (alike_at (site q i)) used ds d all.1;
        }

    -- and of a size that leaves the rest to those after it
    pub item_fits : (d : Data) (ds : Items) → AreItems q i m used (item d ds) → FitsItem q i c (fault.items_count used) m (node_count d)
    item_fits d ds a = (
      record { part = d; is = (item_unused d ds a).part.part; nodes_are = refl },
      (
        items_count ds,
        (
          record {
            items = items_then used (item d ds);
            part = a.part;
            fits = omega (arith, then_nodes used (item d ds), a.nodes_are, within);
            many = omega (arith, then_count used (item d ds));
            nodes_are = ap items_count (ap (items_from (fault.items_count used + 1)) (sym (then_then used (item d no_items) ds)) ∙ then_from (fault.items_count used + 1) (items_then used (item d no_items)) ds (omega (arith, then_count used (item d no_items))));
          },
          a.nodes_are,
        ),
      ),
    )

    -- an unused item of such a size is followed by some
    pub item_goes : (d : Data) → AreFirst q i c used → FitsItem q i c (fault.items_count used) m (node_count d) → IsUnusedItem q i c (node_count d) used d → (ds : Items) × AreItems q i m used (item d ds)
    item_goes d a fit f =
        let more = first_more q i c (node_count d) used d a f in
        let r = laws.ends.lists (site q c) (items_then used (item d no_items)) fit.1.0 laws.item more.are more.apart
        (subst (λ t. HasMore q.pools q.limit (site q i) t fit.1.0) (omega (arith, then_count used (item d no_items))) fit.1.1.0) in
        let sum = fit.1.1.1 in
        (r.back, record { part = subst (λ x. IsPart q.pools (site q i) (tree.list x)) (then_then used (item d no_items) r.back) r.part; nodes_are = omega (arith, r.nodes_are, sum) })

    -- some items do
    pub some_items : AreFirst q i c used → HasMore q.pools q.limit (site q i) (fault.items_count used) m → (ds : Items) × AreItems q i m used ds
    some_items a more = let r = laws.ends.lists (site q c) used m laws.item a.are a.apart more in (r.back, record { part = r.part; nodes_are = r.nodes_are })

    module _ (first : AreFirst q i c used) (some : 1 ≤ m) (top : m ≤ most_nodes) where
      abbrev FitsThere : ℕ → Type 0
      FitsThere n = FitsItem q i c (fault.items_count used) m n

      abbrev UnusedThere : ℕ → Data → Type 0
      UnusedThere n v = IsUnusedItem q i c n used v

      abbrev Follows : Data → Items → Type 0
      Follows d ds = AreItems q i m used (item d ds)

      abbrev FitsUnused : Data → Type 0
      FitsUnused d = FitsThere (node_count d) × UnusedThere (node_count d) d

      abbrev IsFollowed : Data → Type 0
      IsFollowed d = (ds : Items) × Follows d ds

      split_items : (ds : Items) → AreItems q i m used ds → (d : Data) × ((es : Items) × (Follows d es × (ds ≡ item d es)))
      split_items no_items a = absurd (omega (arith, a.nodes_are, some))
      split_items (item d ds) a = (d, (ds, (a, refl)))

      followed : (d : Data) → FitsUnused d → IsFollowed d
      followed d f = item_goes d first f.0 f.1

      follows : (d : Data) → IsFollowed d → FitsUnused d
      follows d f = (item_fits d f.0 f.1, item_unused d f.0 f.1)

      unused_count : (n : ℕ) (v : Data) → UnusedThere n v → node_count v ≡ n
      unused_count n v f = f.part.nodes_are

      fits_few : (n : ℕ) → FitsThere n → n ≤ m
      fits_few n f = omega (arith, f.1.1.1)

      fits_small : (n : ℕ) → FitsThere n → n ≤ most_nodes
      fits_small n f = omega (arith, fits_few n f, top)

      rest_least : (n : ℕ) (d : Data) (ds : Items) → node_count d ≡ n → n ≤ m → IsLeast items_cmp (AreItems q i (m - n) (items_then used (item d no_items))) ds → IsLeast items_cmp (Follows d) ds
      rest_least n d ds e few h = least_same items_cmp (AreItems q i (m - node_count d) (items_then used (item d no_items))) (Follows d) ds
          (λ r a. items_unshift q i m used r d (omega (arith, e, few)) a) (λ r a. items_shift q i m used r d a)
          (subst (λ x. IsLeast items_cmp (AreItems q i (m - x) (items_then used (item d no_items))) ds) (sym e) h)

      rest_next : (d : Data) (old : Items) (next : Option Items) → node_count d ≤ m → IsNext items_cmp (AreItems q i (m - node_count d) (items_then used (item d no_items))) old next → IsNext items_cmp (Follows d) old next
      rest_next d old next few h = next_same items_cmp (AreItems q i (m - node_count d) (items_then used (item d no_items))) (Follows d) old next
          (λ r a. items_unshift q i m used r d few a) (λ r a. items_shift q i m used r d a) h

      -- the first unused item of the least size, and the first items after it
      pub least_items : (n : ℕ) (d : Data) (ds : Items) → IsLeastFrom FitsThere 0 n → IsLeast tree_cmp (UnusedThere n) d → IsLeast items_cmp (AreItems q i (m - n) (items_then used (item d no_items))) ds → IsLeast items_cmp (AreItems q i m used) (item d ds)
      least_items n d ds size unused rest =
          least_pair tree_cmp items_cmp items_cmp item (AreItems q i m used) Follows tree_order (λ a b r s. refl) split_items (λ a r f. f) d ds
          (least_same tree_cmp FitsUnused IsFollowed d followed follows (first_by_size UnusedThere FitsThere unused_count fits_small n d size unused))
          (rest_least n d ds unused.is.part.nodes_are (fits_few n size.1) rest)

      -- the next items after the same one
      pub next_after : (d : Data) (old new : Items) → node_count d ≤ m → IsNext items_cmp (AreItems q i (m - node_count d) (items_then used (item d no_items))) old (Some new) → IsNext items_cmp (AreItems q i m used) (item d old) (Some (item d new))
      next_after d old new few h =
          next_rest tree_cmp items_cmp items_cmp item (AreItems q i m used) Follows tree_order (λ a b r s. refl) split_items (λ a r f. f) d old new
          (rest_next d old (Some new) few h)

      module _ (d : Data) (old : Items) (there : Follows d old) (last : IsNext items_cmp (AreItems q i (m - node_count d) (items_then used (item d no_items))) old None) where
        few : node_count d ≤ m
        few = omega (arith, there.nodes_are)

        ready : FitsUnused d
        ready = follows d (old, there)

        -- the next item of the same size, where those after it were the last
        pub next_one : (v : Data) (new : Items) → IsNext tree_cmp (UnusedThere (node_count d)) d (Some v) → IsLeast items_cmp (AreItems q i (m - node_count d) (items_then used (item v no_items))) new → IsNext items_cmp (AreItems q i m used) (item d old) (Some (item v new))
        next_one v new next rest =
            next_part tree_cmp items_cmp items_cmp item (AreItems q i m used) Follows tree_order (λ a b r s. refl) split_items (λ a r f. f) d old v new
            (rest_next d old None few last)
            (next_same tree_cmp FitsUnused IsFollowed d (Some v) followed follows (next_of_size UnusedThere FitsThere unused_count fits_small d v ready next))
            (rest_least (node_count d) v new next.is.0.part.nodes_are few rest)

        -- the first item of the next size, where it was the last of its size too
        pub next_larger : (n : ℕ) (v : Data) (new : Items) → IsNext tree_cmp (UnusedThere (node_count d)) d None → IsLeastFrom FitsThere (node_count d + 1) n → IsLeast tree_cmp (UnusedThere n) v
            → IsLeast items_cmp (AreItems q i (m - n) (items_then used (item v no_items))) new → IsNext items_cmp (AreItems q i m used) (item d old) (Some (item v new))
        next_larger n v new none size unused rest =
            next_part tree_cmp items_cmp items_cmp item (AreItems q i m used) Follows tree_order (λ a b r s. refl) split_items (λ a r f. f) d old v new
            (rest_next d old None few last)
            (next_same tree_cmp FitsUnused IsFollowed d (Some v) followed follows (next_size UnusedThere FitsThere unused_count fits_small d n v ready none size unused))
            (rest_least n v new unused.is.part.nodes_are (fits_few n size.1) rest)

        pub none_larger : IsNext tree_cmp (UnusedThere (node_count d)) d None → IsEmptyFrom FitsThere (node_count d + 1) → IsNext items_cmp (AreItems q i m used) (item d old) None
        none_larger none empty =
            no_next tree_cmp items_cmp items_cmp item (AreItems q i m used) Follows tree_order (λ a b r s. refl) split_items (λ a r f. f) d old
            (rest_next d old None few last)
            (next_same tree_cmp FitsUnused IsFollowed d None followed follows (no_next_size UnusedThere FitsThere unused_count fits_small d ready none empty))

-- ---- what the functions that fill a list answer

-- a number is a split of the sets exactly where it is one of what they hold
pub split_same : (limit m : ℕ) (A B P Q : ℕ → Type 0) → m ≤ limit → IsUpTo limit A P → IsUpTo limit B Q → (n : ℕ) → IsSplit A B m n ↔ IsSplit P Q m n
split_same limit m A B P Q top a b n = (
  λ h. (((a n).0 h.0).1, (h.1.0, (((b h.1.0).0 h.1.1.0).1, h.1.1.1))),
  λ h. ((a n).1 (omega (arith, h.1.1.1, top), h.0), (h.1.0, ((b h.1.0).1 (omega (arith, h.1.1.1, top), h.1.1.0), h.1.1.1))),
)

pub least_from_same : (A B : ℕ → Type 0) (from n : ℕ) → ((i : ℕ) → A i ↔ B i) → IsLeastFrom A from n → IsLeastFrom B from n
least_from_same A B from n same h = (h.0, (same n).0 h.1, λ i low lt b. h.2 i low lt ((same i).1 b))

empty_from_same : (A B : ℕ → Type 0) (from : ℕ) → ((i : ℕ) → A i ↔ B i) → IsEmptyFrom A from → IsEmptyFrom B from
empty_from_same A B from same h = λ i low b. h i low ((same i).1 b)

pub found_from_same : (A B : ℕ → Type 0) (from : ℕ) (o : Option ℕ) → ((i : ℕ) → A i ↔ B i) → MatchOption o (IsEmptyFrom A from) (IsLeastFrom A from) → MatchOption o (IsEmptyFrom B from) (IsLeastFrom B from)
found_from_same A B from (Some n) same h = least_from_same A B from n same h
found_from_same A B from None same h = empty_from_same A B from same h

no_items_least : (q : Question) (i : ℕ) (used ds : Items) → AreItems q i 0 used ds → items_cmp ds no_items ≡ Less → ⊥
no_items_least q i used no_items a less = cc
no_items_least q i used (item d ds) a less = omega (arith, some_nodes d, a.nodes_are)

pub none_follow : (q : Question) (i : ℕ) (used ds : Items) → AreItems q i 0 used ds → IsLeast items_cmp (AreItems q i 0 used) no_items
none_follow q i used no_items a = record { is = a; least = no_items_least q i used }
none_follow q i used (item d ds) a = absurd (omega (arith, some_nodes d, a.nodes_are))

module _ (q : Question) (i c : ℕ) (laws : HasItems q i c) where
  -- nothing comes after the items
  pub adds_none : (m : ℕ) (old : List Tree) → m ≡ 0 → CanFollow q i c m (items_of old) → AddsItems q i m old old
  adds_none m old e h =
      let follow = subst (λ x. CanFollow q i c x (items_of old)) e h in
      let ds = some_items q i c laws (items_of old) 0 follow.within follow.first follow.more in
      subst (λ x. AddsItems q i x old old) (sym e) (record { added = []; is = sym (append-nil old); least = none_follow q i (items_of old) ds.0 ds.1 })

  fits_first : (m : ℕ) (old : List Tree) → 1 ≤ m → CanFollow q i c m (items_of old) → (ds : Items) → AreItems q i m (items_of old) ds → IsEmptyFrom (FitsItem q i c (length old) m) 0 → ⊥
  fits_first m old some h no_items a none = omega (arith, some, a.nodes_are)
  fits_first m old some h (item d ds) a none =
      none (node_count d) (omega arith) (subst (λ t. FitsItem q i c t m (node_count d)) (counted old) (item_fits q i c laws (items_of old) m h.within d ds a))

  -- an item, and the first items after it
  pub adds_item : (m : ℕ) (old new : List Tree) → 1 ≤ m → m ≤ most_nodes → CanFollow q i c m (items_of old) → GrowsItems q i c m 0 old new → AddsItems q i m old new
  adds_item m old new some top h g =
      let after = subst (λ ds. IsLeast items_cmp (AreItems q i (m - g.size) ds) (items_of g.rest.added)) (items_of-append old (g.one ∷ [])) g.rest.least in
      record {
        added = g.one ∷ g.rest.added;
        is = g.rest.is ∙ append_assoc old (g.one ∷ []) g.rest.added;
        least = least_items q i c laws (items_of old) m h.within h.first some top g.size (data_of g.one) (items_of g.rest.added)
            (subst (λ t. IsLeastFrom (FitsItem q i c t m) 0 g.size) (sym (counted old)) g.least) g.first after;
      }

  pub adds_grown : (made : NextParts) (m : ℕ) (old new : List Tree) → 1 ≤ m → m ≤ most_nodes → CanFollow q i c m (items_of old) → AreGrown made q i c m 0 old new → AddsItems q i m old new
  adds_grown (Made n) m old new some top h g = adds_item m old new some top h g.0
  adds_grown (Last n) m old new some top h g =
      let ds = some_items q i c laws (items_of old) m h.within h.first h.more in
      absurd (fits_first m old some h ds.0 ds.1 g.1)

  -- some item fits, so that items were put there
  pub grown_items_continue : (made : NextParts) (m : ℕ) (old new : List Tree) (cs : List Data) → 1 ≤ m → m ≤ most_nodes → CanFollow q i c m (items_of old) → AreGrown made q i c m 0 old new → GrownItemsContinue made q i c (items_of new) cs → ItemsContinue q i c (items_of new) cs
  grown_items_continue (Made n) m old new cs some top h g continue = continue
  grown_items_continue (Last n) m old new cs some top h g continue =
      let ds = some_items q i c laws (items_of old) m h.within h.first h.more in
      absurd (fits_first m old some h ds.0 ds.1 g.1)

-- what can follow an item that was put after the others
module _ (q : Question) (i c : ℕ) where
  pub follow_item : (m n : ℕ) (old new : List Tree) (t : Tree) → AreFirst q i c (items_of old) → 1 + items_count (items_of old) + m ≤ q.limit → FitsItem q i c (length old) m n → IsUnusedItem q i c n (items_of old) (data_of t)
      → new ≡ old ++ t ∷ [] → CanFollow q i c (m - n) (items_of new)
  follow_item m n old new t first within fit unused is =
      let pushed = items_pushed old new t is in
      let after : fit.1.0 ≡ m - n = omega (arith, fit.1.1.1) in
      let count : length old + 1 ≡ fault.items_count (items_of new) = rw pushed (omega (arith, then_count (items_of old) (item (data_of t) no_items), counted old)) in
      record {
        first = subst (AreFirst q i c) (sym pushed) (first_more q i c n (items_of old) (data_of t) first unused);
        more = subst (λ k. HasMore q.pools q.limit (site q i) k (m - n)) count (subst (HasMore q.pools q.limit (site q i) (length old + 1)) after fit.1.1.0);
        within = subst (λ ds. 1 + items_count ds + (m - n) ≤ q.limit) (sym pushed) (omega (arith, then_nodes (items_of old) (item (data_of t) no_items), unused.part.nodes_are, within, fit.1.1.1));
      }

-- ---- nodes and their sites

pub site_among : (q : Question) (i : ℕ) → IsNodeOf q i → Contains (sites_of q.pools q.root) (site q i)
site_among q i h = Contains-get_or (sites_of q.pools q.root) i _ h
