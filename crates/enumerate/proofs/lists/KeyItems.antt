-- The items of a map list: rows of which no two have the same values under all keys.
use Rattle.std.specs.Prelude.{◌≡◌, ◌≢◌, ℕ, ◌+◌, ◌-◌, ◌≤◌, ◌<◌, List, true, not, filter, All}
use Rattle.std.proofs.Common.{refl, ap, sym, ◌∙◌, subst, inl, inr, arith, [], ◌∷◌, length}
use Rattle.std.proofs.lemmas.Bool.{and_parts, false_from_ne_true, not-true}
use Rattle.std.proofs.lemmas.List.Elements.{All-contains}
use Rattle.std.proofs.lemmas.List.{length-map}
use Rattle.jtree.specs.Data.{Data, Items, no_items, item}
use Rattle.jtree.specs.Data as tree
use Rattle.jtree.specs.Nodes.{node_count}
use Rattle.jtree.specs.Order.{tree_cmp}
use Rattle.jtree.specs.Internal.Rising.{Among, Rising, contained, contains, each_of, all_pairs}
use Rattle.jtree.specs.View.{data_of, tree_from, items_of}
use Rattle.jtree.specs.declared.value.Tree.{Tree}
use Rattle.schema.specs.Rules.Keywords.{any_item}
use Rattle.stored.specs.Objects.Fault as fault
use Rattle.stored.specs.Objects.StoredByParts.{are_apart}
use Rattle.plan.specs.Samples.Part.{IsPart}
use Rattle.plan.specs.Samples.Sites.{Slot}
use Rattle.plan.specs.Samples.RuleOfParts.{RuleOfParts, AreParts, alike_at, IsListPart}
use Rattle.plan.specs.Samples.Sizes.{HasMore}
use Rattle.plan.specs.Samples.NoDeadEnd.{is_key, IsTuple, AreCounts}
use Rattle.plan.specs.Samples.Keys.{HasSoundParts, AreMapItems, key_under}
use Rattle.plan.specs.Samples.Question.{Question}
use Rattle.enumerate.specs.Least.{IsLeast}
use Rattle.enumerate.specs.View.{trees_of}
use Rattle.enumerate.specs.Internal.Nodes.{site, IsPartOf, HasSizeAt, FreeLaw}
use Rattle.enumerate.specs.Internal.Rows.{slots_from, row_demand, key_values, used_keys, AreUsed, IsOpen, IsRow}
use Rattle.enumerate.specs.Internal.Lists.{AreFirst, IsUnusedItem}
use Rattle.enumerate.proofs.lists.UnusedItems.{own_keys}
use Rattle.enumerate.proofs.lists.Whole.{among_parts}
use Rattle.enumerate.proofs.lists.Whole.{any_false, false_any}
use Rattle.enumerate.proofs.walks.Least.{least_same}
use Rattle.enumerate.proofs.lists.Lemmas.{counted, few_items}
use Rattle.enumerate.proofs.rows.Parts.{plain_row, row_plain}
use Rattle.enumerate.proofs.rows.Lemmas.{known, map_among, among_map}

module _ (q : Question) (i c : ℕ) (rule : RuleOfParts q.pools q.limit (site q c)) (sound : HasSoundParts q.pools (site q c)) (items : AreMapItems q.pools (site q i) (site q c)) where
  abbrev ss : List Slot
  ss = slots_from q c 0

  must_keys : (s : Slot) → Among ss s → s.key ≡ true → s.must ≡ true
  must_keys s a key = (sound.keys s (contains ss s a) key).must

  row_of : (n : ℕ) (v : Data) → IsPartOf q c n v → IsRow q c (n - 1) [] v
  row_of n v p = plain_row q c rule items.row n v p (λ one. items.never_null)

  key_is : (n : ℕ) (v : Data) (p : IsPartOf q c n v) → key_under ss v ≡ key_values ss (row_of n v p).fillings
  key_is n v p = let r = row_of n v p in ap (key_under ss) r.is ∙ own_keys q.pools ss r.fillings sound.order r.rest.are must_keys

  -- where no earlier item is alike
  pub unused_row : (ts : List Tree) (n : ℕ) (v : Data) → AreParts q.pools (site q c) (items_of ts) → IsUnusedItem q i c n (items_of ts) v → IsRow q c (n - 1) (trees_of ts) v
  unused_row ts n v parts h =
      let r = row_of n v h.part in
      record {
        fillings = r.fillings;
        is = r.is;
        rest = record {
          are = r.rest.are;
          ends = r.rest.ends;
          nodes_are = r.rest.nodes_are;
          unused = λ k.
              let u = among_map (key_under ss) (trees_of ts) (key_values ss r.fillings) (contained _ _ k) in
              let yes = (items.alike u.0 v (among_parts q.pools (site q c) ts parts u.0 u.1.0) h.part.part).1 (u.1.1 ∙ sym (key_is n v h.part)) in
              let no = any_false (λ w. alike_at (site q i) w v) ts h.unused u.0 u.1.0 in
              let both = sym yes ∙ no in
              cc;
        };
      }

  pub row_unused : (ts : List Tree) (n : ℕ) (v : Data) → 1 ≤ n → AreParts q.pools (site q c) (items_of ts) → IsRow q c (n - 1) (trees_of ts) v → IsUnusedItem q i c n (items_of ts) v
  row_unused ts n v some parts r =
      let p = row_plain q c rule items.row n v some (record { fillings = r.fillings; is = r.is; rest = record { are = r.rest.are; ends = r.rest.ends; nodes_are = r.rest.nodes_are; unused = λ k. contained [] _ k } }) in
      let key : key_under ss v ≡ key_values ss r.fillings = ap (key_under ss) r.is ∙ own_keys q.pools ss r.fillings sound.order r.rest.are must_keys in
      record {
        part = p;
        unused = false_any (λ w. alike_at (site q i) w v) ts (λ u a. false_from_ne_true (alike_at (site q i) u v) (λ yes.
            let same = (items.alike u v (among_parts q.pools (site q c) ts parts u a) p.part).0 yes in
            r.rest.unused (contains _ _ (subst (Among (used_keys ss (trees_of ts))) (same ∙ key) (map_among (key_under ss) (trees_of ts) u a)))));
      }

  pub item_least : (ts : List Tree) (n : ℕ) (v : Data) → 1 ≤ n → AreParts q.pools (site q c) (items_of ts) → IsLeast tree_cmp (IsRow q c (n - 1) (trees_of ts)) v → IsLeast tree_cmp (IsUnusedItem q i c n (items_of ts)) v
  item_least ts n v some parts h = least_same tree_cmp (IsRow q c (n - 1) (trees_of ts)) (IsUnusedItem q i c n (items_of ts)) v (λ u r. row_unused ts n u some parts r) (λ u f. unused_row ts n u parts f) h

  -- ---- the keys of items

  tuple : (v : Data) → IsPart q.pools (site q c) v → IsTuple q.pools (filter is_key ss) (key_under ss v)
  tuple v p =
      let own : IsPartOf q c (node_count v) v = record { part = p; nodes_are = refl } in
      subst (IsTuple q.pools (filter is_key ss)) (sym (key_is (node_count v) v own)) (known q.pools ss (row_of (node_count v) v own).fillings sound.keys (row_of (node_count v) v own).rest.are)

  tuples : (ts : List Tree) → AreParts q.pools (site q c) (items_of ts) → All (IsTuple q.pools (filter is_key ss)) (used_keys ss (trees_of ts))
  tuples ts parts = each_of (IsTuple q.pools (filter is_key ss)) (used_keys ss (trees_of ts)) (λ k a.
      let u = among_map (key_under ss) (trees_of ts) k a in
      subst (IsTuple q.pools (filter is_key ss)) u.1.1 (tuple u.0 (among_parts q.pools (site q c) ts parts u.0 u.1.0)))

  apart : (ts : List Tree) → AreParts q.pools (site q c) (items_of ts) → are_apart (alike_at (site q i)) (items_of ts) ≡ true → Rising (λ t u. t ≢ u) (used_keys ss (trees_of ts))
  apart [] parts h = tt
  apart (t ∷ ts) parts h =
      let both = and_parts (not (any_item (alike_at (site q i) (data_of t)) (items_of ts))) (are_apart (alike_at (site q i)) (items_of ts)) h in (
        (λ k a e.
            let u = among_map (key_under ss) (trees_of ts) k a in
            let yes = (items.alike (data_of t) u.0 parts.0 (among_parts q.pools (site q c) ts parts.1 u.0 u.1.0)).1 (e ∙ sym u.1.1) in
            let no = any_false (λ w. alike_at (site q i) (data_of t) w) ts (not-true _ both.0) u.0 u.1.0 in
            let clash = sym yes ∙ no in
            cc),
        apart ts parts.1 both.1,
      )

  pub items_used : (ts : List Tree) → length ts < 4294967296 → AreParts q.pools (site q c) (items_of ts) → are_apart (alike_at (site q i)) (items_of ts) ≡ true → AreUsed q.pools ss (trees_of ts)
  items_used ts few parts h = record {
    few = let n = length-map ts (λ t. data_of t) in omega (arith, n, few);
    tuples = tuples ts parts;
    apart = all_pairs (λ t u. t ≢ u) _ (apart ts parts h);
  }

  -- an item can be added to fewer items than some list has: it has a key that is not used
  module _ (law : FreeLaw) (counts : List ℕ) (are : AreCounts q.pools (filter is_key ss) counts) where
    pub items_open : (ts us : List Tree) (n : ℕ) → length ts < 4294967296 → length ts < length us → AreFirst q i c (items_of ts) → AreFirst q i c (items_of us) → HasSizeAt q c n → IsOpen q.pools ss (row_demand q c (n - 1) (trees_of ts))
    items_open ts [] n few fewer old new size = absurd (omega (arith, fewer))
    items_open ts (u ∷ us) n few fewer old new size =
        let r = row_of n size.part (record { part = size.is; nodes_are = size.nodes_are }) in
        let keys = apart (u ∷ us) new.are new.apart in
        let all = tuples (u ∷ us) new.are in
        let used = items_used ts few old.are old.apart in
        let first = All-contains (IsTuple q.pools (filter is_key ss)) (used_keys ss (trees_of (u ∷ us))) (key_under ss (data_of u)) all (contains (used_keys ss (trees_of (u ∷ us))) (key_under ss (data_of u)) (inl refl)) in
        let rest = (law q.pools (filter is_key ss) (used_keys ss (trees_of us)) counts (tuples us new.are.1) (all_pairs (λ t w. t ≢ w) _ keys.1) are).0 (key_under ss (data_of u), (first, λ k. keys.0 (key_under ss (data_of u)) (contained _ _ k) refl)) in
        let a = length-map (trees_of us) (key_under ss) in
        let b = length-map us (λ t. data_of t) in
        let x = length-map (trees_of ts) (key_under ss) in
        let y = length-map ts (λ t. data_of t) in
        record {
          known = used;
          rest = record { fillings = r.fillings; are = r.rest.are; ends = r.rest.ends; nodes_are = r.rest.nodes_are };
          free = (law q.pools (filter is_key ss) (used_keys ss (trees_of ts)) counts used.tuples used.apart are).1 (omega (arith, a, b, x, y, fewer, rest));
        }

-- ---- the items of a list as trees

trees_from : Items → List Tree
trees_from no_items = []
trees_from (item d ds) = tree_from d ∷ trees_from ds

data_from : (d : Data) → data_of (tree_from d) ≡ d
data_from tree.null = refl
data_from (tree.boolean b) = refl
data_from (tree.integer z) = refl
data_from (tree.number t) = refl
data_from (tree.text t) = refl
data_from (tree.list ds) = refl
data_from (tree.object ms) = refl

items_from : (ds : Items) → items_of (trees_from ds) ≡ ds
unfolding trees_from
items_from no_items = refl
items_from (item d ds) = λ k. item (data_from d k) (items_from ds k)

module _ (q : Question) (i c : ℕ) (whole : RuleOfParts q.pools q.limit (site q i)) (rule : RuleOfParts q.pools q.limit (site q c)) (sound : HasSoundParts q.pools (site q c)) (items : AreMapItems q.pools (site q i) (site q c)) where
  -- where some list has one item more
  pub item_open : FreeLaw → (counts : List ℕ) → AreCounts q.pools (filter is_key (slots_from q c 0)) counts → (ts : List Tree) (n m : ℕ) → q.limit < 4294967296 → AreFirst q i c (items_of ts) → HasMore q.pools q.limit (site q i) (length ts + 1) m → HasSizeAt q c n
      → IsOpen q.pools (slots_from q c 0) (row_demand q c (n - 1) (trees_of ts))
  item_open law counts are ts n m room first more size =
      let part = elim ((whole.list (site q c) (tree.list more.items) first.item more.fits).0 more.part) as (λ _. IsListPart q.pools q.limit (site q i) (site q c) (tree.list more.items)) [
        | inl null ↦ let no = null.0 in absurd (cc)
        | inr l ↦ l
      ] in
      let same : part.items ≡ more.items = cc (part.is) in
      let us = trees_from part.items in
      let back = items_from part.items in
      let count = counted us in
      let enough : fault.items_count (items_of us) ≡ fault.items_count more.items = ap fault.items_count (back ∙ same) in
      let few = few_items more.items in
      let fits = more.fits in
      let all = subst (AreFirst q i c) (sym back) (record { item = first.item; are = part.are; apart = part.apart }) in
      items_open q i c rule sound items law counts are ts us n (omega (arith, more.many, few, fits, room)) (omega (arith, more.many, count, enough)) first all size
