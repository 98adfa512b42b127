-- Lists from their last item on: what was there after those that are left, and what takes its place.
use Rattle.std.proofs.Common.{◌≡◌, ◌==◌, ◌≤◌, ◌+◌, ◌-◌, ◌++◌, ℕ, List, [], ◌∷◌, true, false, Some, None, refl, sym, ap, ◌∙◌, subst, arith, length}
use Rattle.std.proofs.lemmas.Bool.{eqb-true, eq-eqb}
use Rattle.std.specs.declared.cmp.Ordering.TheVariants.{Less}
use Rattle.jtree.specs.Data.{Data, Items, no_items, item}
use Rattle.jtree.specs.Data as tree
use Rattle.jtree.specs.Nodes.{node_count, items_count, most_nodes}
use Rattle.jtree.specs.Order.{tree_cmp, items_cmp}
use Rattle.jtree.specs.View.{data_of, items_of}
use Rattle.jtree.specs.declared.value.Tree.{Tree}
use Rattle.stored.specs.Objects.Fault as fault
use Rattle.plan.specs.Sets.{IsLeastFrom, IsEmptyFrom}
use Rattle.plan.specs.Samples.Part.{IsPart}
use Rattle.plan.specs.Samples.RuleOfParts.{RuleOfParts, alike_at}
use Rattle.plan.specs.Samples.NoDeadEnd.{items_then}
use Rattle.plan.specs.Samples.Candidates.{sort_of}
use Rattle.plan.specs.declared.sort.Sort.TheVariants as sort
use Rattle.plan.specs.Samples.Question.{Question}
use Rattle.enumerate.specs.Least.{IsLeast, IsNext}
use Rattle.enumerate.specs.Internal.Nodes.{site, IsPartOf}
use Rattle.enumerate.specs.declared.walk.NextParts.{NextParts}
use Rattle.enumerate.specs.declared.walk.NextParts.TheVariants.{Made, Last}
use Rattle.enumerate.specs.Internal.Lists.{AreItems, AreFirst, CanFollow, IsUnusedItem, AddsItems, FitsItem, AreGrown}
use Rattle.enumerate.proofs.lists.Lemmas.{HasItems, some_nodes, then_then, then_none, then_nodes, parts_split, apart_front, list_parts, item_unused, item_fits, next_one, next_larger, none_larger, items_of-append, items_pushed, counted, follow_item}
use Rattle.enumerate.proofs.lists.Moves.{AreFirstOnes, next_whole}
use Rattle.enumerate.proofs.lists.Whole.{list_order, part_list}
use Rattle.enumerate.proofs.walks.Nulls.{never_null}

-- the list begins with the items that are left, and its other items are the last ones of as many nodes that can follow on them
pub record WereLast (q : Question) (i room : ℕ) (old left : Items) : Type 0 where
  pub after : Items
  pub is : old ≡ items_then left after
  pub nodes_are : items_count after ≡ room
  pub last : IsNext items_cmp (AreItems q i room left) after None

-- nothing comes after no items
pub all_left : (q : Question) (i : ℕ) (old : Items) → WereLast q i 0 old old
all_left q i old = record { after = no_items; is = sym (then_none old); nodes_are = refl; last = λ ds a less. past_none q i old ds a less }
  where
    past_none : (q : Question) (i : ℕ) (old ds : Items) → AreItems q i 0 old ds → items_cmp no_items ds ≡ Less → ⊥
    past_none q i old no_items a less = cc
    past_none q i old (item d ds) a less = omega (arith, some_nodes d, a.nodes_are)

-- where none is left, the whole list was the last one
pub walk_ended : (q : Question) (i room : ℕ) (old : Items) → WereLast q i room old no_items → IsNext items_cmp (AreItems q i (items_count old) no_items) old None × (items_count old ≡ room)
walk_ended q i room old w =
    let count : items_count old ≡ room = ap items_count w.is ∙ w.nodes_are in
    (subst (λ k. IsNext items_cmp (AreItems q i k no_items) old None) (sym count) (subst (λ ds. IsNext items_cmp (AreItems q i room no_items) ds None) (sym w.is) w.last), count)

-- one item is taken from the end
module _ (q : Question) (i room : ℕ) (old front : Items) (d : Data) (w : WereLast q i room old (items_then front (item d no_items))) where
  walk_is : old ≡ items_then front (item d w.after)
  walk_is = w.is ∙ then_then front (item d no_items) w.after

  walk_nodes : items_count old ≡ items_count front + (node_count d + room)
  walk_nodes = ap items_count walk_is ∙ then_nodes front (item d w.after) ∙ ap (λ n. items_count front + (node_count d + n)) w.nodes_are

module _ (q : Question) (i c : ℕ) (laws : HasItems q i c) where
  -- the items in front of others
  pub first_front : (front rest : Items) → IsPart q.pools (site q i) (tree.list (items_then front rest)) → 1 + items_count (items_then front rest) ≤ q.limit → AreFirst q i c front
  first_front front rest p within =
      let all = list_parts q i c laws (items_then front rest) p within in
      record { item = laws.item; are = (parts_split q.pools (site q c) front rest all.0).0; apart = apart_front (alike_at (site q i)) front rest all.1 }

  pub first_ones : (used front rest : Items) → IsPart q.pools (site q i) (tree.list (items_then used (items_then front rest))) → 1 + items_count (items_then used (items_then front rest)) ≤ q.limit → AreFirstOnes q i c used front
  first_ones used no_items rest p within = first_front used rest p within
  first_ones used (item d front) rest p within =
      let e = sym (then_then used (item d no_items) (items_then front rest)) in (
        first_front used (item d (items_then front rest)) p within,
        first_ones (items_then used (item d no_items)) front rest (subst (λ x. IsPart q.pools (site q i) (tree.list x)) e p) (subst (λ x. 1 + items_count x ≤ q.limit) e within),
      )

  -- one item is taken from the end
  module _ (old : Items) (part : IsPart q.pools (site q i) (tree.list old)) (within : 1 + items_count old ≤ q.limit) (top : q.limit ≤ most_nodes)
      (room : ℕ) (front : Items) (d : Data) (w : WereLast q i room old (items_then front (item d no_items))) where
    walk_items : AreItems q i (node_count d + room) front (item d w.after)
    walk_items = record { part = subst (λ x. IsPart q.pools (site q i) (tree.list x)) (walk_is q i room old front d w) part; nodes_are = ap (λ n. node_count d + n) w.nodes_are }

    walk_within : 1 + items_count front + (node_count d + room) ≤ q.limit
    walk_within = omega (arith, (walk_nodes q i room old front d w), within)

    walk_count : 1 + items_count (items_then front (item d w.after)) ≤ q.limit
    walk_count = subst (λ x. 1 + items_count x ≤ q.limit) (walk_is q i room old front d w) within

    pub walk_first : AreFirst q i c front
    walk_first = first_front front (item d w.after) walk_items.part walk_count

    pub walk_unused : IsUnusedItem q i c (node_count d) front d
    walk_unused = item_unused q i c laws front (node_count d + room) walk_within d w.after walk_items

    pub walk_fits : FitsItem q i c (fault.items_count front) (node_count d + room) (node_count d)
    walk_fits = item_fits q i c laws front (node_count d + room) walk_within d w.after walk_items

    walk_some : 1 ≤ node_count d + room
    walk_some = omega (arith, some_nodes d)

    walk_top : node_count d + room ≤ most_nodes
    walk_top = omega (arith, walk_within, top)

    walk_last : IsNext items_cmp (AreItems q i (node_count d + room - node_count d) (items_then front (item d no_items))) w.after None
    walk_last = subst (λ k. IsNext items_cmp (AreItems q i k (items_then front (item d no_items))) w.after None) (omega arith) w.last

    -- what comes next after the items in front does so in the whole list
    walk_whole : (new : Items) → IsNext items_cmp (AreItems q i (node_count d + room) front) (item d w.after) (Some new) → IsNext items_cmp (AreItems q i (items_count old) no_items) old (Some (items_then front new))
    walk_whole new h =
        let all = next_whole q i c laws no_items front (node_count d + room) (item d w.after) new (omega (arith, walk_within)) (omega (arith, walk_within, top)) (first_ones no_items front (item d w.after) walk_items.part walk_count) h in
        subst (λ k. IsNext items_cmp (AreItems q i k no_items) old (Some (items_then front new))) (sym (walk_nodes q i room old front d w))
        (subst (λ x. IsNext items_cmp (AreItems q i (items_count front + (node_count d + room)) no_items) x (Some (items_then front new))) (sym (walk_is q i room old front d w)) all)

    pub walk_next : (next : Data) (added : Items) → IsNext tree_cmp (IsUnusedItem q i c (node_count d) front) d (Some next) → IsLeast items_cmp (AreItems q i room (items_then front (item next no_items))) added
        → IsNext items_cmp (AreItems q i (items_count old) no_items) old (Some (items_then front (item next added)))
    walk_next next added h rest =
        let left : room ≡ node_count d + room - node_count d = omega arith in
        let there = subst (λ k. IsLeast items_cmp (AreItems q i k (items_then front (item next no_items))) added) left rest in
        walk_whole (item next added) (next_one q i c laws front (node_count d + room) walk_within walk_first walk_some walk_top d w.after walk_items walk_last next added h there)

    module _ (none : IsNext tree_cmp (IsUnusedItem q i c (node_count d) front) d None) where
      pub walk_larger : (n : ℕ) (v : Data) (added : Items) → IsLeastFrom (FitsItem q i c (fault.items_count front) (node_count d + room)) (node_count d + 1) n → IsLeast tree_cmp (IsUnusedItem q i c n front) v
          → IsLeast items_cmp (AreItems q i (node_count d + room - n) (items_then front (item v no_items))) added → IsNext items_cmp (AreItems q i (items_count old) no_items) old (Some (items_then front (item v added)))
      walk_larger n v added size unused rest = walk_whole (item v added) (next_larger q i c laws front (node_count d + room) walk_within walk_first walk_some walk_top d w.after walk_items walk_last n v added none size unused rest)

      pub walk_back : IsEmptyFrom (FitsItem q i c (fault.items_count front) (node_count d + room)) (node_count d + 1) → WereLast q i (node_count d + room) old front
      walk_back empty = record {
        after = item d w.after;
        is = walk_is q i room old front d w;
        nodes_are = walk_items.nodes_are;
        last = none_larger q i c laws front (node_count d + room) walk_within walk_first walk_some walk_top d w.after walk_items walk_last none empty;
      }

-- ---- the same of the items in memory

added_is : (front added now : List Tree) (one : Tree) → now ≡ (front ++ one ∷ []) ++ added → items_of now ≡ items_then (items_of front) (item (data_of one) (items_of added))
added_is front added now one is =
    ap items_of is ∙ (items_of-append (front ++ one ∷ []) added ∙ (ap (λ x. items_then x (items_of added)) (items_of-append front (one ∷ [])) ∙ then_then (items_of front) (item (data_of one) no_items) (items_of added)))

-- one item less, and those after it the last ones; or a next list
abbrev pub IsWalked : NextParts → Question → ℕ → ℕ → Items → List Tree → List Tree → Type 0
IsWalked (Made n) q i room old front now = IsNext items_cmp (AreItems q i (items_count old) no_items) old (Some (items_of now)) × (n ≡ 0)
IsWalked (Last n) q i room old front now = (now ≡ front) × WereLast q i room old (items_of now)

last_before : (q : Question) (i room : ℕ) (old : Items) (left front : List Tree) (one : Tree) → left ≡ front ++ one ∷ [] → WereLast q i room old (items_of left) → WereLast q i room old (items_then (items_of front) (item (data_of one) no_items))
last_before q i room old left front one popped last = subst (WereLast q i room old) (items_pushed front left one popped) last

pub front_nodes : (q : Question) (i room : ℕ) (old : Items) (left front : List Tree) (one : Tree) → left ≡ front ++ one ∷ [] → WereLast q i room old (items_of left) → items_count old ≡ items_count (items_of front) + (node_count (data_of one) + room)
front_nodes q i room old left front one popped last = walk_nodes q i room old (items_of front) (data_of one) (last_before q i room old left front one popped last)

module _ (q : Question) (i c : ℕ) (laws : HasItems q i c)
    (old : Items) (part : IsPart q.pools (site q i) (tree.list old)) (within : 1 + items_count old ≤ q.limit) (top : q.limit ≤ most_nodes)
    (room : ℕ) (left front : List Tree) (one : Tree) (popped : left ≡ front ++ one ∷ []) (last : WereLast q i room old (items_of left)) where
  before : WereLast q i room old (items_then (items_of front) (item (data_of one) no_items))
  before = last_before q i room old left front one popped last

  pub front_first : AreFirst q i c (items_of front)
  front_first = walk_first q i c laws old part within top room (items_of front) (data_of one) before

  pub front_unused : IsUnusedItem q i c (node_count (data_of one)) (items_of front) (data_of one)
  front_unused = walk_unused q i c laws old part within top room (items_of front) (data_of one) before

  -- the rest of the nodes can come after another item of as many nodes
  pub front_follow : (next : Tree) (now : List Tree) → IsNext tree_cmp (IsUnusedItem q i c (node_count (data_of one)) (items_of front)) (data_of one) (Some (data_of next)) → now ≡ front ++ next ∷ [] → CanFollow q i c room (items_of now)
  front_follow next now h is =
      let n = node_count (data_of one) in
      let fits = subst (λ t. FitsItem q i c t (n + room) n) (counted front) (walk_fits q i c laws old part within top room (items_of front) (data_of one) before) in
      subst (λ k. CanFollow q i c k (items_of now)) (omega arith) (follow_item q i c (n + room) n front now next front_first (omega (arith, front_nodes q i room old left front one popped last, within)) fits h.is.0 is)

  pub front_next : (next : Tree) (now : List Tree) → IsNext tree_cmp (IsUnusedItem q i c (node_count (data_of one)) (items_of front)) (data_of one) (Some (data_of next)) → AddsItems q i room (front ++ next ∷ []) now → IsNext items_cmp (AreItems q i (items_count old) no_items) old (Some (items_of now))
  front_next next now h a =
      subst (λ x. IsNext items_cmp (AreItems q i (items_count old) no_items) old (Some x)) (sym (added_is front a.added now next a.is))
      (walk_next q i c laws old part within top room (items_of front) (data_of one) before (data_of next) (items_of a.added) h
      (subst (λ x. IsLeast items_cmp (AreItems q i room x) (items_of a.added)) (items_of-append front (next ∷ [])) a.least))

  module _ (none : IsNext tree_cmp (IsUnusedItem q i c (node_count (data_of one)) (items_of front)) (data_of one) None) where
    walked : (made : NextParts) (now : List Tree) → AreGrown made q i c (node_count (data_of one) + room) (node_count (data_of one) + 1) front now → IsWalked made q i (node_count (data_of one) + room) old front now
    walked (Made n) now both =
        let g = both.0 in
        let m = node_count (data_of one) + room in (
          subst (λ x. IsNext items_cmp (AreItems q i (items_count old) no_items) old (Some x)) (sym (added_is front g.rest.added now g.one g.rest.is))
              (walk_larger q i c laws old part within top room (items_of front) (data_of one) before none g.size (data_of g.one) (items_of g.rest.added)
              (subst (λ t. IsLeastFrom (FitsItem q i c t m) (node_count (data_of one) + 1) g.size) (sym (counted front)) g.least) g.first
              (subst (λ x. IsLeast items_cmp (AreItems q i (m - g.size) x) (items_of g.rest.added)) (items_of-append front (g.one ∷ [])) g.rest.least)),
          both.1,
        )
    walked (Last n) now g =
        let m = node_count (data_of one) + room in
        let back = walk_back q i c laws old part within top room (items_of front) (data_of one) before none
        (subst (λ t. IsEmptyFrom (FitsItem q i c t m) (node_count (data_of one) + 1)) (sym (counted front)) g.1) in
        (g.0, subst (λ ts. WereLast q i m old (items_of ts)) (sym g.0) back)

    pub front_walked : (made : NextParts) (size : ℕ) (now : List Tree) → node_count (data_of one) ≡ size → AreGrown made q i c (room + size) (size + 1) front now → IsWalked made q i (room + size) old front now
    front_walked made size now e g =
        let sum : node_count (data_of one) + room ≡ room + size = omega (arith, e) in
        subst (λ m. IsWalked made q i m old front now) sum
        (walked made now (subst (λ m. AreGrown made q i c m (node_count (data_of one) + 1) front now) (sym sum) (subst (λ s. AreGrown made q i c (room + size) (s + 1) front now) (sym e) g)))

-- ---- whole lists

module _ (q : Question) (i : ℕ) (rule : RuleOfParts q.pools q.limit (site q i)) (is_list : sort_of (site q i) ≡ sort.List) (old : Items) (within : 1 + items_count old ≤ q.limit) where
  -- a part of as many nodes past a list is a list too
  past_list : (v : Data) → IsPartOf q i (1 + items_count old) v → tree_cmp (tree.list old) v ≡ Less → (ds : Items) × (AreItems q i (items_count old) no_items ds × ((v ≡ tree.list ds) × (items_cmp old ds ≡ Less)))
  past_list v p less =
      let r = part_list q i rule is_list v p.part (omega (arith, p.nodes_are, within)) (λ is _. never_null (tree.list old) v p.nodes_are less is) in
      let count : 1 + items_count r.0 ≡ 1 + items_count old = sym (ap node_count r.1) ∙ p.nodes_are in
      let same : items_count r.0 ≡ items_count old = omega (arith, count) in
      (r.0, (record { part = subst (IsPart q.pools (site q i)) r.1 p.part; nodes_are = same }, (r.1, sym (list_order old r.0 (sym same)) ∙ subst (λ u. tree_cmp (tree.list old) u ≡ Less) r.1 less)))

  pub list_moved : (new : Items) → IsNext items_cmp (AreItems q i (items_count old) no_items) old (Some new) → IsNext tree_cmp (IsPartOf q i (1 + items_count old)) (tree.list old) (Some (tree.list new))
  list_moved new h = record {
    is = (record { part = h.is.0.part; nodes_are = ap (λ n. 1 + n) h.is.0.nodes_are }, list_order old new (sym h.is.0.nodes_are) ∙ h.is.1);
    least = λ v past less.
        let r = past_list v past.0 past.1 in
        h.least r.0 (r.1.0, r.1.1.1) (sym (list_order r.0 new (r.1.0.nodes_are ∙ sym h.is.0.nodes_are)) ∙ subst (λ u. tree_cmp u (tree.list new) ≡ Less) r.1.1.0 less);
  }

  pub list_stays : IsNext items_cmp (AreItems q i (items_count old) no_items) old None → IsNext tree_cmp (IsPartOf q i (1 + items_count old)) (tree.list old) None
  list_stays h v p less = let r = past_list v p less in h r.0 r.1.0 r.1.1.1

-- ---- costs

-- what costs no more than a move to no next one
pub no_more : (ts : List Tree) → length ts ≡ 0 → ts ≡ []
no_more [] e = refl
no_more (t ∷ ts) e = absurd (omega (arith, e))

pub some_there : (ts : List Tree) → (length ts ≡ 0 → ⊥) → 1 ≤ items_count (items_of ts)
some_there [] h = absurd (h refl)
some_there (t ∷ ts) h = omega (arith, some_nodes (data_of t))

pub empty_len : (n : ℕ) → (n == 0) ≡ true → n ≡ 0
empty_len n e = eqb-true n 0 e

pub some_len : (n : ℕ) → (n == 0) ≡ false → n ≡ 0 → ⊥
some_len n e z = let here : (n == 0) ≡ true = eq-eqb n 0 z in let both : true ≡ false = sym here ∙ e in cc
