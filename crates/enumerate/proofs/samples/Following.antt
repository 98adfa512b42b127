-- The next trees that differ in their last node alone.
use Rattle.std.specs.Prelude.{◌≡◌, ◌⊎◌, ℕ, zero, suc, ◌+◌, ◌-◌, ◌≤◌, ◌<◌, List, false, Option, Some, None, slice_get, get_or, drop, length, reverse, Result, Ok, Err, IfOk, OnOk}
use Rattle.std.specs.Borrow.{Bor}
use Rattle.std.proofs.Common.{refl, ap, sym, ◌∙◌, subst, inl, inr, arith, [], ◌∷◌, ◌++◌}
use Rattle.std.proofs.lemmas.Bool.{cases_lt}
use Rattle.std.proofs.lemmas.List.{append_assoc, drop_at, map-append, reverse-append}
use Rattle.std.proofs.Math.Nat.{eq-or-lt_of_le}
use Rattle.enumerate.specs.Page.{IsPast}
use Rattle.std.proofs.lemmas.Option.{slice_get_within, get_or_from_slice_get}
use Rattle.jtree.specs.Data as tree
use Rattle.jtree.specs.Data.{Data, Items, no_items, item, Members, no_members, member, object, list}
use Rattle.jtree.specs.Last.{with_last, items_with_last, members_with_last}
use Rattle.jtree.specs.Nodes.{node_count, items_count, most_nodes}
use Rattle.jtree.specs.View.{data_of, items_of, members_of}
use Rattle.jtree.specs.declared.value.Member.{Member}
use Rattle.jtree.specs.declared.value.Tree.{Tree}
use Rattle.jtree.specs.Order.{tree_cmp, items_cmp}
use Rattle.stored.specs.Objects.Fault as fault
use Rattle.plan.specs.Pools.Pools.{Pools}
use Rattle.plan.specs.Samples.Part.{IsPart}
use Rattle.plan.specs.Samples.Sites.{Slot}
use Rattle.plan.specs.Samples.Candidates.{AreCandidates, HasCount, sort_of}
use Rattle.plan.specs.Samples.ByPlace.{IsCandidateAt}
use Rattle.std.specs.declared.cmp.Ordering.TheVariants.{Less}
use Rattle.plan.specs.Samples.NoDeadEnd.{items_then}
use Rattle.plan.specs.declared.sort.Sort.TheVariants as sort
use Rattle.plan.specs.Samples.Sizes.{AreFillings, filled_nodes, Before, HasMore, CanFill}
use Rattle.plan.specs.Samples.RuleOfParts.{RuleOfParts, members_in}
use Rattle.plan.specs.Samples.Keys.{AreInOrder, HasSoundParts}
use Rattle.plan.specs.Samples.Question.{Question}
use Rattle.enumerate.specs.Least.{IsLeast, IsNext}
use Rattle.enumerate.specs.Internal.Following.{Follow, Continue, InTurn, AreChoices, MayContinue, EndsAt, MembersContinue, ItemsContinue, ContinueNext, GrownContinue}
use Rattle.enumerate.specs.Internal.Candidates.{IsFree, IsChoice, rows_of, stack_of}
use Rattle.enumerate.specs.Internal.Moves.{Begins, IsNextTree}
use Rattle.enumerate.specs.declared.walk.NextTree.{NextTree}
use Rattle.enumerate.specs.declared.walk.NextTree.TheVariants as tree_next
use Rattle.enumerate.specs.declared.walk.NextParts.{NextParts}
use Rattle.enumerate.specs.declared.walk.NextParts.TheVariants as parts
use Rattle.enumerate.proofs.rows.Parts.{row_plain}
use Rattle.enumerate.specs.declared.siblings.Used.{Used}
use Rattle.enumerate.specs.Internal.Nodes.{site, IsPartOf, IsCandidateOf}
use Rattle.enumerate.specs.Internal.Lists.{AreItems, IsUnusedItem}
use Rattle.enumerate.specs.declared.list.ListNode.{ListNode}
use Rattle.enumerate.specs.Internal.Rows.{fill_cmp, slots_from, slot_in, ending_at, Demand, row_demand, demand_after, CanMeet, IsRest, still_used, IsValue, IsRow, IsGrown}
use Rattle.enumerate.proofs.walks.Least.{next_same, tree_order, not_itself}
use Rattle.enumerate.proofs.leaves.Lemmas.{NoneBefore, candidates_same, index_of}
use Rattle.enumerate.proofs.pages.Lemmas.{goes_past}
use Rattle.enumerate.proofs.rows.Moves.{never_begins}
use Rattle.enumerate.proofs.lists.Lemmas.{HasItems, some_nodes, first_more, some_items, none_follow, then_count, then_nodes, items_pushed}
use Rattle.enumerate.proofs.lists.Walks.{all_left, walk_first, walk_fits, walk_next, list_moved}
use Rattle.enumerate.proofs.walks.Nulls.{row_next_part}
use Rattle.enumerate.proofs.rows.Lemmas.{AreFilled, filled_out, filled_in, can_fill, next_after_out, next_after_in, next_value}
use Rattle.enumerate.proofs.rows.Order.{before_in, row_next}
use Rattle.enumerate.proofs.rows.Slots.{nothing_after, least_nothing, no_members_in, not_stuck}

-- ---- rows

-- the values with another one at a place
abbrev pub put_at : ℕ → Data → List (Option Data) → List (Option Data)
put_at zero w (g ∷ gs) = Some w ∷ gs
put_at (suc place) w (g ∷ gs) = g ∷ put_at place w gs
put_at place w [] = []

-- the next value in the first slot, where the slots after it are empty
next_here : (P : Pools) (s : Slot) (ss : List Slot) (d : Demand) (gs : List (Option Data)) (v w : Data) → AreFilled P (s ∷ ss) d (Some v ∷ gs) → filled_nodes gs ≡ 0 → IsNext tree_cmp (IsValue P s ss d.used (node_count v)) v (Some w)
    → IsNext fill_cmp (IsRest P (s ∷ ss) d) (Some v ∷ gs) (Some (Some w ∷ gs))
next_here P s ss d gs v w h none next =
    let later = filled_in P s ss d v gs h in
    let can = can_fill P ss (demand_after s v (filled_nodes gs) d) gs later.rest in
    next_value P s ss d h.keys h.small v gs h.rest w gs (nothing_after P ss (demand_after s v (filled_nodes gs) d) gs later.rest.are none none) next
    (least_nothing P ss (demand_after s w (filled_nodes gs) d) gs later.keys later.rest.are none none can next.is.0.free)

module _ (P : Pools) (here : Slot) (after : List Slot) (rows : List Data) where
  -- the next value in the last place makes the next row
  pub next_at : (ss : List Slot) (d : Demand) (gs : List (Option Data)) (place : ℕ) (v w : Data) → AreFilled P ss d gs → EndsAt ss d.used gs place here after rows v → IsNext tree_cmp (IsValue P here after rows (node_count v)) v (Some w)
      → IsNext fill_cmp (IsRest P ss d) gs (Some (put_at place w gs))
  next_at [] d gs place v w h e next = absurd e
  next_at (s ∷ ss) d [] place v w h e next = absurd e
  next_at (s ∷ ss) d (None ∷ gs) zero v w h e next = absurd e
  next_at (s ∷ ss) d (Some u ∷ gs) zero v w h (slot, others, rest, value, none) next =
      let Next = λ (t : Slot) (ts : List Slot) (us : List Data) (z : Data). IsNext tree_cmp (IsValue P t ts us (node_count z)) z (Some w) in
      next_here P s ss d gs u w h none
      (subst (λ t. Next t ss d.used u) (sym slot) (subst (λ ts. Next here ts d.used u) (sym others) (subst (λ us. Next here after us u) (sym rest) (subst (λ z. Next here after rows z) (sym value) next))))
  next_at (s ∷ ss) d (None ∷ gs) (suc place) v w h e next = next_after_out P s ss d h.keys h.small gs (put_at place w gs) h.rest.are.0 (next_at ss d gs place v w (filled_out P s ss d gs h) e next)
  next_at (s ∷ ss) d (Some u ∷ gs) (suc place) v w h e next =
      next_after_in P s ss d h.keys h.small u gs h.rest (put_at place w gs) (next_at ss (demand_after s u (filled_nodes gs) d) gs place v w (filled_in P s ss d u gs h) e next)

  -- with another value in the last place, that is the last one
  ends_put : (ss : List Slot) (used : List Data) (gs : List (Option Data)) (place : ℕ) (v w : Data) → EndsAt ss used gs place here after rows v → EndsAt ss used (put_at place w gs) place here after rows w
  ends_put [] used gs place v w e = absurd e
  ends_put (s ∷ ss) used [] place v w e = absurd e
  ends_put (s ∷ ss) used (None ∷ gs) zero v w e = absurd e
  ends_put (s ∷ ss) used (Some u ∷ gs) zero v w (slot, others, rest, value, none) = (slot, others, rest, refl, none)
  ends_put (s ∷ ss) used (None ∷ gs) (suc place) v w e = ends_put ss used gs place v w e
  ends_put (s ∷ ss) used (Some u ∷ gs) (suc place) v w e = ends_put ss (still_used s u used) gs place v w e

-- ---- what is at the end of an object

object_last : (ms : Members) (c : Data) → (ms ≡ no_members → ⊥) → with_last (object ms) c ≡ object (members_with_last ms c)
object_last no_members c some = absurd (some refl)
object_last (member k d ms) c some = refl

rest_last : (k : List ℕ) (d : Data) (ms : Members) (c : Data) → (ms ≡ no_members → ⊥) → members_with_last (member k d ms) c ≡ member k d (members_with_last ms c)
rest_last k d no_members c some = absurd (some refl)
rest_last k d (member l e ms) c some = refl

module _ (P : Pools) (here : Slot) (after : List Slot) (rows : List Data) where
  some_members : (ss : List Slot) (used : List Data) (gs : List (Option Data)) (place : ℕ) (v : Data) → EndsAt ss used gs place here after rows v → members_in ss gs ≡ no_members → ⊥
  some_members [] used gs place v e none = e
  some_members (s ∷ ss) used [] place v e none = e
  some_members (s ∷ ss) used (None ∷ gs) zero v e none = e
  some_members (s ∷ ss) used (Some u ∷ gs) place v e none = cc
  some_members (s ∷ ss) used (None ∷ gs) (suc place) v e none = some_members ss used gs place v e none

  members_last : (ss : List Slot) (used : List Data) (gs : List (Option Data)) (place : ℕ) (v c : Data) → AreFillings P ss gs → EndsAt ss used gs place here after rows v
      → members_with_last (members_in ss gs) c ≡ members_in ss (put_at place (with_last v c) gs)
  members_last [] used gs place v c are e = absurd e
  members_last (s ∷ ss) used [] place v c are e = absurd e
  members_last (s ∷ ss) used (None ∷ gs) zero v c are e = absurd e
  members_last (s ∷ ss) used (Some u ∷ gs) zero v c are (slot, others, rest, value, none) =
      let empty = no_members_in P ss gs are.1 none in
      subst (λ ms. members_with_last (member s.name u ms) c ≡ member s.name (with_last v c) ms) (sym empty) (ap (λ z. member s.name (with_last z c) no_members) value)
  members_last (s ∷ ss) used (None ∷ gs) (suc place) v c are e = members_last ss used gs place v c are.1 e
  members_last (s ∷ ss) used (Some u ∷ gs) (suc place) v c are e =
      rest_last s.name u (members_in ss gs) c (some_members ss (still_used s u used) gs place v e) ∙ ap (λ ms. member s.name u ms) (members_last ss (still_used s u used) gs place v c are.1 e)

-- ---- whole rows

module _ (q : Question) (i m : ℕ) (used : List Data) (order : AreInOrder (slots_from q i 0)) where
  abbrev row : List (Option Data) → Data
  row gs = object (members_in (slots_from q i 0) gs)

  abbrev Filled : List (Option Data) → Type 0
  Filled gs = AreFilled q.pools (slots_from q i 0) (row_demand q i m used) gs

  -- where values follow in the last place, they do so in the row
  follow_row : (place : ℕ) (here : Slot) (after : List Slot) (rows : List Data) (gs : List (Option Data)) (u : Data) (cs : List Data) → EndsAt (slots_from q i 0) used gs place here after rows u → Filled gs
      → Follow (IsValue q.pools here after rows (node_count u)) u cs → Follow (IsRow q i m used) (row gs) cs
  follow_row place here after rows gs u [] e h f = tt
  follow_row place here after rows gs u (c ∷ cs) e h f =
      let ss = slots_from q i 0 in
      let w = with_last u c in
      let hs = put_at place w gs in
      let next = next_at q.pools here after rows ss (row_demand q i m used) gs place u w h e f.0 in
      let same : row hs ≡ with_last (row gs) c = sym (object_last (members_in ss gs) c (some_members q.pools here after rows ss used gs place u e) ∙ ap object (members_last q.pools here after rows ss used gs place u c h.rest.are e)) in
      let there : Filled hs = record { keys = h.keys; small = h.small; rest = next.is.0 } in
      let later = follow_row place here after rows hs w cs (ends_put q.pools here after rows ss used gs place u w e) there (subst (λ n. Follow (IsValue q.pools here after rows n) w cs) (sym f.0.is.0.nodes_are) f.1) in
      (subst (λ v. IsNext tree_cmp (IsRow q i m used) (row gs) (Some v)) same (row_next q i m used order gs (Some hs) h.rest next), subst (λ v. Follow (IsRow q i m used) v cs) same later)

  put_same : (ss : List Slot) (used : List Data) (gs : List (Option Data)) (place : ℕ) (here : Slot) (after : List Slot) (rows : List Data) (w : Data) → EndsAt ss used gs place here after rows w → put_at place w gs ≡ gs
  put_same [] used gs place here after rows w e = absurd e
  put_same (s ∷ ss) used [] place here after rows w e = absurd e
  put_same (s ∷ ss) used (None ∷ gs) zero here after rows w e = absurd e
  put_same (s ∷ ss) used (Some u ∷ gs) zero here after rows w (slot, others, rest, value, none) = ap (λ t. Some t ∷ gs) (sym value)
  put_same (s ∷ ss) used (None ∷ gs) (suc place) here after rows w e = ap (λ us. None ∷ us) (put_same ss used gs place here after rows w e)
  put_same (s ∷ ss) used (Some u ∷ gs) (suc place) here after rows w e = ap (λ us. Some u ∷ us) (put_same ss (still_used s u used) gs place here after rows w e)

  -- where values go on in the last slot, they do so in the row
  continue_row : (gs : List (Option Data)) (cs : List Data) → Filled gs → MayContinue q.pools (slots_from q i 0) used gs cs → Continue (IsRow q i m used) (row gs) cs
  continue_row gs cs h (inl none) = subst (Continue (IsRow q i m used) (row gs)) (sym none) tt
  continue_row gs [] h (inr r) = tt
  continue_row gs (x ∷ cs) h (inr r) =
      let ss = slots_from q i 0 in
      let f = r.continue in
      let same : with_last (row gs) x ≡ row gs =
      object_last (members_in ss gs) x (some_members q.pools r.here r.after r.rows ss used gs r.place r.value r.ends)
      ∙ ap object (members_last q.pools r.here r.after r.rows ss used gs r.place r.value x h.rest.are r.ends ∙ (ap (λ t. members_in ss (put_at r.place t gs)) f.0 ∙ ap (members_in ss) (put_same ss used gs r.place r.here r.after r.rows r.value r.ends))) in
      (same, follow_row r.place r.here r.after r.rows gs r.value cs r.ends h f.1)

-- ---- lists

list_last : (ds : Items) (c : Data) → (ds ≡ no_items → ⊥) → with_last (list ds) c ≡ list (items_with_last ds c)
list_last no_items c some = absurd (some refl)
list_last (item d ds) c some = refl

some_items_then : (front : Items) (u : Data) → items_then front (item u no_items) ≡ no_items → ⊥
some_items_then no_items u none = cc
some_items_then (item d front) u none = cc

next_last : (d : Data) (ds : Items) (c : Data) → (ds ≡ no_items → ⊥) → items_with_last (item d ds) c ≡ item d (items_with_last ds c)
next_last d no_items c some = absurd (some refl)
next_last d (item e ds) c some = refl

items_last : (front : Items) (u c : Data) → items_with_last (items_then front (item u no_items)) c ≡ items_then front (item (with_last u c) no_items)
items_last no_items u c = refl
items_last (item d front) u c = next_last d (items_then front (item u no_items)) c (some_items_then front u) ∙ ap (λ ds. item d ds) (items_last front u c)

module _ (q : Question) (i c : ℕ) (laws : HasItems q i c) (is_list : sort_of (site q i) ≡ sort.List) (top : q.limit ≤ most_nodes) where
  module _ (front : Items) where
    abbrev whole : Data → Items
    whole u = items_then front (item u no_items)

    -- nothing comes after another item of as many nodes
    nothing_follows : (u w : Data) → IsPart q.pools (site q i) (list (whole u)) → 1 + items_count (whole u) ≤ q.limit → IsUnusedItem q i c (node_count u) front w → IsLeast items_cmp (AreItems q i 0 (whole w)) no_items
    nothing_follows u w part within unused =
        let old = whole u in
        let before = all_left q i old in
        let first = first_more q i c (node_count u) front w (walk_first q i c laws old part within top 0 front u before) unused in
        let fits = walk_fits q i c laws old part within top 0 front u before in
        let none : fits.1.0 ≡ 0 = omega (arith, fits.1.1.1) in
        let count : fault.items_count front + 1 ≡ fault.items_count (whole w) = omega (arith, then_count front (item w no_items)) in
        let more = subst (λ k. HasMore q.pools q.limit (site q i) k 0) count (subst (HasMore q.pools q.limit (site q i) (fault.items_count front + 1)) none fits.1.1.0) in
        let few : 1 + items_count (whole w) + 0 ≤ q.limit = omega (arith, within, then_nodes front (item u no_items), then_nodes front (item w no_items), unused.part.nodes_are) in
        let ds = some_items q i c laws (whole w) 0 few first more in
        none_follow q i (whole w) ds.0 ds.1

    -- where values follow in the place of the last item, they do so in the list
    follow_list : (u : Data) (cs : List Data) → IsPart q.pools (site q i) (list (whole u)) → 1 + items_count (whole u) ≤ q.limit → Follow (IsUnusedItem q i c (node_count u) front) u cs
        → Follow (IsPartOf q i (1 + items_count (whole u))) (list (whole u)) cs
    follow_list u [] part within f = tt
    follow_list u (x ∷ cs) part within f =
        let old = whole u in
        let w = with_last u x in
        let n = 1 + items_count old in
        let moved = walk_next q i c laws old part within top 0 front u (all_left q i old) w no_items f.0 (nothing_follows u w part within f.0.is.0) in
        let next = list_moved q i laws.rule is_list old within (whole w) moved in
        let same : list (whole w) ≡ with_last (list old) x = sym (list_last old x (some_items_then front u) ∙ ap list (items_last front u x)) in
        let nodes : items_count (whole w) ≡ items_count old = moved.is.0.nodes_are in
        let later = follow_list w cs moved.is.0.part (omega (arith, nodes, within)) (subst (λ k. Follow (IsUnusedItem q i c k front) w cs) (sym f.0.is.0.part.nodes_are) f.1) in (
          subst (λ v. IsNext tree_cmp (IsPartOf q i n) (list old) (Some v)) same next,
          subst (λ v. Follow (IsPartOf q i n) v cs) same (subst (λ k. Follow (IsPartOf q i (1 + k)) (list (whole w)) cs) nodes later),
        )

  -- where values go on in the place of the last item, they do so in the list
  continue_list : (front : Items) (u v : Data) (cs : List Data) → v ≡ list (items_then front (item u no_items)) → IsPart q.pools (site q i) v → node_count v ≤ q.limit → Continue (IsUnusedItem q i c (node_count u) front) u cs → Continue (IsPartOf q i (node_count v)) v cs
  continue_list front u v [] is part within f = tt
  continue_list front u v (x ∷ cs) is part within f =
      let old = items_then front (item u no_items) in
      let same : with_last (list old) x ≡ list old = list_last old x (some_items_then front u) ∙ (ap list (items_last front u x) ∙ ap (λ t. list (items_then front (item t no_items))) f.0) in
      subst (λ t. (with_last t x ≡ t) × Follow (IsPartOf q i (node_count t)) t cs) (sym is)
      (same, follow_list front u cs (subst (IsPart q.pools (site q i)) is part) (subst (λ t. node_count t ≤ q.limit) is within) f.1)

  -- where the items of a list continue, the list does
  pub list_continues : (n : ℕ) (ds : Items) (cs : List Data) → IsPartOf q i n (list ds) → n ≤ q.limit → ItemsContinue q i c ds cs → Continue (IsPartOf q i n) (list ds) cs
  list_continues n ds cs part within (inl none) = subst (Continue (IsPartOf q i n) (list ds)) (sym none) tt
  list_continues n ds cs part within (inr h) =
      subst (λ m. Continue (IsPartOf q i m) (list ds) cs) part.nodes_are (continue_list h.front h.one (list ds) cs (ap list h.is) part.part (omega (arith, part.nodes_are, within)) h.continue)

-- ---- in other words

pub follow_same : (C D : Data → Type 0) (v : Data) (cs : List Data) → ((u : Data) → C u → D u) → ((u : Data) → D u → C u) → Follow C v cs → Follow D v cs
follow_same C D v [] there back f = tt
follow_same C D v (c ∷ cs) there back f = (next_same tree_cmp C D v (Some (with_last v c)) there back f.0, follow_same C D (with_last v c) cs there back f.1)

-- ---- candidates

-- a node without parts is its own last node
pub with_single : (v c : Data) → node_count v ≡ 1 → with_last v c ≡ c
with_single tree.null c one = refl
with_single (tree.boolean b) c one = refl
with_single (tree.integer z) c one = refl
with_single (tree.number t) c one = refl
with_single (tree.text t) c one = refl
with_single (list no_items) c one = refl
with_single (list (item d ds)) c one = absurd (omega (arith, one, some_nodes d))
with_single (object no_members) c one = refl
with_single (object (member k d ms)) c one = absurd (omega (arith, one, some_nodes d))

pub stack_pushed : (xs : List (Bor Tree)) (x : Bor Tree) → stack_of (xs ++ x ∷ []) ≡ data_of x.now ∷ stack_of xs
stack_pushed xs x = ap reverse (map-append (λ (r : Bor Tree). data_of r.now) xs (x ∷ [])) ∙ reverse-append (rows_of xs) (data_of x.now ∷ [])

module _ (q : Question) (i : ℕ) where
  -- the candidate at a place
  at_place : (place : ℕ) (x : Data) → IsCandidateAt q.pools q.limit (site q i) place (Some x) → (vs : List Data) → AreCandidates q.pools q.limit (site q i) vs → slice_get vs place ≡ Some x
  at_place place x candidate vs are = ap (λ xs. slice_get xs place) (candidates_same q i vs candidate.candidates are candidate.are) ∙ sym candidate.is

  -- candidates ascend
  ascends : (vs : List Data) → AreCandidates q.pools q.limit (site q i) vs → (j k : ℕ) (u v : Data) → j < k → slice_get vs j ≡ Some u → slice_get vs k ≡ Some v → tree_cmp u v ≡ Less
  ascends vs are j k u v before at there =
      let pair = are.ascending j k u before (slice_get_within vs k v there) in
      let first = get_or_from_slice_get vs j u u at in
      let later = get_or_from_slice_get vs k v u there in
      subst (λ x. tree_cmp u x ≡ Less) later (subst (λ x. tree_cmp x (get_or vs k u) ≡ Less) first pair)

  same_at : (vs : List Data) (j k : ℕ) (u v : Data) → j ≡ k → slice_get vs j ≡ Some u → slice_get vs k ≡ Some v → u ≡ v
  same_at vs j k u v e at there = let both : Some u ≡ Some v = sym at ∙ (ap (slice_get vs) e ∙ there) in cc

  module _ (C : Data → Type 0) where
    -- C holds for none from a place on
    abbrev pub NoneFrom : ℕ → Type 0
    NoneFrom place = (vs : List Data) → AreCandidates q.pools q.limit (site q i) vs → (j : ℕ) (u : Data) → place ≤ j → slice_get vs j ≡ Some u → C u → ⊥

    -- it is a candidate from a place on, and C holds for none of these before it
    abbrev pub IsFirstFrom : Data → ℕ → Type 0
    IsFirstFrom v place = (vs : List Data) → AreCandidates q.pools q.limit (site q i) vs → ((j : ℕ) × (place ≤ j) × (slice_get vs j ≡ Some v)) × ((j : ℕ) (u : Data) → place ≤ j → slice_get vs j ≡ Some u → C u → tree_cmp u v ≡ Less → ⊥)

    -- these are the candidates from a place on for which C holds
    abbrev pub Chosen : List Data → ℕ → Type 0
    Chosen [] place = NoneFrom place
    Chosen (v ∷ cs) place = C v × InTurn C v cs × IsFirstFrom v place

    pub none_chosen : (place : ℕ) → HasCount (IsCandidateOf q i) place → Chosen [] place
    none_chosen place count = λ vs are j u from at c.
        let same = ap length (candidates_same q i vs count.values are count.are) in
        absurd (omega (arith, from, slice_get_within vs j u at, same, count.count_is))

    -- it does not hold for the candidate before the place
    pub chosen_same : (vs : List Data) (x : Data) (place : ℕ) → IsCandidateAt q.pools q.limit (site q i) place (Some x) → (C x → ⊥) → Chosen vs (place + 1) → Chosen vs place
    chosen_same [] x place candidate other none = λ vs are j u from at d. elim (cases_lt place j) [
      | inl lt ↦ none vs are j u (omega (arith, lt)) at d
      | inr ge ↦ other (subst C (same_at vs j place u x (omega (arith, ge, from)) at (at_place place x candidate vs are)) d)
    ]
    chosen_same (v ∷ cs) x place candidate other (holds, turn, first) = (
      holds,
      turn,
      λ vs are.
          let f = first vs are in (
            (f.0.0, omega (arith, f.0.1), f.0.2),
            (λ j u from at d less. elim (cases_lt place j) [
              | inl lt ↦ f.1 j u (omega (arith, lt)) at d less
              | inr ge ↦ other (subst C (same_at vs j place u x (omega (arith, ge, from)) at (at_place place x candidate vs are)) d)
            ]),
          ),
    )

    pub none_at_first : NoneBefore q i C 0
    none_at_first = λ vs are j u before at c. absurd (omega (arith, before))

    -- it holds for none up to a place, where the candidate there is not past, and those for which it holds are
    pub none_to : (after : Option Data) (x : Data) (place : ℕ) → ((u : Data) → C u → IsPast after u) → (IsPast after x → ⊥) → IsCandidateAt q.pools q.limit (site q i) place (Some x) → NoneBefore q i C (place + 1)
    none_to after x place past other candidate = λ vs are j u before at c.
        let here = at_place place x candidate vs are in
        elim (cases_lt j place) [
          | inl lt ↦ other (goes_past after u x (past u c) (ascends vs are j place u x lt at here))
          | inr ge ↦ other (subst (IsPast after) (same_at vs j place u x (omega (arith, ge, before)) at here) (past u c))
        ]

    module _ (within : (u : Data) → C u → IsCandidateOf q i u) where
      index_here : (vs : List Data) → AreCandidates q.pools q.limit (site q i) vs → (u : Data) → C u → (j : ℕ) × (slice_get vs j ≡ Some u)
      index_here vs are u c = let k = index_of q i C within vs are u c in (k.0, k.2)

      -- it holds for the candidate before the place
      pub chosen_more : (vs : List Data) (x : Data) (place : ℕ) → C x → IsCandidateAt q.pools q.limit (site q i) place (Some x) → Chosen vs (place + 1) → Chosen (x ∷ vs) place
      chosen_more [] x place c candidate none = (
        c,
        tt,
        λ vs are.
            let here = at_place place x candidate vs are in (
              (place, omega arith, here),
              (λ j u from at d less. elim (cases_lt place j) [
                | inl lt ↦ none vs are j u (omega (arith, lt)) at d
                | inr ge ↦ not_itself tree_cmp tree_order u x (same_at vs j place u x (omega (arith, ge, from)) at here) less
              ]),
            ),
      )
      chosen_more (v ∷ cs) x place c candidate (holds, turn, first) = (
        c,
        (
          record {
            is = let f = first candidate.candidates candidate.are in (holds, ascends candidate.candidates candidate.are place f.0.0 x v (omega (arith, f.0.1)) (sym candidate.is) f.0.2);
            least = λ u d less.
                let vs = candidate.candidates in
                let here = sym candidate.is in
                let k = index_here vs candidate.are u d.0 in
                elim (cases_lt place k.0) [
                  | inl lt ↦ (first vs candidate.are).1 k.0 u (omega (arith, lt)) k.1 d.0 less
                  | inr ge ↦ elim (eq-or-lt_of_le ge) [
                    | inl same ↦ not_itself tree_cmp tree_order x u (same_at vs place k.0 x u (sym same) here k.1) d.1
                    | inr lt ↦ tree_order.turned u x (ascends vs candidate.are k.0 place u x lt k.1 here) d.1
                  ]
                ];
          },
          turn,
        ),
        λ vs are.
            let here = at_place place x candidate vs are in (
              (place, omega arith, here),
              (λ j u from at d less. elim (cases_lt place j) [
                | inl lt ↦ tree_order.turned u x less (ascends vs are place j x u lt here at)
                | inr ge ↦ not_itself tree_cmp tree_order u x (same_at vs j place u x (omega (arith, ge, from)) at here) less
              ]),
            ),
      )

      -- it holds for none before
      pub all_chosen : (vs : List Data) (place : ℕ) → NoneBefore q i C place → Chosen vs place → (xs : List Data) → AreCandidates q.pools q.limit (site q i) xs → AreChoices C vs
      all_chosen [] place before none xs are = λ u c. let k = index_here xs are u c in elim (cases_lt k.0 place) [
        | inl lt ↦ before xs are k.0 u lt k.1 c
        | inr ge ↦ none xs are k.0 u ge k.1 c
      ]
      all_chosen (v ∷ cs) place before (holds, turn, first) xs are = (
        record {
          is = holds;
          least = λ u c less. let k = index_here xs are u c in elim (cases_lt k.0 place) [
            | inl lt ↦ before xs are k.0 u lt k.1 c
            | inr ge ↦ (first xs are).1 k.0 u ge k.1 c less
          ];
        },
        turn,
      )

      -- the first one alone
      pub first_chosen : (x : Data) (place : ℕ) → C x → IsCandidateAt q.pools q.limit (site q i) place (Some x) → NoneBefore q i C place → AreChoices C (x ∷ [])
      first_chosen x place c candidate none =
          let vs = candidate.candidates in
          let here = sym candidate.is in (
            record {
              is = c;
              least = λ u d less. let k = index_here vs candidate.are u d in elim (cases_lt k.0 place) [
                | inl lt ↦ none vs candidate.are k.0 u lt k.1 d
                | inr ge ↦ elim (eq-or-lt_of_le ge) [
                  | inl same ↦ not_itself tree_cmp tree_order u x (same_at vs k.0 place u x (sym same) k.1 here) less
                  | inr lt ↦ tree_order.turned u x less (ascends vs candidate.are place k.0 x u lt here k.1)
                ]
              ];
            },
            tt,
          )

module _ (q : Question) (i n : ℕ) (after : Option Data) (taken : Used) where
  abbrev FreePart : Data → Type 0
  FreePart u = IsPartOf q i n u × IsFree taken u

  follow_choices : n ≡ 1 → (v : Data) (cs : List Data) → IsChoice q i n after taken v → InTurn (IsChoice q i n after taken) v cs → Follow FreePart v cs
  follow_choices one v [] c t = tt
  follow_choices one v (w ∷ cs) c t =
      let is = t.0.is in
      let next : IsNext tree_cmp FreePart v (Some w) = record {
        is = ((is.0.part, is.0.free), is.1);
        least = λ u h less. t.0.least u (record { part = h.0.0; past = goes_past after v u c.past h.1; free = h.0.1 }, h.1) less;
      } in
      let same = with_single v w (c.part.nodes_are ∙ one) in
      (subst (λ u. IsNext tree_cmp FreePart v (Some u)) (sym same) next, subst (λ u. Follow FreePart u cs) (sym same) (follow_choices one w cs is.0 t.1))

  -- choices of one node continue the first of them; others are not kept
  pub kept_choices : (v : Data) (cs all kept : List Data) → all ≡ v ∷ cs → (kept ≡ []) ⊎ ((n ≡ 1) × (kept ≡ all)) → AreChoices (IsChoice q i n after taken) all → Continue FreePart v kept
  kept_choices v cs all kept is (inl none) h = subst (Continue FreePart v) (sym none) tt
  kept_choices v cs all kept is (inr (one, same)) h =
      let first = subst (AreChoices (IsChoice q i n after taken)) is h in
      subst (Continue FreePart v) (sym (same ∙ is)) (with_single v v (first.0.is.part.nodes_are ∙ one), follow_choices one v cs first.0.is first.1)

pub continue_same : (C D : Data → Type 0) (v : Data) (cs : List Data) → ((u : Data) → C u → D u) → ((u : Data) → D u → C u) → Continue C v cs → Continue D v cs
continue_same C D v [] there back f = tt
continue_same C D v (u ∷ cs) there back f = (f.0, follow_same C D v cs there back f.1)

module _ (q : Question) (i : ℕ) (rule : RuleOfParts q.pools q.limit (site q i)) (is_row : sort_of (site q i) ≡ sort.Row) where
  -- of a row that is not null: where rows go on, parts do
  continue_part : (v : Data) (cs : List Data) → Continue (IsRow q i (node_count v - 1) []) v cs → Continue (IsPartOf q i (node_count v)) v cs
  continue_part v [] f = tt
  continue_part v (u ∷ cs) f = (f.0, later v cs f.1)
    where
      later : (v : Data) (cs : List Data) → Follow (IsRow q i (node_count v - 1) []) v cs → Follow (IsPartOf q i (node_count v)) v cs
      later v [] f = tt
      later v (c ∷ cs) f =
          let w = with_last v c in
          let next = row_next_part q i rule is_row v w f.0 in
          let nodes : node_count w ≡ node_count v = next.is.0.nodes_are in
          (next, subst (λ n. Follow (IsPartOf q i n) w cs) nodes (later w cs (subst (λ n. Follow (IsRow q i (n - 1) []) w cs) (sym nodes) f.1)))

  -- the same, of parts of so many nodes
  pub part_continues : (n : ℕ) (v : Data) (cs : List Data) → 1 ≤ n → IsRow q i (n - 1) [] v → Continue (IsRow q i (n - 1) []) v cs → Continue (IsPartOf q i n) v cs
  part_continues n v cs some r h =
      let nodes = (row_plain q i rule is_row n v some r).nodes_are in
      subst (λ m. Continue (IsPartOf q i m) v cs) nodes (continue_part v cs (subst (λ m. Continue (IsRow q i (m - 1) []) v cs) (sym nodes) h))

  pub row_moved_continues : (n : ℕ) (old : Data) (m : NextTree) (cs : List Data) → 1 ≤ n → IsNextTree (IsRow q i (n - 1) []) old m → ContinueNext (IsRow q i (n - 1) []) m cs → ContinueNext (IsPartOf q i n) m cs
  row_moved_continues n old (tree_next.To t d) cs some next h = part_continues n (data_of t) cs some next.0.is.0 h
  row_moved_continues n old (tree_next.Last k) cs some next h = tt

pub moved_continues_same : (C D : Data → Type 0) (m : NextTree) (cs : List Data) → ((u : Data) → C u → D u) → ((u : Data) → D u → C u) → ContinueNext C m cs → ContinueNext D m cs
moved_continues_same C D (tree_next.To t d) cs there back h = continue_same C D (data_of t) cs there back h
moved_continues_same C D (tree_next.Last n) cs there back h = tt

-- nothing continues it
pub none_continues : (C : Data → Type 0) (m : NextTree) (cs : List Data) → cs ≡ [] → ContinueNext C m cs
none_continues C (tree_next.To t d) cs none = subst (Continue C (data_of t)) (sym none) tt
none_continues C (tree_next.Last n) cs none = tt

-- two things that hold of an answer give a third
pub if_both : {T E : Type 0} (r : Result T E) (P Q R : T → Type 0) → ((v : T) → P v → Q v → R v) → IfOk r P → IfOk r Q → IfOk r R
if_both (Ok v) P Q R then p q = then v p q
if_both (Err e) P Q R then p q = tt

pub on_both : {T E : Type 0} (r : Result T E) {P Q R : Type 0} → (P → Q → R) → OnOk r P → OnOk r Q → OnOk r R
on_both (Ok v) then p q = then p q
on_both (Err e) then p q = tt

-- ---- a slot, and those after it

pub may_here : (P : Pools) (s : Slot) (ss : List Slot) (used : List Data) (u : Data) (gs : List (Option Data)) (cs : List Data) → filled_nodes gs ≡ 0 → Continue (IsValue P s ss used (node_count u)) u cs → MayContinue P (s ∷ ss) used (Some u ∷ gs) cs
may_here P s ss used u gs cs none f = inr record { place = zero; here = s; after = ss; rows = used; value = u; ends = (refl, refl, refl, refl, none); continue = f }

pub may_out : (P : Pools) (s : Slot) (ss : List Slot) (used : List Data) (gs : List (Option Data)) (cs : List Data) → MayContinue P ss used gs cs → MayContinue P (s ∷ ss) used (None ∷ gs) cs
may_out P s ss used gs cs (inl none) = inl none
may_out P s ss used gs cs (inr r) = inr record { place = suc r.place; here = r.here; after = r.after; rows = r.rows; value = r.value; ends = r.ends; continue = r.continue }

pub may_in : (P : Pools) (s : Slot) (ss : List Slot) (used : List Data) (u : Data) (gs : List (Option Data)) (cs : List Data) → MayContinue P ss (still_used s u used) gs cs → MayContinue P (s ∷ ss) used (Some u ∷ gs) cs
may_in P s ss used u gs cs (inl none) = inl none
may_in P s ss used u gs cs (inr r) = inr record { place = suc r.place; here = r.here; after = r.after; rows = r.rows; value = r.value; ends = r.ends; continue = r.continue }

-- what is on top of a stack, and below it
top_at : (xs : List (Bor Tree)) (n : ℕ) (x : Bor Tree) → n + 1 ≡ length xs → Some x ≡ slice_get xs n → (below : List (Bor Tree)) × (xs ≡ below ++ x ∷ [])
top_at [] n x count is = absurd (omega (arith, count))
top_at (y ∷ []) zero x count is = let same : x ≡ y = cc in ([], ap (λ z. z ∷ []) (sym same))
top_at (y ∷ []) (suc n) x count is = absurd (omega (arith, count))
top_at (y ∷ z ∷ xs) zero x count is = absurd (omega (arith, count))
top_at (y ∷ z ∷ xs) (suc n) x count is = let t = top_at (z ∷ xs) n x (omega (arith, count)) is in (y ∷ t.0, ap (λ l. y ∷ l) t.1)

pub on_top : (xs : List (Bor Tree)) (x : Bor Tree) → Some x ≡ slice_get xs (length xs - 1) → (below : List (Bor Tree)) × (stack_of xs ≡ data_of x.now ∷ stack_of below)
on_top [] x is = cc
on_top (y ∷ xs) x is = let t = top_at (y ∷ xs) (length (y ∷ xs) - 1) x (omega arith) is in (t.0, ap stack_of t.1 ∙ stack_pushed t.0 x)

-- ---- the members that were put there

-- members are in slots in one way
same_fillings : (P : Pools) (ss : List Slot) (gs hs : List (Option Data)) → AreInOrder ss → AreFillings P ss gs → AreFillings P ss hs → members_in ss gs ≡ members_in ss hs → gs ≡ hs
same_fillings P [] [] [] order a b same = refl
same_fillings P [] [] (h ∷ hs) order a b same = absurd b
same_fillings P [] (g ∷ gs) hs order a b same = absurd a
same_fillings P (s ∷ ss) [] hs order a b same = absurd a
same_fillings P (s ∷ ss) (g ∷ gs) [] order a b same = absurd b
same_fillings P (s ∷ ss) (None ∷ gs) (None ∷ hs) order a b same = ap (λ us. None ∷ us) (same_fillings P ss gs hs order.1 a.1 b.1 same)
same_fillings P (s ∷ ss) (None ∷ gs) (Some v ∷ hs) order a b same = absurd (never_begins s.name (members_in ss gs) (before_in s.name ss gs order.0) (subst (Begins s.name) (sym same) refl))
same_fillings P (s ∷ ss) (Some u ∷ gs) (None ∷ hs) order a b same = absurd (never_begins s.name (members_in ss hs) (before_in s.name ss hs order.0) (subst (Begins s.name) same refl))
same_fillings P (s ∷ ss) (Some u ∷ gs) (Some v ∷ hs) order a b same =
    let value : u ≡ v = cc in
    let rest : members_in ss gs ≡ members_in ss hs = cc in
    let later = same_fillings P ss gs hs order.1 a.1 b.1 rest in
    λ k. Some (value k) ∷ later k

-- where members of a whole row continue, the row does
pub row_continues : (q : Question) (i m : ℕ) (used : List Data) (sound : HasSoundParts q.pools (site q i)) (members : List Member) (cs : List Data) → m ≤ most_nodes → IsRow q i m used (object (members_of members)) → MembersContinue q.pools (slots_from q i 0) used members cs
    → Continue (IsRow q i m used) (object (members_of members)) cs
row_continues q i m used sound members cs small r h =
    let ss = slots_from q i 0 in
    let are : members_of members ≡ members_in ss r.fillings = cc (r.is) in
    let same = same_fillings q.pools ss h.fillings r.fillings sound.order h.fit r.rest.are (sym h.are ∙ are) in
    subst (λ v. Continue (IsRow q i m used) v cs) (sym r.is) (continue_row q i m used sound.order r.fillings cs (record { keys = sound.keys; small = small; rest = r.rest }) (subst (λ us. MayContinue q.pools ss used us cs) same h.continue))

-- at a place of a row
module _ (q : Question) (i place : ℕ) (first : slots_from q i place ≡ slot_in q i place ∷ slots_from q i (place + 1)) where
  abbrev after_it : List Slot
  after_it = slots_from q i (place + 1)

  abbrev here_it : Slot
  here_it = slot_in q i place

  -- the slot is left out
  pub continue_out : (used : List Data) (members : List Member) (cs : List Data) → here_it.must ≡ false → MembersContinue q.pools after_it used members cs → MembersContinue q.pools (slots_from q i place) used members cs
  continue_out used members cs free h = subst (λ ss. MembersContinue q.pools ss used members cs) (sym first)
      (record { fillings = None ∷ h.fillings; are = h.are; fit = (free, h.fit); continue = may_out q.pools here_it after_it used h.fillings cs h.continue })

  -- a member is in it, and others after it
  pub continue_in : (used : List Data) (one : Member) (members : List Member) (cs : List Data) → one.name ≡ here_it.name → IsPart q.pools here_it.site (data_of one.tree) → MembersContinue q.pools after_it (still_used here_it (data_of one.tree) used) members cs
      → MembersContinue q.pools (slots_from q i place) used (one ∷ members) cs
  continue_in used one members cs name part h = subst (λ ss. MembersContinue q.pools ss used (one ∷ members) cs) (sym first)
      (record {
        fillings = Some (data_of one.tree) ∷ h.fillings;
        are = λ k. member (name k) (data_of one.tree) (h.are k);
        fit = (part, h.fit);
        continue = may_in q.pools here_it after_it used (data_of one.tree) h.fillings cs h.continue;
      })

  -- a member is in it, and nothing after it
  pub continue_here : (x : Before) (used : List Data) (one : Member) (cs : List Data) → one.name ≡ here_it.name → IsPart q.pools here_it.site (data_of one.tree) → CanFill q.pools after_it (ending_at q i) x 0
      → Continue (IsValue q.pools here_it after_it used (node_count (data_of one.tree))) (data_of one.tree) cs → MembersContinue q.pools (slots_from q i place) used (one ∷ []) cs
  continue_here x used one cs name part can h = subst (λ ss. MembersContinue q.pools ss used (one ∷ []) cs) (sym first)
      (record {
        fillings = Some (data_of one.tree) ∷ can.fillings;
        are = λ k. member (name k) (data_of one.tree) (sym (no_members_in q.pools after_it can.fillings can.are can.nodes_are) k);
        fit = (part, can.are);
        continue = may_here q.pools here_it after_it used (data_of one.tree) can.fillings cs can.nodes_are h;
      })

  -- some size fits, so that members were put there
  pub grown_continues : (made : NextParts) (d : Demand) (old new members : List Member) (cs : List Data) → (here_it.must ≡ false → CanMeet q.pools after_it d → ⊥) → CanMeet q.pools (slots_from q i place) d
      → IsGrown made q.pools here_it after_it d 0 old new → GrownContinue made q.pools (slots_from q i place) d.used members cs → MembersContinue q.pools (slots_from q i place) d.used members cs
  grown_continues (parts.Made n) d old new members cs stays can g h = h
  grown_continues (parts.Last n) d old new members cs stays can g h = absurd (not_stuck q.pools here_it after_it d (subst (λ ss. CanMeet q.pools ss d) first can) stays g.1)

-- no nodes are left where no slot is
pub no_room : (P : Pools) (d : Demand) → CanMeet P [] d → d.room ≡ 0
no_room P d can = nothing_in can.fillings can.are can.nodes_are
  where
    nothing_in : (gs : List (Option Data)) → AreFillings P [] gs → filled_nodes gs ≡ d.room → d.room ≡ 0
    nothing_in [] are nodes = sym nodes
    nothing_in (g ∷ gs) are nodes = absurd are

-- a member was put after others, and more after it
pub put_after : {X : Type 0} (old pushed new added : List X) (one : X) → pushed ≡ old ++ one ∷ [] → new ≡ pushed ++ added → drop (length old) new ≡ one ∷ drop (length pushed) new
put_after old pushed new added one is all =
    let whole : new ≡ old ++ (one ∷ added) = all ∙ (ap (λ l. l ++ added) is ∙ append_assoc old (one ∷ []) added) in
    ap (drop (length old)) whole ∙ (drop_at old (one ∷ added) (length old) refl ∙ ap (λ l. one ∷ l) (sym (ap (drop (length pushed)) all ∙ drop_at pushed added (length pushed) refl)))

-- ---- the items that were put there

-- an item after others
pub item_continues : (q : Question) (l : ListNode) (n : ℕ) (old new : List Tree) (one : Tree) (cs : List Data) → new ≡ old ++ one ∷ [] → node_count (data_of one) ≡ n → Continue (IsUnusedItem q l.node l.child n (items_of old)) (data_of one) cs
    → ItemsContinue q l.node l.child (items_of new) cs
item_continues q l n old new one cs is nodes h = inr (record {
  front = items_of old;
  one = data_of one;
  is = items_pushed old new one is;
  continue = subst (λ m. Continue (IsUnusedItem q l.node l.child m (items_of old)) (data_of one) cs) (sym nodes) h;
})
