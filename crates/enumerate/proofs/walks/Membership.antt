-- Whether a tree is a part: what each step of one pass over it finds out.
use Rattle.std.proofs.Common.{◌≡◌, ◌≢◌, ◌⊎◌, ◌<◌, ◌≤◌, ◌+◌, ◌*◌, ◌↔◌, ℕ, zero, suc, List, [], ◌∷◌, length, get_or, drop, take, Bool, true, false, Option, Some, None, refl, sym, ap, ◌∙◌, subst, inl, inr, arith, add-one}
use Rattle.std.specs.Prelude.{◌==◌, slice_get, IsTrue, IfOk, Result, Ok, Err}
use Rattle.std.specs.declared.cmp.Ordering.TheVariants.{Less}
use Rattle.std.proofs.Math.Nat.{eq-or-lt_of_le}
use Rattle.std.proofs.Math.Seq.{drop-cons}
use Rattle.std.proofs.lemmas.List.{drop_all}
use Rattle.std.proofs.lemmas.List.Elements.{Contains-get_or}
use Rattle.std.proofs.lemmas.Option.{slice_get_within, get_or_from_slice_get}
use Rattle.jtree.specs.Data.{Data, null, list, object, no_items, item, Members, no_members, member}
use Rattle.jtree.specs.Nodes.{node_count, items_count}
use Rattle.jtree.specs.Order.{text_cmp}
use Rattle.jtree.specs.Internal.Lookups.{not_itself}
use Rattle.jtree.specs.Internal.Rising.{Among, contains}
use Rattle.plan.specs.Pools.Pools.{Pools}
use Rattle.plan.specs.Samples.Part.{IsPart}
use Rattle.plan.specs.Samples.Candidates.{sort_of, IsWidth, HasWidthBy}
use Rattle.plan.specs.Samples.NoDeadEnd.{items_then}
use Rattle.stored.specs.Objects.Fault as fault
use Rattle.stored.specs.Objects.StoredByParts.{are_apart}
use Rattle.jtree.specs.View.{data_of, items_of}
use Rattle.jtree.specs.declared.value.Tree.{Tree}
use Rattle.plan.specs.declared.sort.Sort.{Sort}
use Rattle.plan.specs.declared.sort.Sort.TheVariants as sort
use Rattle.plan.specs.Samples.Sites.{item_site, Slot, slots, sites_of}
use Rattle.plan.specs.Samples.ByPlace.{IsSlotAt}
use Rattle.plan.specs.declared.plan.Slot as answer
use Rattle.plan.specs.Samples.Sizes.{AreFillings, Before, nothing, filled, state_after, Ending, CanFill, HasMore}
use Rattle.plan.specs.Samples.RuleOfParts.{members_in, RuleOfParts, IsRowPart, AreParts, alike_at, admits_null}
use Rattle.plan.specs.Samples.Keys.{AreInOrder}
use Rattle.plan.specs.Samples.Question.{Question}
use Rattle.enumerate.specs.Internal.Nodes.{weight, site, IsNodeOf}
use Rattle.enumerate.specs.Internal.Rows.{slots_from, ending_at, still_used}
use Rattle.enumerate.specs.Internal.Candidates.{agreeing_if}
use Rattle.enumerate.specs.Internal.Lists.{AreFirst, IsUnusedItem}
use Rattle.enumerate.proofs.lists.Lemmas.{few_items, counted, then_nodes, parts_split, apart_unused, first_more}
use Rattle.enumerate.proofs.lists.Whole as lists
use Rattle.enumerate.specs.Internal.Membership.{still_left, MakeUnusedRow, IsUnusedRow, IsListOf}

-- ---- measures

pub lighter : (q : Question) (i j : ℕ) → i < j → weight q (i + 1) ≤ weight q j
lighter q i zero lt = absurd (omega arith)
lighter q i (suc j) lt = elim (eq-or-lt_of_le (let le : i ≤ j = omega arith in le)) [
  | inl same ↦ let e : weight q (i + 1) ≡ weight q (suc j) = ap (weight q) (let n : i + 1 ≡ suc j = omega (arith, same) in n) in omega (arith, e)
  | inr below ↦ omega (arith, lighter q i j below)
]

pub row_lighter : (q : Question) (i j : ℕ) → i < j → weight q i + (4 * length (slots_from q i 0) + 5) ≤ weight q j
row_lighter q i j lt = let e : weight q (i + 1) ≡ weight q (suc i) = ap (weight q) (add-one i) in omega (arith, e, lighter q i j lt)

-- ---- members in slots

pub order_from : (n : ℕ) (ss : List Slot) → AreInOrder ss → AreInOrder (drop n ss)
order_from zero ss h = h
order_from (suc n) [] h = tt
order_from (suc n) (s ∷ ss) h = order_from n ss h.1

pub slots_at_place : (ss : List Slot) (place : ℕ) (s : Slot) → slice_get ss place ≡ Some s → drop place ss ≡ s ∷ drop (place + 1) ss
slots_at_place ss place s at =
    let within = slice_get_within ss place s at in
    drop-cons ss place s within ∙ rw (get_or_from_slice_get ss place s s at, add-one place) refl

-- no member under an earlier name
not_in : (k : List ℕ) (d : Data) (ms : Members) (ss : List Slot) (gs : List (Option Data)) → ((t : Slot) → Among ss t → text_cmp k t.name ≡ Less) → member k d ms ≡ members_in ss gs → ⊥
not_in k d ms [] gs above e = cc
not_in k d ms (t ∷ ss) [] above e = cc
not_in k d ms (t ∷ ss) (None ∷ gs) above e = not_in k d ms ss gs (λ u a. above u (inr a)) e
not_in k d ms (t ∷ ss) (Some v ∷ gs) above e = not_itself k t.name (cc) (above t (inl refl))

module _ (P : Pools) (end : Ending) (x : Before) (used : List Data) (ms : Members) where
  pub ends_is : MakeUnusedRow P [] end x used ms → (ms ≡ no_members) × (used ≡ []) × CanFill P [] end x 0
  ends_is h = go h.fillings h.are h.parts h.ends h.unused where
    go : (gs : List (Option Data)) → ms ≡ members_in [] gs → AreFillings P [] gs → CanFill P [] end (state_after [] gs x) 0 → still_left [] gs used ≡ [] → (ms ≡ no_members) × (used ≡ []) × CanFill P [] end x 0
    go [] are parts ends unused = (are, unused, ends)
    go (g ∷ gs) are parts ends unused = absurd parts

  pub ends_from : ms ≡ no_members → used ≡ [] → CanFill P [] end x 0 → MakeUnusedRow P [] end x used ms
  ends_from none nobody ends = record { fillings = []; are = none; parts = tt; ends = ends; unused = nobody }

  module _ (s : Slot) (ss : List Slot) where
    -- the first slot is left out
    pub absent_is : ((v : Data) (ns : Members) → ms ≢ member s.name v ns) → MakeUnusedRow P (s ∷ ss) end x used ms → (s.must ≡ false) × MakeUnusedRow P ss end x used ms
    absent_is other h = go h.fillings h.are h.parts h.ends h.unused where
      go : (gs : List (Option Data)) → ms ≡ members_in (s ∷ ss) gs → AreFillings P (s ∷ ss) gs → CanFill P [] end (state_after (s ∷ ss) gs x) 0 → still_left (s ∷ ss) gs used ≡ [] → (s.must ≡ false) × MakeUnusedRow P ss end x used ms
      go [] are parts ends unused = absurd parts
      go (None ∷ gs) are parts ends unused = (parts.0, record { fillings = gs; are = are; parts = parts.1; ends = ends; unused = unused })
      go (Some v ∷ gs) are parts ends unused = absurd (other v (members_in ss gs) are)

    pub absent_from : s.must ≡ false → MakeUnusedRow P ss end x used ms → MakeUnusedRow P (s ∷ ss) end x used ms
    absent_from may h = record { fillings = None ∷ h.fillings; are = h.are; parts = (may, h.parts); ends = h.ends; unused = h.unused }

    -- it is filled
    module _ (d : Data) (rest : Members) (first : ms ≡ member s.name d rest) where
      pub filled_is : AreInOrder (s ∷ ss) → MakeUnusedRow P (s ∷ ss) end x used ms → IsPart P s.site d × MakeUnusedRow P ss end (filled s.bit x) (still_used s d used) rest
      filled_is order h = go h.fillings h.are h.parts h.ends h.unused where
        go : (gs : List (Option Data)) → ms ≡ members_in (s ∷ ss) gs → AreFillings P (s ∷ ss) gs → CanFill P [] end (state_after (s ∷ ss) gs x) 0 → still_left (s ∷ ss) gs used ≡ [] → IsPart P s.site d × MakeUnusedRow P ss end (filled s.bit x) (still_used s d used) rest
        go [] are parts ends unused = absurd parts
        go (None ∷ gs) are parts ends unused = absurd (not_in s.name d rest ss gs (λ u a. order.0 u (contains ss u a)) (sym first ∙ are))
        go (Some v ∷ gs) are parts ends unused =
            let same : member s.name d rest ≡ member s.name v (members_in ss gs) = sym first ∙ are in
            let value : v ≡ d = cc in
            let after : rest ≡ members_in ss gs = cc in (
              subst (IsPart P s.site) value parts.0,
              record { fillings = gs; are = after; parts = parts.1; ends = ends; unused = subst (λ w. still_left ss gs (still_used s w used) ≡ []) value unused },
            )

      pub filled_from : IsPart P s.site d → MakeUnusedRow P ss end (filled s.bit x) (still_used s d used) rest → MakeUnusedRow P (s ∷ ss) end x used ms
      filled_from part h =
          record { fillings = Some d ∷ h.fillings; are = first ∙ ap (member s.name d) h.are; parts = (part, h.parts); ends = h.ends; unused = h.unused }

-- ---- answers

pub answered : {E : Type 0} (r : Result Bool E) (A B : Type 0) → (A → B) → (B → A) → IfOk r (λ is. IsTrue is ↔ A) → IfOk r (λ is. IsTrue is ↔ B)
answered (Ok is) A B there back h = (λ yes. there (h.0 yes), λ b. h.1 (back b))
answered (Err e) A B there back h = h

-- ---- slots as the plan answers them

module _ (q : Question) (i place : ℕ) (t : answer.Slot) (is : IsSlotAt (sites_of q.pools q.root) (slots q.pools (site q i)) place t) where
  pub slots_are : slots_from q i place ≡ is.slot ∷ slots_from q i (place + 1)
  slots_are = slots_at_place (slots q.pools (site q i)) place is.slot is.is

  pub one_slot_less : length (slots_from q i place) ≡ 1 + length (slots_from q i (place + 1))
  one_slot_less = let e : length (slots_from q i place) ≡ length (is.slot ∷ slots_from q i (place + 1)) = ap (λ ss. length ss) slots_are in omega (arith, e)

  module _ (end : Ending) (x : Before) (used : List Data) (ms : Members) where
    pub absent_here : ((v : Data) (ns : Members) → ms ≢ member t.name.now v ns) → MakeUnusedRow q.pools (slots_from q i place) end x used ms → (t.must ≡ false) × MakeUnusedRow q.pools (slots_from q i (place + 1)) end x used ms
    absent_here other h =
        let k = absent_is q.pools end x used ms is.slot (slots_from q i (place + 1)) (λ v ns e. other v ns (e ∙ ap (λ k. member k v ns) (sym is.name))) (subst (λ ss. MakeUnusedRow q.pools ss end x used ms) slots_are h) in
        (is.must ∙ k.0, k.1)

    pub absent_there : t.must ≡ false → MakeUnusedRow q.pools (slots_from q i (place + 1)) end x used ms → MakeUnusedRow q.pools (slots_from q i place) end x used ms
    absent_there may h = subst (λ ss. MakeUnusedRow q.pools ss end x used ms) (sym slots_are) (absent_from q.pools end x used ms is.slot (slots_from q i (place + 1)) (sym is.must ∙ may) h)

    module _ (d : Data) (rest : Members) (first : ms ≡ member t.name.now d rest) where
      named : ms ≡ member is.slot.name d rest
      named = first ∙ ap (λ k. member k d rest) is.name

      pub filled_here : AreInOrder (slots q.pools (site q i)) → MakeUnusedRow q.pools (slots_from q i place) end x used ms
          → IsPart q.pools (site q t.node) d × MakeUnusedRow q.pools (slots_from q i (place + 1)) end (filled t.bit x) (agreeing_if t.key t.name.now d used) rest
      filled_here order h =
          let k = filled_is q.pools end x used ms is.slot (slots_from q i (place + 1)) d rest named (subst AreInOrder slots_are (order_from place (slots q.pools (site q i)) order)) (subst (λ ss. MakeUnusedRow q.pools ss end x used ms) slots_are h) in
          (subst (λ s. IsPart q.pools s d) (sym is.node) k.0, rw (is.key, is.name, is.bit) k.1)

      pub filled_there : IsPart q.pools (site q t.node) d → MakeUnusedRow q.pools (slots_from q i (place + 1)) end (filled t.bit x) (agreeing_if t.key t.name.now d used) rest → MakeUnusedRow q.pools (slots_from q i place) end x used ms
      filled_there part h = subst (λ ss. MakeUnusedRow q.pools ss end x used ms) (sym slots_are)
          (filled_from q.pools end x used ms is.slot (slots_from q i (place + 1)) d rest named (subst (λ s. IsPart q.pools s d) is.node part) (rw (← is.key, ← is.name, ← is.bit) h))

-- ---- sorts

sort_cases : (s : Sort) → (s ≡ sort.Leaf) ⊎ ((s ≡ sort.Row) ⊎ (s ≡ sort.List))
sort_cases sort.Leaf = inl refl
sort_cases sort.Row = inr (inl refl)
sort_cases sort.List = inr (inr refl)

-- ---- rows

nobody : (ss : List Slot) (gs : List (Option Data)) → still_left ss gs [] ≡ []
nobody [] gs = refl
nobody (s ∷ ss) [] = refl
nobody (s ∷ ss) (None ∷ gs) = nobody ss gs
nobody (s ∷ ss) (Some v ∷ gs) = ap (still_left ss gs) (none_agrees s.key s.name v) ∙ nobody ss gs where
  none_agrees : (b : Bool) (k : List ℕ) (v : Data) → agreeing_if b k v [] ≡ []
  none_agrees true k v = refl
  none_agrees false k v = refl

module _ (q : Question) (i : ℕ) (used : List Data) (v : Data) where
  pub row_of : IsUnusedRow q i used v → (h : IsRowPart q.pools (site q i) v) × (still_left (slots q.pools (site q i)) h.fillings used ≡ [])
  row_of r =
      let st = r.1.1 in
      let ss = slots q.pools (site q i) in
      let last : [] ≡ drop (length ss) ss = sym (drop_all (length ss) ss (omega arith)) in
      (record { fillings = st.fillings; is = r.1.0 ∙ ap object st.are; are = st.parts; ends = subst (λ rs. CanFill q.pools rs (ending_at q i) (state_after ss st.fillings nothing) 0) last st.ends }, st.unused)

  pub row_from : (h : IsRowPart q.pools (site q i) v) → still_left (slots q.pools (site q i)) h.fillings used ≡ [] → IsUnusedRow q i used v
  row_from h unused =
      let ss = slots q.pools (site q i) in
      let last : drop (length ss) ss ≡ [] = drop_all (length ss) ss (omega arith) in
      (members_in ss h.fillings, (h.is, record { fillings = h.fillings; are = refl; parts = h.are; ends = subst (λ rs. CanFill q.pools rs (ending_at q i) (state_after ss h.fillings nothing) 0) last h.ends; unused = unused }))

module _ (q : Question) (i : ℕ) (rule : RuleOfParts q.pools q.limit (site q i)) (v : Data) where
  pub row_part : sort_of (site q i) ≡ sort.Row → IsUnusedRow q i [] v → IsPart q.pools (site q i) v
  row_part row r = (rule.row v row).1 (inr (row_of q i [] v r).0)

  pub part_row : sort_of (site q i) ≡ sort.Row → v ≢ null → IsPart q.pools (site q i) v → IsUnusedRow q i [] v
  part_row row other part = elim ((rule.row v row).0 part) [
    | inl none ↦ absurd (other none.0)
    | inr h ↦ row_from q i [] v h (nobody (slots q.pools (site q i)) h.fillings)
  ]

  pub list_part : IsListOf q i v → IsPart q.pools (site q i) v
  list_part l = subst (IsPart q.pools (site q i)) (sym l.1.0) l.1.1

  pub part_list : sort_of (site q i) ≡ sort.List → node_count v ≤ q.limit → v ≢ null → IsPart q.pools (site q i) v → IsListOf q i v
  part_list is_list few other part =
      let r = lists.part_list q i rule is_list v part few (λ none _. other none) in
      (r.0, (r.1, subst (IsPart q.pools (site q i)) r.1 part))

  pub null_part : (sort_of (site q i) ≡ sort.Leaf → ⊥) → 1 ≤ q.limit → v ≡ null → IsPart q.pools (site q i) v ↔ (admits_null q.pools (site q i) ≡ true)
  null_part inner some none = elim (sort_cases (sort_of (site q i))) [
    | inl leaf ↦ absurd (inner leaf)
    | inr (inl row) ↦ (
      λ part. elim ((rule.row v row).0 part) [ inl h ↦ h.1 | inr h ↦ let no : null ≡ object (members_in (slots q.pools (site q i)) h.fillings) = sym none ∙ h.is in cc ],
      λ may. (rule.row v row).1 (inl (none, may)),
    )
    | inr (inr is_list) ↦
        let M = rule.items is_list in
        let few : node_count v ≤ q.limit = rw none some in (
          λ part. elim ((rule.list M.0 v M.1 few).0 part) [ inl h ↦ h.1 | inr h ↦ let no : null ≡ list h.items = sym none ∙ h.is in cc ],
          λ may. (rule.list M.0 v M.1 few).1 (inl (none, may)),
        )
  ]

-- a row has at most as many slots as the plan is wide
pub slots_within : (q : Question) (i : ℕ) → IsNodeOf q i → sort_of (site q i) ≡ sort.Row → (w : ℕ) → IsWidth q w → length (slots_from q i 0) ≤ w
slots_within q i at row w width =
    width.each (site q i) (length (slots q.pools (site q i))) (Contains-get_or (sites_of q.pools q.root) i _ at) (subst (λ s. HasWidthBy s q.pools q.limit (site q i) (length (slots q.pools (site q i)))) (sym row) refl)

-- ---- items

join_next : (ts : List Tree) (i : ℕ) (t : Tree) → i < length ts → get_or ts i t ≡ t → items_of (take (i + 1) ts) ≡ items_then (items_of (take i ts)) (item (data_of t) no_items)
join_next [] i t lt at = absurd (omega arith)
join_next (u ∷ ts) zero t lt at = ap (λ x. item (data_of x) no_items) at
join_next (u ∷ ts) (suc i) t lt at =
    let n : suc i + 1 ≡ suc (i + 1) = omega arith in
    rw n (ap (item (data_of u)) (join_next ts i t (omega arith) at))

split_items : (ts : List Tree) (i : ℕ) (t : Tree) → i < length ts → get_or ts i t ≡ t → items_of ts ≡ items_then (items_of (take i ts)) (item (data_of t) (items_of (drop (i + 1) ts)))
split_items [] i t lt at = absurd (omega arith)
split_items (u ∷ ts) zero t lt at = ap (λ x. item (data_of x) (items_of ts)) at
split_items (u ∷ ts) (suc i) t lt at =
    let n : suc i + 1 ≡ suc (i + 1) = omega arith in
    rw n (ap (item (data_of u)) (split_items ts i t (omega arith) at))

pub items_some : (ts : List Tree) → length ts ≤ items_count (items_of ts)
items_some ts = omega (arith, few_items (items_of ts), counted ts)

-- ---- lists

module _ (q : Question) (i c : ℕ) where
  pub first_next : (ts : List Tree) (place : ℕ) (t : Tree) → place < length ts → get_or ts place t ≡ t → AreFirst q i c (items_of (take place ts)) → IsUnusedItem q i c (node_count (data_of t)) (items_of (take place ts)) (data_of t) → AreFirst q i c (items_of (take (place + 1) ts))
  first_next ts place t lt at h f = subst (AreFirst q i c) (sym (join_next ts place t lt at)) (first_more q i c (node_count (data_of t)) (items_of (take place ts)) (data_of t) h f)

  module _ (rule : RuleOfParts q.pools q.limit (site q i)) (is : item_site q.pools (site q i) ≡ Some (site q c)) (ts : List Tree) (few : 1 + items_count (items_of ts) ≤ q.limit) where
    pub unused_in : (place : ℕ) (t : Tree) → place < length ts → get_or ts place t ≡ t → IsPart q.pools (site q i) (list (items_of ts)) → IsUnusedItem q i c (node_count (data_of t)) (items_of (take place ts)) (data_of t)
    unused_in place t lt at part = elim ((rule.list (site q c) (list (items_of ts)) is few).0 part) [
      | inl none ↦ let no = none.0 in cc
      | inr h ↦
          let same : items_of ts ≡ h.items = let e = h.is in cc in
          let split : h.items ≡ items_then (items_of (take place ts)) (item (data_of t) (items_of (drop (place + 1) ts))) = sym same ∙ split_items ts place t lt at in
          record {
            part = record { part = (parts_split q.pools (site q c) (items_of (take place ts)) (item (data_of t) (items_of (drop (place + 1) ts))) (subst (AreParts q.pools (site q c)) split h.are)).1.0; nodes_are = refl };
            unused = apart_unused (alike_at (site q i)) (items_of (take place ts)) (items_of (drop (place + 1) ts)) (data_of t) (subst (λ ds. are_apart (alike_at (site q i)) ds ≡ true) split h.apart);
          }
    ]

    pub part_ends : IsPart q.pools (site q i) (list (items_of ts)) → HasMore q.pools q.limit (site q i) (length ts) 0
    part_ends part = elim ((rule.list (site q c) (list (items_of ts)) is few).0 part) [
      | inl none ↦ let no = none.0 in cc
      | inr h ↦
          let same : h.items ≡ items_of ts = let e = h.is in cc in
          subst (λ n. HasMore q.pools q.limit (site q i) n 0) (ap fault.items_count same ∙ counted ts) h.ends
    ]

    pub part_made : AreFirst q i c (items_of ts) → HasMore q.pools q.limit (site q i) (length ts) 0 → IsPart q.pools (site q i) (list (items_of ts))
    part_made h ends = (rule.list (site q c) (list (items_of ts)) is few).1 (inr (record {
      items = items_of ts;
      is = refl;
      are = h.are;
      apart = h.apart;
      ends = subst (λ n. HasMore q.pools q.limit (site q i) n 0) (sym (counted ts)) ends;
    }))

-- a list with an item goes on after its beginning
pub goes_on : (q : Question) (i : ℕ) (ts : List Tree) → (length ts == 0) ≡ false → 1 + items_count (items_of ts) ≤ q.limit → IsPart q.pools (site q i) (list (items_of ts)) → (m : ℕ) × HasMore q.pools q.limit (site q i) 1 m
goes_on q i [] some few part = cc
goes_on q i (t ∷ ts) some few part = (items_count (items_of ts), record { items = items_of (t ∷ ts); part = part; fits = few; many = omega arith; nodes_are = refl })

pub item_steps : (w : ℕ) (ts : List Tree) (place : ℕ) (t : Tree) → place < length ts → get_or ts place t ≡ t
    → (w + 1) * (1 + items_count (items_of ts)) ≡ (w + 1) + (w + 1) * items_count (items_of (take place ts)) + (w + 1) * node_count (data_of t) + (w + 1) * items_count (items_of (drop (place + 1) ts))
item_steps w ts place t lt at =
    let e = ap items_count (split_items ts place t lt at) ∙ then_nodes (items_of (take place ts)) (item (data_of t) (items_of (drop (place + 1) ts))) in
    let s : (w + 1) * (1 + items_count (items_of ts)) ≡ (w + 1) * (1 + (items_count (items_of (take place ts)) + (node_count (data_of t) + items_count (items_of (drop (place + 1) ts))))) = ap (λ z. (w + 1) * (1 + z)) e in
    omega (arith, s)

pub next_steps : (w : ℕ) (ts : List Tree) (place : ℕ) (t : Tree) → place < length ts → get_or ts place t ≡ t
    → (w + 1) * items_count (items_of (take (place + 1) ts)) ≡ (w + 1) * items_count (items_of (take place ts)) + (w + 1) * node_count (data_of t)
next_steps w ts place t lt at =
    let e = ap items_count (join_next ts place t lt at) ∙ then_nodes (items_of (take place ts)) (item (data_of t) no_items) in
    let s : (w + 1) * items_count (items_of (take (place + 1) ts)) ≡ (w + 1) * (items_count (items_of (take place ts)) + (node_count (data_of t) + 0)) = ap (λ z. (w + 1) * z) e in
    omega (arith, s)

pub item_few : (ts : List Tree) (place : ℕ) (t : Tree) → place < length ts → get_or ts place t ≡ t → node_count (data_of t) ≤ items_count (items_of ts)
item_few ts place t lt at =
    let e = ap items_count (split_items ts place t lt at) ∙ then_nodes (items_of (take place ts)) (item (data_of t) (items_of (drop (place + 1) ts))) in
    omega (arith, e)
