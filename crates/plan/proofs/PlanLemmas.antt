-- What is known of an entry of a plan.
use Rattle.std.specs.Prelude.{◌≡◌, ℕ, ◌+◌, ◌-◌, ◌%◌, ◌^◌, ◌≤◌, ◌<◌, ◌⊎◌, ◌↔◌, ◌≢◌, All, false, IsTrue, nat_lt, zero, suc, ◌∷◌, List, IfNone, Option, slice_get, drop, Contains, length, get_or, min, Some, None, []}
use Rattle.std.specs.declared.vec.Vec.{Vec}
use Rattle.std.specs.declared.alloc.Global.{Global}
use Rattle.std.proofs.Common.{refl, ap, sym, ◌∙◌, subst, inl, inr, arith}
use Rattle.schema.specs.Nodes.Node.{Node, node, scalar, object, list, open_, Fields, no_fields, field}
use Rattle.schema.specs.Nodes.Node as nodes
use Rattle.plan.specs.Pools.Pools.{Pools}
use Rattle.plan.specs.Samples.Question.{Question}
use Rattle.plan.specs.Samples.Sites.{Site, where_fixed, no_site, sites_of, item_site, item_site_at, Slot, slots, slots_at, field_slots, value_slot}
use Rattle.plan.specs.Samples.ByPlace.{IsSlotAt}
use Rattle.plan.specs.declared.plan.Slot.{Slot as PlanSlot}
use Rattle.plan.specs.declared.arena.SlotEntry.{SlotEntry}
use Rattle.plan.specs.Sets.{IsEmptyFrom}
use Rattle.jtree.specs.Data.{Data, Items, no_items, item}
use Rattle.jtree.specs.Nodes.{items_count}
use Rattle.std.proofs.lemmas.Option.{same_Some}
use Rattle.std.proofs.lemmas.Nat.{pow_pos, pow_below, mod_below}
use Rattle.std.proofs.lemmas.Bool.{lt-ltb, ltb-true, ltb-false}
use Rattle.std.proofs.lemmas.List.Elements.{All-cons, All-map}
use Rattle.plan.specs.Samples.Candidates.{sort_at, sort_of, distinct_at, distinct_of, HasCount, IsCandidate}
use Rattle.plan.specs.Samples.Sizes.{HasRest, HasMore, items_from, ending_at, ending_of, CanFill, IsUpTo}
use Rattle.plan.specs.Samples.Presence.{named}
use Rattle.plan.specs.Samples.Names.{in_order}
use Rattle.plan.specs.Internal.Tables.{cap, columns, IsTable, HasShape}
use Rattle.plan.specs.declared.sort.Distinct.TheVariants.{Free}
use Rattle.plan.specs.declared.sort.Sort.TheVariants.{Leaf as LeafSort, Row as RowSort, List as ListSort}
use Rattle.plan.specs.declared.leaf.Leaf.{Leaf}
use Rattle.plan.specs.declared.arena.ListEntry.{ListEntry}
use Rattle.plan.specs.declared.arena.Content.TheVariants as content
use Rattle.plan.specs.declared.arena.RowEntry.{RowEntry}
use Rattle.plan.specs.Internal.Arena.{AreSitesFrom, IsEntry, IsSlot, AreSlots, name_of, IsRow, IsList, IsRight, AreRight}
use Rattle.plan.specs.Samples.Sites.{site_at}
use Rattle.plan.specs.Internal.Values.{AreValues}
use Rattle.plan.specs.Internal.Building.{IsSound, IsBuilt}
use Rattle.plan.specs.Internal.Plan.{IsPlan}
use Rattle.plan.specs.declared.values.Values.{Values}
use Rattle.plan.specs.declared.arena.Entry.{Entry}
use Rattle.std.proofs.lemmas.List.{get_or_default}
use Rattle.jtree.specs.Internal.Rising.{Among, contained, contains}
use Rattle.plan.specs.Samples.Keys.{AreKeySlots, HasTuples}
use Rattle.plan.proofs.EntryLemmas.{slot_count}
use Rattle.plan.proofs.RowLemmas.{shape_at, width_at, table_at, column_up_to}
use Rattle.plan.proofs.SeenLemmas.{low_up_to}
use Rattle.plan.proofs.ListLemmas.{count_nodes}

-- the entry of a number, in terms of the plan's view
pub entry_right : {Z : Type 0} (holds : Z → ℕ → Type 0) (BITS : ℕ) (root : Node) (P : Pools) (limit : ℕ) (v : Values) (es : List (Entry Z)) (first : ℕ) (q : Question) (i : ℕ) (e : Entry Z)
    → IsPlan holds BITS root P limit v es first → record { root = root; pools = P; limit = limit } ≡ q → i < length (sites_of q.pools q.root) → IsEntry es i e → IsRight holds q.limit q.pools v (sites_of q.pools q.root) i e
entry_right {Z = Z} holds BITS root P limit v es first q i e plan view within is =
    let r : i < length (sites_of P root) → IsRight holds limit P v (sites_of P root) i e = λ l. rw (← is) at (plan.right i e (omega (arith, plan.count))) in
    subst (λ (x : Question). i < length (sites_of x.pools x.root) → IsRight holds x.limit x.pools v (sites_of x.pools x.root) i e) view r within

-- the table of a place has a level for each set of the named fields, with its columns, and the set of a column is that of the sizes
pub table_shape : {Z : Type 0} (holds : Z → ℕ → Type 0) (limit : ℕ) (P : Pools) (names : List (List ℕ)) (sites : List Site) (i : ℕ) (r : RowEntry Z) (k place : ℕ) (table : Vec (Vec Z Global) Global) → IsRow holds limit P names sites i r → k + place ≡ length r.slots.items
    → table ≡ get_or r.tables.items k table → HasShape (2 ^ length (named (ending_of P (site_at sites i)).asked)) (columns (ending_of P (site_at sites i)).bounds place) table.items
table_shape holds limit P names sites i r k place table row at is =
    let kinds = 2 ^ length (named (ending_of P (site_at sites i)).asked) in
    let count = length r.slots.items in
    let e : count - k ≡ place = omega arith in
    rw e at (shape_at (ending_of P (site_at sites i)).bounds count kinds r.tables.items k table table.items row.shaped (omega (arith, row.whole)) is refl)

pub table_some : {Z : Type 0} (holds : Z → ℕ → Type 0) (limit : ℕ) (P : Pools) (names : List (List ℕ)) (sites : List Site) (i : ℕ) (r : RowEntry Z) (k place : ℕ) (table : Vec (Vec Z Global) Global) → IsRow holds limit P names sites i r → k + place ≡ length r.slots.items
    → table ≡ get_or r.tables.items k table → 0 < length table.items
table_some holds limit P names sites i r k place table row at is =
    let shape = table_shape holds limit P names sites i r k place table row at is in
    omega (arith, shape.whole, pow_pos (length (named (ending_of P (site_at sites i)).asked)))

pub level_wide : {Z : Type 0} (holds : Z → ℕ → Type 0) (limit : ℕ) (P : Pools) (names : List (List ℕ)) (sites : List Site) (i : ℕ) (r : RowEntry Z) (k place seen low : ℕ) (table : Vec (Vec Z Global) Global) (level : Vec Z Global)
    → IsRow holds limit P names sites i r → k + place ≡ length r.slots.items → table ≡ get_or r.tables.items k table → low ≡ seen % length table.items → level ≡ get_or table.items low level → length level.items ≡ columns (ending_of P (site_at sites i)).bounds place
level_wide holds limit P names sites i r k place seen low table level row at is is_low is_level =
    let shape = table_shape holds limit P names sites i r k place table row at is in
    let some = table_some holds limit P names sites i r k place table row at is in
    let inside : low < length table.items = rw is_low (mod_below seen (length table.items) some) in
    width_at (2 ^ length (named (ending_of P (site_at sites i)).asked)) (columns (ending_of P (site_at sites i)).bounds place) table.items low level shape inside is_level

pub table_rest : {Z : Type 0} (holds : Z → ℕ → Type 0) (limit : ℕ) (P : Pools) (names : List (List ℕ)) (sites : List Site) (i : ℕ) (r : RowEntry Z) (k place taken seen low column : ℕ) (table : Vec (Vec Z Global) Global) (level : Vec Z Global) (z : Z)
    → IsRow holds limit P names sites i r → k + place ≡ length r.slots.items → taken ≤ place → table ≡ get_or r.tables.items k table → low ≡ seen % length table.items → level ≡ get_or table.items low level → column ≡ min taken (length level.items - 1)
    → z ≡ get_or level.items column z
    → IsUpTo limit (holds z) (HasRest P (site_at sites i) place (record { count = taken; seen = seen }))
table_rest holds limit P names sites i r k place taken seen low column table level z row at within is is_low is_level is_column is_z =
    let s = site_at sites i in
    let shape = table_shape holds limit P names sites i r k place table row at is in
    let some = table_some holds limit P names sites i r k place table row at is in
    let inside : low < length table.items = rw is_low (mod_below seen (length table.items) some) in
    let e = ending_of P s in
    let wide = level_wide holds limit P names sites i r k place seen low table level row at is is_low is_level in
    let capped : column ≡ min taken (cap e.bounds) = omega (arith, wide, is_column) in
    let count = slot_count names sites i r.slots.items (slots P s) row.are in
    let from : length (slots P s) - k ≡ place = omega arith in
    let ss = drop place (slots P s) in
    let here : IsTable holds limit e P ss table.items = rw from at (rw (← is) at (row.tables k table (omega (arith, row.whole)))) in
    let set : IsUpTo limit (holds z) (CanFill P ss e (record { count = column; seen = low })) = rw (← is_z) at (table_at holds limit e P ss table.items low level level.items here inside is_level refl column z (omega (arith, wide, is_column))) in
    low_up_to limit P ss e taken seen (holds z) (rw (is_low, shape.whole) at (column_up_to limit P ss e taken low (holds z) (rw capped at set)))

-- names have more than one set exactly where there is a name
sets_of_names : {X : Type 0} (xs : List X) → (1 < 2 ^ length xs) ↔ (xs ≢ [])
sets_of_names [] = ((λ l. absurd (omega arith)), λ some. absurd (some refl))
sets_of_names (x ∷ xs) = ((λ l is. absurd (cc)), λ some. pow_below 0 (length (x ∷ xs)) (omega arith))

-- without named fields no slot has a bit
fields_free : (P : Pools) (path : List ℕ) (keys : List (List ℕ)) (fs : Fields) → All (λ (t : Slot). t.bit ≡ None) (field_slots P path keys [] fs)
fields_free P path keys no_fields = λ k d l. absurd (omega arith)
fields_free P path keys (field name N required default fs) = All-cons (λ (t : Slot). t.bit ≡ None) _ (field_slots P path keys [] fs) refl (fields_free P path keys fs)

slots_free : (P : Pools) (path : List ℕ) (N : Node) (keys : List (List ℕ)) → named (ending_at P path N).asked ≡ [] → All (λ (t : Slot). t.bit ≡ None) (slots_at P path N keys)
slots_free P path (node n t (object fs preserves type b cs)) keys none = rw none (fields_free P path keys fs)
slots_free P path (node n t (nodes.map N type b)) keys none = All-map (λ (t : Slot). t.bit ≡ None) (value_slot P path N) (in_order P.names) (λ k d l. refl)
slots_free P path (node n t _) keys none = λ k d l. absurd (omega arith)

slots_free_at : (P : Pools) (fixed : Option (List Data)) (path : List ℕ) (N : Node) (keys : List (List ℕ)) → named (ending_at P path N).asked ≡ [] → All (λ (t : Slot). t.bit ≡ None) (where_fixed fixed [] (slots_at P path N keys))
slots_free_at P None path N keys none = slots_free P path N keys none
slots_free_at P (Some ds) path N keys none = λ k d l. absurd (omega arith)

none_named : {X : Type 0} (xs : List X) → (1 < 2 ^ length xs → ⊥) → xs ≡ []
none_named [] few = refl
none_named (x ∷ xs) few = absurd (few (pow_below 0 (length (x ∷ xs)) (omega arith)))

-- the first table has more levels than one exactly where the junctors of a row name a field
pub row_named : {Z : Type 0} (holds : Z → ℕ → Type 0) (limit : ℕ) (P : Pools) (names : List (List ℕ)) (sites : List Site) (i n : ℕ) (r : RowEntry Z) (table : Vec (Vec Z Global) Global) → IsRow holds limit P names sites i r → table ≡ get_or r.tables.items 0 table → n ≡ length table.items
    → (IsTrue (nat_lt 1 n) ↔ (named (ending_of P (site_at sites i)).asked ≢ [])) × (nat_lt 1 n ≡ false → All (λ (t : Slot). t.bit ≡ None) (slots P (site_at sites i)))
row_named holds limit P names sites i n r table row is long =
    let s = site_at sites i in
    let ls = named (ending_of P s).asked in
    let shape = table_shape holds limit P names sites i r 0 (length r.slots.items) table row (omega arith) is in
    let e : n ≡ 2 ^ length ls = long ∙ shape.whole in
    let named = sets_of_names ls in
    (((λ more. named.0 (rw e at (ltb-true 1 n more))), λ some. lt-ltb 1 n (rw e (named.1 some))), λ one. let few = ltb-false 1 n one in slots_free_at P s.fixed s.path s.node s.keys (none_named ls (λ l. omega arith)))

-- as many items as the limit leave no room for the list
pub more_ends : (limit : ℕ) (P : Pools) (s : Site) (t m : ℕ) → limit ≤ t → HasMore P limit s t m → ⊥
more_ends limit P s t m l h = let c = count_nodes h.items in omega (arith, h.fits, h.many)

pub none_more : (limit : ℕ) (P : Pools) (s : Site) (t : ℕ) (S : ℕ → Type 0) → limit ≤ t → ((n : ℕ) → S n → ⊥) → IsUpTo limit S (HasMore P limit s t)
none_more limit P s t S l none n = ((λ held. absurd (none n held)), λ h. absurd (more_ends limit P s t n l h.1))

-- a node of another sort is not that of a list
pub not_list : (N : Node) → (sort_at N ≡ ListSort → ⊥) → distinct_at N ≡ Free
not_list (node n t (scalar kind cs)) h = refl
not_list (node n t (object fs preserves type b cs)) h = refl
not_list (node n t (nodes.map M type b)) h = refl
not_list (node n t (list M type keys b)) h = absurd (h refl)
not_list (node n t open_) h = refl

not_list_at : (fixed : Option (List Data)) (N : Node) → (where_fixed fixed LeafSort (sort_at N) ≡ ListSort → ⊥) → where_fixed fixed Free (distinct_at N) ≡ Free
not_list_at None N h = not_list N h
not_list_at (Some ds) N h = refl

-- the sort of a node, from what its entry holds
pub leaf_sort : {Z : Type 0} (holds : Z → ℕ → Type 0) (limit : ℕ) (P : Pools) (v : Values) (sites : List Site) (i : ℕ) (e : Entry Z) (l : Leaf) → IsRight holds limit P v sites i e → e.content ≡ content.Leaf l → sort_of (site_at sites i) ≡ LeafSort
leaf_sort holds limit P v sites i e l right is = let h = rw is at right.content in h.sort

pub row_sort : {Z : Type 0} (holds : Z → ℕ → Type 0) (limit : ℕ) (P : Pools) (v : Values) (sites : List Site) (i : ℕ) (e : Entry Z) (r : RowEntry Z) → IsRight holds limit P v sites i e → e.content ≡ content.Row r → sort_of (site_at sites i) ≡ RowSort
row_sort holds limit P v sites i e r right is = let h = rw is at right.content in h.sort

node_item_sort : (P : Pools) (fixed : Option (List Data)) (path : List ℕ) (N : Node) (M : Site) → where_fixed fixed None (item_site_at P path N) ≡ Some M → where_fixed fixed LeafSort (sort_at N) ≡ ListSort
node_item_sort P (Some ds) path N M is = absurd (cc)
node_item_sort P None path (node n t (scalar kind cs)) M is = absurd (cc)
node_item_sort P None path (node n t (object fs preserves type b cs)) M is = absurd (cc)
node_item_sort P None path (node n t (nodes.map N type b)) M is = absurd (cc)
node_item_sort P None path (node n t (list N type keys b)) M is = refl
node_item_sort P None path (node n t open_) M is = absurd (cc)

pub item_sort : (P : Pools) (s M : Site) → item_site P s ≡ Some M → sort_of s ≡ ListSort
item_sort P s M is = node_item_sort P s.fixed s.path s.node M is

pub list_sort : {Z : Type 0} (holds : Z → ℕ → Type 0) (limit : ℕ) (P : Pools) (v : Values) (sites : List Site) (i : ℕ) (e : Entry Z) (l : ListEntry Z) → IsRight holds limit P v sites i e → e.content ≡ content.List l → sort_of (site_at sites i) ≡ ListSort
list_sort holds limit P v sites i e l right is = let h = rw is at right.content in item_sort P (site_at sites i) (site_at sites l.item) h.item

pub no_list : {Z : Type 0} (holds : Z → ℕ → Type 0) (limit : ℕ) (P : Pools) (v : Values) (sites : List Site) (i : ℕ) (e : Entry Z) → IsRight holds limit P v sites i e → ((l : Leaf) × (e.content ≡ content.Leaf l)) ⊎ ((r : RowEntry Z) × (e.content ≡ content.Row r))
    → distinct_of (site_at sites i) ≡ Free
no_list holds limit P v sites i e right (inl l) = let s = leaf_sort holds limit P v sites i e l.0 right l.1 in not_list_at (site_at sites i).fixed (site_at sites i).node (λ t. let no = sym s ∙ t in cc)
no_list holds limit P v sites i e right (inr r) = let s = row_sort holds limit P v sites i e r.0 right r.1 in not_list_at (site_at sites i).fixed (site_at sites i).node (λ t. let no = sym s ∙ t in cc)

pub no_row : {Z : Type 0} (holds : Z → ℕ → Type 0) (limit : ℕ) (P : Pools) (v : Values) (sites : List Site) (i : ℕ) (e : Entry Z) → IsRight holds limit P v sites i e → ((l : Leaf) × (e.content ≡ content.Leaf l)) ⊎ ((l : ListEntry Z) × (e.content ≡ content.List l))
    → sort_of (site_at sites i) ≡ RowSort → ⊥
no_row holds limit P v sites i e right (inl l) row = let s = leaf_sort holds limit P v sites i e l.0 right l.1 in let no = sym s ∙ row in cc
no_row holds limit P v sites i e right (inr l) row = let s = list_sort holds limit P v sites i e l.0 right l.1 in let no = sym s ∙ row in cc

pub no_leaf : {Z : Type 0} (holds : Z → ℕ → Type 0) (limit : ℕ) (P : Pools) (v : Values) (sites : List Site) (i : ℕ) (e : Entry Z) → IsRight holds limit P v sites i e → ((r : RowEntry Z) × (e.content ≡ content.Row r)) ⊎ ((l : ListEntry Z) × (e.content ≡ content.List l))
    → sort_of (site_at sites i) ≡ LeafSort → ⊥
no_leaf holds limit P v sites i e right (inl r) leaf = let s = row_sort holds limit P v sites i e r.0 right r.1 in let no = sym s ∙ leaf in cc
no_leaf holds limit P v sites i e right (inr l) leaf = let s = list_sort holds limit P v sites i e l.0 right l.1 in let no = sym s ∙ leaf in cc

-- the sites have their own numbers
pub own_sites : (xs : List Site) → AreSitesFrom xs 0 xs
own_sites xs j s l =
    let e : 0 + j ≡ j = omega arith in
    rw e (get_or_default xs j no_site s l)

-- a plan, from what was built for the root
pub plan_made : {Z : Type 0} (holds : Z → ℕ → Type 0) (BITS : ℕ) (root : Node) (P : Pools) (limit : ℕ) (v : Values) (es : List (Entry Z)) (n : ℕ) → limit < BITS → 1 ≤ limit → AreValues P v → IsSound root → IsBuilt holds limit P v [] es None [] root [] n → IsPlan holds BITS root P limit v es n
plan_made holds BITS root P limit v es n within room values sound built = record {
  within = within;
  room = room;
  values = values;
  count = omega (arith, built.count);
  last = built.last;
  right = built.right (sites_of P root) values sound (own_sites (sites_of P root)) (λ i e l. absurd (omega arith));
}

-- the number of candidates of a leaf, in terms of the plan's view
pub count_right : {Z : Type 0} (holds : Z → ℕ → Type 0) (BITS : ℕ) (root : Node) (P : Pools) (limit : ℕ) (v : Values) (es : List (Entry Z)) (first : ℕ) (q : Question) (i n : ℕ)
    → IsPlan holds BITS root P limit v es first → record { root = root; pools = P; limit = limit } ≡ q
    → ((Q : Pools) (sites : List Site) → AreRight holds limit Q v sites es → i < length es → sort_of (site_at sites i) ≡ LeafSort → HasCount (IsCandidate Q limit (site_at sites i)) n)
    → i < length (sites_of q.pools q.root) → sort_of (site_at (sites_of q.pools q.root) i) ≡ LeafSort → HasCount (IsCandidate q.pools q.limit (site_at (sites_of q.pools q.root) i)) n
count_right holds BITS root P limit v es first q i n plan view counts within leaf =
    let r : i < length (sites_of P root) → sort_of (site_at (sites_of P root) i) ≡ LeafSort → HasCount (IsCandidate P limit (site_at (sites_of P root) i)) n = λ l s. counts P (sites_of P root) plan.right (omega (arith, plan.count)) s in
    subst (λ (x : Question). i < length (sites_of x.pools x.root) → sort_of (site_at (sites_of x.pools x.root) i) ≡ LeafSort → HasCount (IsCandidate x.pools x.limit (site_at (sites_of x.pools x.root) i)) n) view r within leaf

pub site_among : (sites : List Site) (i : ℕ) → i < length sites → Contains sites (site_at sites i)
site_among sites i l = (i, l, sym (get_or_default sites i no_site (site_at sites i) l))

-- ---- slots and items

pub slot_at : (names : List (List ℕ)) (sites : List Site) (i : ℕ) (es : List SlotEntry) (ss : List Slot) (place : ℕ) (e : SlotEntry) → AreSlots names sites i es ss → slice_get es place ≡ Some e → (s : Slot) × ((slice_get ss place ≡ Some s) × IsSlot names sites i e s)
slot_at names sites i [] ss place e h is = absurd (cc)
slot_at names sites i (x ∷ es) [] place e h is = absurd h
slot_at names sites i (x ∷ es) (s ∷ ss) zero e h is = (s, (refl, subst (λ y. IsSlot names sites i y s) (same_Some x e is) h.0))
slot_at names sites i (x ∷ es) (s ∷ ss) (suc place) e h is = slot_at names sites i es ss place e h.1 is

pub row_slot : {Z : Type 0} (holds : Z → ℕ → Type 0) (limit : ℕ) (P : Pools) (names : List (List ℕ)) (sites : List Site) (i place : ℕ) (r : RowEntry Z) (e : SlotEntry) (t : PlanSlot) → IsRow holds limit P names sites i r → slice_get r.slots.items place ≡ Some e
    → t.name.now ≡ name_of names e.name → t.node ≡ e.node → t.must ≡ e.must → t.key ≡ e.key → t.bit ≡ e.bit → IsSlotAt sites (slots P (site_at sites i)) place t × (t.node < i)
row_slot holds limit P names sites i place r e t row is name same must key bit =
    let s = slot_at names sites i r.slots.items (slots P (site_at sites i)) place e row.are is in
    let h = s.1.1 in
    (record { slot = s.0; is = s.1.0; name = name ∙ h.name; node = rw same h.node; must = must ∙ h.must; key = key ∙ h.key; bit = bit ∙ h.bit }, rw same h.below)

drop_among : {X : Type 0} (n : ℕ) (xs : List X) (x : X) → Among (drop n xs) x → Among xs x
drop_among zero xs x a = a
drop_among (suc n) [] x a = a
drop_among (suc n) (y ∷ xs) x a = inr (drop_among n xs x a)

pub row_later : {Z : Type 0} (holds : Z → ℕ → Type 0) (limit : ℕ) (P : Pools) (names : List (List ℕ)) (sites : List Site) (i place n : ℕ) (r : RowEntry Z) → IsRow holds limit P names sites i r → AreKeySlots P (slots P (site_at sites i))
    → place < length r.slots.items → n ≡ get_or r.later.items place n → HasTuples P (drop (place + 1) (slots P (site_at sites i))) n
row_later holds limit P names sites i place n r row keys inside is =
    let ss = slots P (site_at sites i) in
    rw (← is) at (row.later place n (omega (arith, row.later_whole)) (λ s c key. keys s (contains ss s (drop_among (place + 1) ss s (contained (drop (place + 1) ss) s c))) key))

-- what a list can still take after the last place
pub more_past : {Z : Type 0} (holds : Z → ℕ → Type 0) (limit : ℕ) (P : Pools) (sites : List Site) (i t m : ℕ) (l : ListEntry Z) → IsList holds limit P sites i l → length l.more.items ≤ t → HasMore P limit (site_at sites i) t m → ⊥
more_past holds limit P sites i t m l h past more = more_ends limit P (site_at sites i) t m (omega (arith, h.whole)) more

from_least : (t : ℕ) (ds : Items) → items_count (items_from t ds) ≤ items_count ds
from_least zero ds = omega arith
from_least (suc t) no_items = omega arith
from_least (suc t) (item d ds) = omega (arith, from_least t ds)

more_within : (limit : ℕ) (P : Pools) (s : Site) (t m : ℕ) → HasMore P limit s t m → m ≤ limit
more_within limit P s t m h = let c = from_least t h.items in omega (arith, h.fits, h.nodes_are)

pub more_none_at : {Z : Type 0} (holds : Z → ℕ → Type 0) (limit : ℕ) (P : Pools) (sites : List Site) (i t m : ℕ) (l : ListEntry Z) (z : Z) → IsList holds limit P sites i l → t < length l.more.items → z ≡ get_or l.more.items t z → IsEmptyFrom (holds z) 0
    → HasMore P limit (site_at sites i) t m → ⊥
more_none_at holds limit P sites i t m l z h inside is none more =
    let u = rw (← is) at (h.more t z inside) in
    none m (omega arith) ((u m).1 (more_within limit P (site_at sites i) t m more, more))

pub slice_get_at : {X : Type 0} (xs : List X) (i : ℕ) (x : X) → i < length xs → x ≡ get_or xs i x → slice_get xs i ≡ Some x
slice_get_at [] i x l is = absurd (omega arith)
slice_get_at (y ∷ xs) zero x l is = ap Some (sym is)
slice_get_at (y ∷ xs) (suc i) x l is = slice_get_at xs i x (omega arith) is

pub none_map : {X : Type 0} (o : Option X) (A B : Type 0) → IfNone o A → (A → B) → IfNone o B
none_map None A B h f = f h
none_map (Some x) A B h f = tt
