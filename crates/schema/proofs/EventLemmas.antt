-- `schema_events` are the events of a schema, in path order.
use Rattle.std.proofs.Common.{◌≡◌, ◌⊎◌, ◌<◌, ◌+◌, ℕ, suc, List, [], ◌∷◌, ◌++◌, Bool, true, false, Option, Some, None, refl, sym, ap, ◌∙◌, subst, inl, inr, append_assoc, arith}
use Rattle.std.specs.Prelude.{codes}
use Rattle.std.specs.Cmp.{nat_cmp_is}
use Rattle.std.specs.Ordering.{nat_cmp}
use Rattle.std.specs.declared.cmp.Ordering.TheVariants.{Less}
use Rattle.std.proofs.lemmas.List.{append-nil}
use Rattle.jtree.specs.Data.{Data, list, object, Items, no_items, item, Members, no_members, member, IsTree, AreTrees, AreMembers}
use Rattle.jtree.specs.Order.{text_cmp}
use Rattle.jtree.specs.Path.{Path, name, index, member_at}
use Rattle.jtree.specs.PathOrder.{path_cmp}
use Rattle.jtree.specs.Internal.PathLaws.{same_step}
use Rattle.jtree.specs.Internal.Lookups.{before_each}
use Rattle.schema.specs.Document.Places.{Step, property, Place, step_path, place_path}
use Rattle.schema.specs.Document.Limits.{size, limited_by}
use Rattle.schema.specs.declared.limits.Limited.{Limited}
use Rattle.schema.specs.Internal.Events.{Event, entered, counted, event_path, Junctor, all, any, one, branch, Part, a_schema, properties, branches, no_schema, part_of, count_event, keyword_event, part_events, member_events, item_events, schema_events, IsIn, Ascend, AreEventsOf}
use Rattle.schema.proofs.EventParts.{in_append, PartIs, is_properties, is_none, part_is, Leads, to_property, lead_path, schema_down, names_down, items_down, PartEvent, part_down, KeyEvent, members_down}
use Rattle.schema.proofs.EventPlaces.{keyword_down, member_tree, item_tree, part_tree, EventOf, event_of, entered_schema, schema_entered, recorded_keyword, keyword_recorded}

-- ---- paths

path_after : (r p q : Path) → path_cmp (r ++ p) (r ++ q) ≡ path_cmp p q
path_after [] p q = refl
path_after (s ∷ r) p q = same_step s (r ++ p) (r ++ q) ∙ path_after r p q

name_before : (k l : List ℕ) (p q : Path) → text_cmp k l ≡ Less → path_cmp (name k ∷ p) (name l ∷ q) ≡ Less
name_before k l p q e = rw e refl

index_before : (i j : ℕ) (p q : Path) → i < j → path_cmp (index i ∷ p) (index j ∷ q) ≡ Less
index_before i j p q before = let less : Less ≡ nat_cmp i j = nat_cmp_is i j Less before in rw (← less) refl

-- paths that begin alike compare by what follows
after_both : (r p q x y : Path) → x ≡ r ++ p → y ≡ r ++ q → path_cmp p q ≡ Less → path_cmp x y ≡ Less
after_both r p q x y a b less = ap (λ z. path_cmp z y) a ∙ (ap (λ z. path_cmp (r ++ p) z) b ∙ (path_after r p q ∙ less))

-- a beginning comes first
beginning_first : (r p : Path) (y : Path) (k : List ℕ) → y ≡ r ++ (name k ∷ p) → path_cmp r y ≡ Less
beginning_first r p y k b = after_both r [] (name k ∷ p) r y (sym (append-nil r)) b refl

place_path_join : (p r : Place) → place_path (p ++ r) ≡ place_path p ++ place_path r
place_path_join [] r = refl
place_path_join (s ∷ p) r = ap (λ x. step_path s ++ x) (place_path_join p r) ∙ sym (append_assoc (step_path s) (place_path p) (place_path r))

-- ---- where the events of a schema lie

abbrev pub Goes : Path → Event → Type 0
Goes r m = (q : Path) × (event_path m ≡ r ++ q)

place_goes : (p r q : Place) → q ≡ p ++ r → place_path q ≡ place_path p ++ place_path r
place_goes p r q is = ap place_path is ∙ place_path_join p r

goes_of : (raw : Data) (p : Place) (m : Event) → EventOf raw p m → Goes (place_path p) m
goes_of raw p (entered q s) h = (place_path h.0, place_goes p h.0 q h.1)
goes_of raw p (counted q k l n) h =
    (place_path h.0 ++ (name k ∷ []), ap (λ x. x ++ (name k ∷ [])) (place_goes p h.0 q h.1) ∙ append_assoc (place_path p) (place_path h.0) (name k ∷ []))

schema_goes : (p : Place) (s : Step) (ns : Members) (m : Event) → AreMembers ns → IsIn m (schema_events (p ++ (s ∷ [])) ns) → (q : Path) × (event_path m ≡ place_path p ++ (step_path s ++ q))
schema_goes p s ns m o h =
    let goes = goes_of (object ns) (p ++ (s ∷ [])) m (event_of ns o (p ++ (s ∷ [])) m h) in
    let one : place_path (p ++ (s ∷ [])) ≡ place_path p ++ step_path s = place_goes p (s ∷ []) (p ++ (s ∷ [])) refl ∙ ap (λ x. place_path p ++ x) (append-nil (step_path s)) in
    (goes.0, goes.1 ∙ (ap (λ x. x ++ goes.0) one ∙ append_assoc (place_path p) (step_path s) goes.0))

-- ---- below a keyword

key_parts : (p : Place) (k : List ℕ) (part : Part) (d : Data) (m : Event) → PartIs k part → IsTree d → IsIn m (part_events p part d)
    → (s : Step) × (t : Path) × (q : Path) × Leads part s t × (event_path m ≡ place_path p ++ (name k ∷ (t ++ q)))
key_parts p k part d m is o h =
    let one : PartEvent p part d m = part_down p part d m o h in
    let below : IsTree (object one.below) = part_tree one.rest d (object one.below) o one.at in
    let goes = schema_goes p one.step one.below m below one.within in
    (one.step, one.rest, goes.0, one.leads, goes.1 ∙ ap (λ x. place_path p ++ (x ++ goes.0)) (lead_path k part one.step one.rest is one.leads))

key_path : (p : Place) (k : List ℕ) (d : Data) (m : Event) → IsTree d → IsIn m (keyword_event p k d) ⊎ IsIn m (part_events p (part_of k) d) → (q : Path) × (event_path m ≡ place_path p ++ (name k ∷ q))
key_path p k d m o h = elim h [
  | inl keyword ↦ ([], ap event_path (keyword_down p k d m keyword).2)
  | inr part ↦ let found = key_parts p k (part_of k) d m (part_is k) o part in (found.1 ++ found.2, found.4)
]

keys_path : (p : Place) (ms : Members) (m : Event) → AreMembers ms → IsIn m (member_events p true ms)
    → (k : List ℕ) × (d : Data) × (q : Path) × (member_at k ms ≡ Some d) × (event_path m ≡ place_path p ++ (name k ∷ q))
keys_path p ms m o h =
    let found : KeyEvent p ms m = members_down p ms m o h in
    let path = key_path p found.key found.value m (member_tree ms found.key found.value o found.at) found.here in
    (found.key, found.value, path.0, found.at, path.1)

properties_rest : (s : Step) (t : Path) → Leads properties s t → (l : List ℕ) × (t ≡ name l ∷ [])
properties_rest s t (to_property l) = (l, refl)

nothing_leads : (s : Step) (t : Path) → Leads no_schema s t → ⊥
nothing_leads s t h = elim h [ ]

-- a keyword comes before what is in it
keyword_first : (p : Place) (k : List ℕ) (part : Part) (d : Data) (m n : Event) → PartIs k part → IsTree d → IsIn m (keyword_event p k d) → IsIn n (part_events p part d)
    → path_cmp (event_path m) (event_path n) ≡ Less
keyword_first p k part d m n is_properties o h i =
    let keyword = codes "properties" in
    let found = key_parts p keyword properties d n is_properties o i in
    let rest = properties_rest found.0 found.1 found.3 in
    let path : event_path n ≡ place_path p ++ (name keyword ∷ (name rest.0 ∷ found.2)) = found.4 ∙ ap (λ x. place_path p ++ (name keyword ∷ (x ++ found.2))) rest.1 in
    after_both (place_path p) (name keyword ∷ []) (name keyword ∷ (name rest.0 ∷ found.2)) (event_path m) (event_path n)
    (ap event_path (keyword_down p keyword d m h).2) path (same_step (name keyword) [] (name rest.0 ∷ found.2))
keyword_first p k part d m n (is_none l) o h i = let found = key_parts p k no_schema d n (is_none k) o i in absurd (nothing_leads found.0 found.1 found.3)
keyword_first p k part d m n _ o h i = elim h [ ]

-- the events of a keyword come before those of later keywords
key_first : (p : Place) (k : List ℕ) (d : Data) (ms : Members) (m n : Event) → AreMembers (member k d ms)
    → IsIn m (keyword_event p k d) ⊎ IsIn m (part_events p (part_of k) d) → IsIn n (member_events p true ms) → path_cmp (event_path m) (event_path n) ≡ Less
key_first p k d ms m n o h i =
    let here = key_path p k d m o.0 h in
    let later = keys_path p ms n o.2 i in
    after_both (place_path p) (name k ∷ here.0) (name later.0 ∷ later.2) (event_path m) (event_path n) here.1 later.4
    (name_before k later.0 here.0 later.2 (before_each k ms later.0 later.1 o.1 o.2 later.3))

-- ---- below a name, and below an entry

value_path : (p : Place) (s : Step) (d : Data) (m : Event) → IsTree d → IsIn m (part_events p (a_schema s) d) → (q : Path) × (event_path m ≡ place_path p ++ (step_path s ++ q))
value_path p s d m o h = let found = schema_down p s d m h in schema_goes p s found.0 m (subst IsTree found.1 o) found.2

property_first : (p : Place) (k : List ℕ) (d : Data) (ms : Members) (m n : Event) → AreMembers (member k d ms)
    → IsIn m (part_events p (a_schema (property k)) d) → IsIn n (member_events p false ms) → path_cmp (event_path m) (event_path n) ≡ Less
property_first p k d ms m n o h i =
    let keyword = name (codes "properties") in
    let here = value_path p (property k) d m o.0 h in
    let later = names_down p ms n o.2 i in
    let below : AreMembers later.1 = member_tree ms later.0 (object later.1) o.2 later.2 in
    let there = schema_goes p (property later.0) later.1 n below later.3 in
    after_both (place_path p) (keyword ∷ (name k ∷ here.0)) (keyword ∷ (name later.0 ∷ there.0)) (event_path m) (event_path n) here.1 there.1
    (same_step keyword (name k ∷ here.0) (name later.0 ∷ there.0) ∙ name_before k later.0 here.0 there.0 (before_each k ms later.0 (object later.1) o.1 o.2 later.2))

branch_before : (j : Junctor) (i x : ℕ) (p q : Path) → i < x → path_cmp (step_path (branch j i) ++ p) (step_path (branch j x) ++ q) ≡ Less
branch_before all i x p q h = same_step (name (codes "allOf")) (index i ∷ p) (index x ∷ q) ∙ index_before i x p q h
branch_before any i x p q h = same_step (name (codes "anyOf")) (index i ∷ p) (index x ∷ q) ∙ index_before i x p q h
branch_before one i x p q h = same_step (name (codes "oneOf")) (index i ∷ p) (index x ∷ q) ∙ index_before i x p q h

branch_first : (p : Place) (j : Junctor) (i : ℕ) (d : Data) (ds : Items) (m n : Event) → AreTrees (item d ds)
    → IsIn m (part_events p (a_schema (branch j i)) d) → IsIn n (item_events p j (suc i) ds) → path_cmp (event_path m) (event_path n) ≡ Less
branch_first p j i d ds m n o h l =
    let here = value_path p (branch j i) d m o.0 h in
    let later = items_down p j (suc i) ds n l in
    let below : AreMembers later.1 = item_tree later.0 ds (object later.1) o.1 later.2 in
    let there = schema_goes p (branch j (suc i + later.0)) later.1 n below later.3 in
    let before : i < suc i + later.0 = omega arith in
    after_both (place_path p) (step_path (branch j i) ++ here.0) (step_path (branch j (suc i + later.0)) ++ there.0) (event_path m) (event_path n) here.1 there.1
    (branch_before j i (suc i + later.0) here.0 there.0 before)

-- a schema comes before what is in it
schema_first : (p : Place) (ms : Members) (m : Event) → AreMembers ms → IsIn m (member_events p true ms) → path_cmp (place_path p) (event_path m) ≡ Less
schema_first p ms m o h = let found = keys_path p ms m o h in beginning_first (place_path p) found.2 (event_path m) found.0 found.4

-- ---- the order of all

ascend_append : (xs ys : List Event) → Ascend xs → Ascend ys → ((m n : Event) → IsIn m xs → IsIn n ys → path_cmp (event_path m) (event_path n) ≡ Less) → Ascend (xs ++ ys)
ascend_append [] ys a b first = b
ascend_append (m ∷ xs) ys a b first = (
  λ n h. elim (in_append n xs ys h) [
    | inl left ↦ a.0 n left
    | inr right ↦ first m n (inl refl) right
  ],
  ascend_append xs ys a.1 b (λ x y h i. first x y (inr h) i),
)

keyword_ascend : (p : Place) (k : List ℕ) (o : Option Limited) (n : ℕ) → Ascend (count_event p k o n)
keyword_ascend p k None n = tt
keyword_ascend p k (Some l) n = (λ m h. elim h [ ], tt)

keys_ascend : (p : Place) (k : List ℕ) (d : Data) (ms : Members) → AreMembers (member k d ms) → Ascend (part_events p (part_of k) d) → Ascend (member_events p true ms) → Ascend (member_events p true (member k d ms))
keys_ascend p k d ms o here later =
    ascend_append (keyword_event p k d) (part_events p (part_of k) d ++ member_events p true ms) (keyword_ascend p k (limited_by k) (size d))
    (ascend_append (part_events p (part_of k) d) (member_events p true ms) here later (λ m n h i. key_first p k d ms m n o (inr h) i))
    (λ m n h i. elim (in_append n (part_events p (part_of k) d) (member_events p true ms) i) [
      | inl part ↦ keyword_first p k (part_of k) d m n (part_is k) o.0 h part
      | inr more ↦ key_first p k d ms m n o (inl h) more
    ])

mutual
  part_ascend : (p : Place) (part : Part) (d : Data) → IsTree d → Ascend (part_events p part d)
  part_ascend p (a_schema s) (object ms) o = (λ n h. schema_first (p ++ (s ∷ [])) ms n o h, member_ascend (p ++ (s ∷ [])) true ms o)
  part_ascend p properties (object ms) o = member_ascend p false ms o
  part_ascend p (branches j) (list ds) o = item_ascend p j 0 ds o
  part_ascend _ _ _ _ = tt

  member_ascend : (p : Place) (b : Bool) (ms : Members) → AreMembers ms → Ascend (member_events p b ms)
  member_ascend p true no_members o = tt
  member_ascend p true (member k d ms) o = keys_ascend p k d ms o (part_ascend p (part_of k) d o.0) (member_ascend p true ms o.2)
  member_ascend p false no_members o = tt
  member_ascend p false (member k d ms) o =
      ascend_append (part_events p (a_schema (property k)) d) (member_events p false ms) (part_ascend p (a_schema (property k)) d o.0) (member_ascend p false ms o.2)
      (λ m n h i. property_first p k d ms m n o h i)

  item_ascend : (p : Place) (j : Junctor) (i : ℕ) (ds : Items) → AreTrees ds → Ascend (item_events p j i ds)
  item_ascend p j i no_items o = tt
  item_ascend p j i (item d ds) o =
      ascend_append (part_events p (a_schema (branch j i)) d) (item_events p j (suc i) ds) (part_ascend p (a_schema (branch j i)) d o.0) (item_ascend p j (suc i) ds o.1)
      (λ m n h l. branch_first p j i d ds m n o h l)

pub schema_events_are : (ms : Members) → AreMembers ms → AreEventsOf (object ms) (schema_events [] ms)
schema_events_are ms o = record {
  ascending = (λ n h. schema_first [] ms n o h, member_ascend [] true ms o);
  subschemas = λ p s. (schema_entered ms p s, entered_schema ms o p s);
  keywords = λ p k l n. (keyword_recorded ms p k l n, recorded_keyword ms o p k l n);
}
