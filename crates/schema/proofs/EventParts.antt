-- Which events are below a place: those of the schemas one step on, and those of the keywords.
use Rattle.std.proofs.Common.{◌≡◌, ◌⊎◌, ℕ, zero, suc, ◌+◌, List, [], ◌∷◌, ◌++◌, true, false, Some, refl, sym, ap, ◌∙◌, subst, inl, inr, arith}
use Rattle.std.specs.Prelude.{if◌then◌else◌, option_and_then, codes}
use Rattle.std.specs.Str.{bytes_eq}
use Rattle.std.proofs.lemmas.Option.{same_Some, option_and_then_some}
use Rattle.jtree.specs.Data.{Data, list, object, Items, no_items, item, Members, no_members, member, IsTree, AreMembers}
use Rattle.jtree.specs.Path.{Path, name, index, member_at, item_at, part_by, part_at}
use Rattle.jtree.specs.Path as tree
use Rattle.jtree.specs.Internal.Lookups.{bool_cases, same_name, member_first, member_later, member_tail}
use Rattle.schema.specs.Document.Places.{Step, property, map_value, items, all_of, any_of, one_of, negation, Place, step_path, only_object, schema_by}
use Rattle.schema.specs.Internal.Events.{Event, Junctor, all, any, one, branch, Part, a_schema, properties, branches, no_schema, part_of, keyword_event, part_events, member_events, item_events, schema_events, IsIn}

-- ---- membership in joined lists

pub in_append : (m : Event) (xs ys : List Event) → IsIn m (xs ++ ys) → IsIn m xs ⊎ IsIn m ys
in_append m [] ys h = inr h
in_append m (n ∷ xs) ys h = elim h [
  | inl e ↦ inl (inl e)
  | inr r ↦ elim (in_append m xs ys r) [
    | inl a ↦ inl (inr a)
    | inr b ↦ inr b
  ]
]

pub in_left : (m : Event) (xs ys : List Event) → IsIn m xs → IsIn m (xs ++ ys)
in_left m [] ys h = elim h [ ]
in_left m (n ∷ xs) ys h = elim h [
  | inl e ↦ inl e
  | inr r ↦ inr (in_left m xs ys r)
]

pub in_right : (m : Event) (xs ys : List Event) → IsIn m ys → IsIn m (xs ++ ys)
in_right m [] ys h = h
in_right m (n ∷ xs) ys h = inr (in_right m xs ys h)

-- ---- keywords and what they hold

pub data PartIs : List ℕ → Part → Type 0 where
  is_properties : PartIs (codes "properties") properties
  is_map_value : PartIs (codes "additionalProperties") (a_schema map_value)
  is_items : PartIs (codes "items") (a_schema items)
  is_all : PartIs (codes "allOf") (branches all)
  is_any : PartIs (codes "anyOf") (branches any)
  is_one : PartIs (codes "oneOf") (branches one)
  is_negation : PartIs (codes "not") (a_schema negation)
  is_none : (k : List ℕ) → PartIs k no_schema

either_part : (k keyword : List ℕ) (x y : Part) → PartIs keyword x → PartIs k y → PartIs k (if bytes_eq k keyword then x else y)
either_part k keyword x y here other = elim (bool_cases (bytes_eq k keyword)) [
  | inl t ↦ rw t (subst (λ n. PartIs n x) (sym (same_name k keyword t)) here)
  | inr f ↦ rw f other
]

pub part_is : (k : List ℕ) → PartIs k (part_of k)
part_is k =
    either_part k (codes "properties") _ _ is_properties
    (either_part k (codes "additionalProperties") _ _ is_map_value
    (either_part k (codes "items") _ _ is_items
    (either_part k (codes "allOf") _ _ is_all
    (either_part k (codes "anyOf") _ _ is_any
    (either_part k (codes "oneOf") _ _ is_one
    (either_part k (codes "not") _ _ is_negation (is_none k)))))))

-- the steps into a part, and what is left of their paths there
pub data Leads : Part → Step → Path → Type 0 where
  itself : (s : Step) → Leads (a_schema s) s []
  to_property : (k : List ℕ) → Leads properties (property k) (name k ∷ [])
  to_branch : (j : Junctor) (i : ℕ) → Leads (branches j) (branch j i) (index i ∷ [])

pub lead_path : (k : List ℕ) (part : Part) (s : Step) (t : Path) → PartIs k part → Leads part s t → step_path s ≡ name k ∷ t
lead_path k part s t is_properties (to_property l) = refl
lead_path k part s t is_map_value (itself x) = refl
lead_path k part s t is_items (itself x) = refl
lead_path k part s t is_all (to_branch j i) = refl
lead_path k part s t is_any (to_branch j i) = refl
lead_path k part s t is_one (to_branch j i) = refl
lead_path k part s t is_negation (itself x) = refl
lead_path k part s t (is_none l) h = elim h [ ]

pub step_lead : (s : Step) → (k : List ℕ) × (t : Path) × (step_path s ≡ name k ∷ t) × Leads (part_of k) s t
step_lead (property k) = (codes "properties", name k ∷ [], refl, to_property k)
step_lead map_value = (codes "additionalProperties", [], refl, itself map_value)
step_lead items = (codes "items", [], refl, itself items)
step_lead (all_of i) = (codes "allOf", index i ∷ [], refl, to_branch all i)
step_lead (any_of i) = (codes "anyOf", index i ∷ [], refl, to_branch any i)
step_lead (one_of i) = (codes "oneOf", index i ∷ [], refl, to_branch one i)
step_lead negation = (codes "not", [], refl, itself negation)

-- an object that is left
pub object_only : (d e : Data) → only_object d ≡ Some e → (ms : Members) × (d ≡ object ms) × (e ≡ object ms)
object_only (object ms) e h = (ms, refl, sym (same_Some (object ms) e h))
object_only _ e h = cc

pub part_first : (d : Data) (s : tree.Step) (path : Path) (e : Data) → part_at d (s ∷ path) ≡ Some e → (f : Data) × (part_by d s ≡ Some f) × (part_at f path ≡ Some e)
part_first d s path e h = option_and_then_some (λ x. part_at x path) (part_by d s) e h (λ f found rest. (f, found, rest))

pub part_join : (d : Data) (s : tree.Step) (path : Path) (e f : Data) → part_by d s ≡ Some f → part_at f path ≡ Some e → part_at d (s ∷ path) ≡ Some e
part_join d s path e f found rest = rw found rest

pub part_one : (d : Data) (s : tree.Step) (e : Data) → part_at d (s ∷ []) ≡ Some e → part_by d s ≡ Some e
part_one d s e h = let first = part_first d s [] e h in first.1 ∙ first.2

-- ---- the events of a value, down to the schema that has them

pub schema_down : (p : Place) (s : Step) (d : Data) (m : Event) → IsIn m (part_events p (a_schema s) d) → (ns : Members) × (d ≡ object ns) × IsIn m (schema_events (p ++ (s ∷ [])) ns)
schema_down p s (object ms) m h = (ms, refl, h)
schema_down p s _ m h = elim h [ ]

pub schema_up : (p : Place) (s : Step) (d : Data) (ns : Members) (m : Event) → d ≡ object ns → IsIn m (schema_events (p ++ (s ∷ [])) ns) → IsIn m (part_events p (a_schema s) d)
schema_up p s d ns m is h = subst (λ x. IsIn m (part_events p (a_schema s) x)) (sym is) h

pub names_down : (p : Place) (ms : Members) (m : Event) → AreMembers ms → IsIn m (member_events p false ms)
    → (l : List ℕ) × (ns : Members) × (member_at l ms ≡ Some (object ns)) × IsIn m (schema_events (p ++ (property l ∷ [])) ns)
names_down p no_members m o h = elim h [ ]
names_down p (member k d ms) m o h = elim (in_append m (part_events p (a_schema (property k)) d) (member_events p false ms) h) [
  | inl here ↦ let found = schema_down p (property k) d m here in (k, found.0, member_first k d ms ∙ ap Some found.1, found.2)
  | inr later ↦ let found = names_down p ms m o.2 later in (found.0, found.1, member_tail k d ms found.0 (object found.1) o found.2, found.3)
]

pub names_up : (p : Place) (ms : Members) (m : Event) (l : List ℕ) (ns : Members) → member_at l ms ≡ Some (object ns) → IsIn m (schema_events (p ++ (property l ∷ [])) ns)
    → IsIn m (member_events p false ms)
names_up p no_members m l ns at h = cc
names_up p (member k d ms) m l ns at h = elim (bool_cases (bytes_eq l k)) [
  | inl t ↦ let is : d ≡ object ns = same_Some d (object ns) (rw t at at) in
      in_left m (part_events p (a_schema (property k)) d) (member_events p false ms)
      (schema_up p (property k) d ns m is (subst (λ n. IsIn m (schema_events (p ++ (property n ∷ [])) ns)) (same_name l k t) h))
  | inr f ↦ in_right m (part_events p (a_schema (property k)) d) (member_events p false ms) (names_up p ms m l ns (sym (member_later l k d ms f) ∙ at) h)
]

pub items_down : (p : Place) (j : Junctor) (i : ℕ) (ds : Items) (m : Event) → IsIn m (item_events p j i ds)
    → (n : ℕ) × (ns : Members) × (item_at n ds ≡ Some (object ns)) × IsIn m (schema_events (p ++ (branch j (i + n) ∷ [])) ns)
items_down p j i no_items m h = elim h [ ]
items_down p j i (item d ds) m h = elim (in_append m (part_events p (a_schema (branch j i)) d) (item_events p j (suc i) ds) h) [
  | inl here ↦
      let found = schema_down p (branch j i) d m here in
      let same : i ≡ i + 0 = omega arith in
      (0, found.0, ap Some found.1, subst (λ n. IsIn m (schema_events (p ++ (branch j n ∷ [])) found.0)) same found.2)
  | inr later ↦
      let found = items_down p j (suc i) ds m later in
      let same : suc i + found.0 ≡ i + suc found.0 = omega arith in
      (suc found.0, found.1, found.2, subst (λ n. IsIn m (schema_events (p ++ (branch j n ∷ [])) found.1)) same found.3)
]

pub items_up : (p : Place) (j : Junctor) (i : ℕ) (ds : Items) (m : Event) (n : ℕ) (ns : Members) → item_at n ds ≡ Some (object ns)
    → IsIn m (schema_events (p ++ (branch j (i + n) ∷ [])) ns) → IsIn m (item_events p j i ds)
items_up p j i no_items m n ns at h = cc
items_up p j i (item d ds) m zero ns at h =
    let same : i + 0 ≡ i = omega arith in
    in_left m (part_events p (a_schema (branch j i)) d) (item_events p j (suc i) ds)
    (schema_up p (branch j i) d ns m (same_Some d (object ns) at) (subst (λ x. IsIn m (schema_events (p ++ (branch j x ∷ [])) ns)) same h))
items_up p j i (item d ds) m (suc n) ns at h =
    let same : i + suc n ≡ suc i + n = omega arith in
    in_right m (part_events p (a_schema (branch j i)) d) (item_events p j (suc i) ds)
    (items_up p j (suc i) ds m n ns at (subst (λ x. IsIn m (schema_events (p ++ (branch j x ∷ [])) ns)) same h))

pub record PartEvent (p : Place) (part : Part) (d : Data) (m : Event) : Type 0 where
  pub step : Step
  pub rest : Path
  pub leads : Leads part step rest
  pub below : Members
  pub at : part_at d rest ≡ Some (object below)
  pub within : IsIn m (schema_events (p ++ (step ∷ [])) below)

pub part_down : (p : Place) (part : Part) (d : Data) (m : Event) → IsTree d → IsIn m (part_events p part d) → PartEvent p part d m
part_down p (a_schema s) d m o h =
    let found = schema_down p s d m h in
    record { step = s; rest = []; leads = itself s; below = found.0; at = ap Some found.1; within = found.2 }
part_down p properties (object ms) m o h =
    let found = names_down p ms m o h in
    record { step = property found.0; rest = name found.0 ∷ []; leads = to_property found.0; below = found.1; at = part_join (object ms) (name found.0) [] (object found.1) (object found.1) found.2 refl; within = found.3 }
part_down p (branches j) (list ds) m o h =
    let found = items_down p j 0 ds m h in
    let same : 0 + found.0 ≡ found.0 = omega arith in
    record {
      step = branch j found.0;
      rest = index found.0 ∷ [];
      leads = to_branch j found.0;
      below = found.1;
      at = part_join (list ds) (index found.0) [] (object found.1) (object found.1) found.2 refl;
      within = subst (λ n. IsIn m (schema_events (p ++ (branch j n ∷ [])) found.1)) same found.3;
    }
part_down p _ _ m o h = elim h [ ]

property_up : (p : Place) (k : List ℕ) (d : Data) (ns : Members) (m : Event) → part_by d (name k) ≡ Some (object ns) → IsIn m (schema_events (p ++ (property k ∷ [])) ns) → IsIn m (part_events p properties d)
property_up p k (object ms) ns m at h = names_up p ms m k ns at h
property_up p k _ ns m at h = cc

branch_up : (p : Place) (j : Junctor) (i : ℕ) (d : Data) (ns : Members) (m : Event) → part_by d (index i) ≡ Some (object ns) → IsIn m (schema_events (p ++ (branch j i ∷ [])) ns) → IsIn m (part_events p (branches j) d)
branch_up p j i (list ds) ns m at h =
    let same : i ≡ 0 + i = omega arith in
    items_up p j 0 ds m i ns at (subst (λ n. IsIn m (schema_events (p ++ (branch j n ∷ [])) ns)) same h)
branch_up p j i _ ns m at h = cc

pub part_up : (p : Place) (part : Part) (s : Step) (t : Path) (d : Data) (ns : Members) (m : Event) → Leads part s t → part_at d t ≡ Some (object ns) → IsIn m (schema_events (p ++ (s ∷ [])) ns)
    → IsIn m (part_events p part d)
part_up p part s t d ns m (itself x) at h = schema_up p x d ns m (same_Some d (object ns) at) h
part_up p part s t d ns m (to_property k) at h = property_up p k d ns m (part_one d (name k) (object ns) at) h
part_up p part s t d ns m (to_branch j i) at h = branch_up p j i d ns m (part_one d (index i) (object ns) at) h

-- ---- the events of keywords

pub record KeyEvent (p : Place) (ms : Members) (m : Event) : Type 0 where
  pub key : List ℕ
  pub value : Data
  pub at : member_at key ms ≡ Some value
  pub here : IsIn m (keyword_event p key value) ⊎ IsIn m (part_events p (part_of key) value)

pub members_down : (p : Place) (ms : Members) (m : Event) → AreMembers ms → IsIn m (member_events p true ms) → KeyEvent p ms m
members_down p no_members m o h = elim h [ ]
members_down p (member k d ms) m o h = elim (in_append m (keyword_event p k d) (part_events p (part_of k) d ++ member_events p true ms) h) [
  | inl keyword ↦ record { key = k; value = d; at = member_first k d ms; here = inl keyword }
  | inr more ↦ elim (in_append m (part_events p (part_of k) d) (member_events p true ms) more) [
    | inl part ↦ record { key = k; value = d; at = member_first k d ms; here = inr part }
    | inr later ↦
        let found = members_down p ms m o.2 later in
        record { key = found.key; value = found.value; at = member_tail k d ms found.key found.value o found.at; here = found.here }
  ]
]

pub members_up : (p : Place) (ms : Members) (m : Event) (l : List ℕ) (e : Data) → member_at l ms ≡ Some e → IsIn m (keyword_event p l e) ⊎ IsIn m (part_events p (part_of l) e)
    → IsIn m (member_events p true ms)
members_up p no_members m l e at h = cc
members_up p (member k d ms) m l e at h = elim (bool_cases (bytes_eq l k)) [
  | inl t ↦
      let is : d ≡ e = same_Some d e (rw t at at) in
      let same : l ≡ k = same_name l k t in
      let here : IsIn m (keyword_event p k d) ⊎ IsIn m (part_events p (part_of k) d) =
      subst (λ n. IsIn m (keyword_event p n d) ⊎ IsIn m (part_events p (part_of n) d)) same (subst (λ x. IsIn m (keyword_event p l x) ⊎ IsIn m (part_events p (part_of l) x)) (sym is) h) in
      elim here [
        | inl keyword ↦ in_left m (keyword_event p k d) (part_events p (part_of k) d ++ member_events p true ms) keyword
        | inr part ↦ in_right m (keyword_event p k d) (part_events p (part_of k) d ++ member_events p true ms) (in_left m (part_events p (part_of k) d) (member_events p true ms) part)
      ]
  | inr f ↦
      in_right m (keyword_event p k d) (part_events p (part_of k) d ++ member_events p true ms)
      (in_right m (part_events p (part_of k) d) (member_events p true ms) (members_up p ms m l e (sym (member_later l k d ms f) ∙ at) h))
]

-- a step from a schema, by the keyword that it passes
pub step_from_part : (ms : Members) (k : List ℕ) (d : Data) (s : Step) (t : Path) (ns : Members) → member_at k ms ≡ Some d → Leads (part_of k) s t → part_at d t ≡ Some (object ns)
    → schema_by (object ms) s ≡ Some (object ns)
step_from_part ms k d s t ns at leads below =
    let path : step_path s ≡ name k ∷ t = lead_path k (part_of k) s t (part_is k) leads in
    let found : part_at (object ms) (step_path s) ≡ Some (object ns) = subst (λ x. part_at (object ms) x ≡ Some (object ns)) (sym path) (part_join (object ms) (name k) t (object ns) d at below) in
    ap (option_and_then only_object) found

pub record StepPart (ms : Members) (s : Step) (e : Data) : Type 0 where
  pub key : List ℕ
  pub value : Data
  pub rest : Path
  pub path_is : step_path s ≡ name key ∷ rest
  pub leads : Leads (part_of key) s rest
  pub at : member_at key ms ≡ Some value
  pub below : Members
  pub found : part_at value rest ≡ Some (object below)
  pub is : e ≡ object below

pub part_from_step : (ms : Members) (s : Step) (e : Data) → schema_by (object ms) s ≡ Some e → StepPart ms s e
part_from_step ms s e h =
    let lead = step_lead s in
    option_and_then_some only_object (part_at (object ms) (step_path s)) e h (λ f found only.
    let o = object_only f e only in
    let here : part_at (object ms) (name lead.0 ∷ lead.1) ≡ Some (object o.0) = subst (λ x. part_at (object ms) x ≡ Some (object o.0)) lead.2 (found ∙ ap Some o.1) in
    let first = part_first (object ms) (name lead.0) lead.1 (object o.0) here in
    record { key = lead.0; value = first.0; rest = lead.1; path_is = lead.2; leads = lead.3; at = first.1; below = o.0; found = first.2; is = o.2 })

pub step_up : (p : Place) (ms : Members) (s : Step) (ns : Members) (m : Event) → schema_by (object ms) s ≡ Some (object ns) → IsIn m (schema_events (p ++ (s ∷ [])) ns) → IsIn m (member_events p true ms)
step_up p ms s ns m h inside =
    let b = part_from_step ms s (object ns) h in
    members_up p ms m b.key b.value b.at (inr (part_up p (part_of b.key) s b.rest b.value ns m b.leads (b.found ∙ ap Some (sym b.is)) inside))
