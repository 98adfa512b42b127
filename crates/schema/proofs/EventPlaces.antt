-- The events of a schema are its places, and its keywords whose members or entries are limited.
use Rattle.std.proofs.Common.{◌≡◌, ◌⊎◌, ℕ, zero, suc, List, [], ◌∷◌, ◌++◌, true, Option, Some, None, refl, sym, ap, ◌∙◌, subst, inl, inr, append_assoc}
use Rattle.std.specs.Str.{bytes_eq}
use Rattle.std.proofs.lemmas.List.{append-nil}
use Rattle.std.proofs.lemmas.Option.{same_Some, option_and_then_some}
use Rattle.jtree.specs.Data.{Data, list, object, Items, no_items, item, Members, no_members, member, IsTree, AreTrees, AreMembers}
use Rattle.jtree.specs.Path.{Path, name, index, member_at, item_at, part_by, part_at, under}
use Rattle.jtree.specs.Path as tree
use Rattle.jtree.specs.Internal.Lookups.{bool_cases, member_later}
use Rattle.schema.specs.Document.Places.{Step, Place, schema_by, schema_at}
use Rattle.schema.specs.Document.Limits.{size, limited_by}
use Rattle.schema.specs.declared.limits.Limited.{Limited}
use Rattle.schema.specs.Internal.Events.{Event, entered, counted, part_of, count_event, keyword_event, member_events, schema_events, IsIn, IsCounted}
use Rattle.schema.proofs.EventParts.{part_first, part_down, KeyEvent, members_down, members_up, step_from_part, part_from_step, step_up}

-- ---- the counts of keywords

count_down : (p : Place) (k : List ℕ) (o : Option Limited) (n : ℕ) (m : Event) → IsIn m (count_event p k o n) → (l : Limited) × (o ≡ Some l) × (m ≡ counted p k l n)
count_down p k None n m h = elim h [ ]
count_down p k (Some l) n m (inl e) = (l, refl, e)
count_down p k (Some l) n m (inr none) = elim none [ ]

pub keyword_down : (p : Place) (k : List ℕ) (d : Data) (m : Event) → IsIn m (keyword_event p k d) → (l : Limited) × (limited_by k ≡ Some l) × (m ≡ counted p k l (size d))
keyword_down p k d m h = count_down p k (limited_by k) (size d) m h

pub keyword_up : (p : Place) (k : List ℕ) (d : Data) (l : Limited) → limited_by k ≡ Some l → IsIn (counted p k l (size d)) (keyword_event p k d)
keyword_up p k d l limit = rw limit (inl refl)

-- ---- trees, and induction along the steps of schemas

pub member_tree : (ms : Members) (k : List ℕ) (w : Data) → AreMembers ms → member_at k ms ≡ Some w → IsTree w
member_tree no_members k w sorted e = cc
member_tree (member l d ms) k w sorted e = elim (bool_cases (bytes_eq k l)) [
  | inl t ↦ subst IsTree (same_Some d w (rw t at e)) sorted.0
  | inr f ↦ member_tree ms k w sorted.2 (sym (member_later k l d ms f) ∙ e)
]

pub item_tree : (i : ℕ) (ds : Items) (d : Data) → AreTrees ds → item_at i ds ≡ Some d → IsTree d
item_tree i no_items d h e = cc
item_tree zero (item x ds) d h e = subst IsTree (same_Some x d e) h.0
item_tree (suc i) (item x ds) d h e = item_tree i ds d h.1 e

by_tree : (d : Data) (s : tree.Step) (e : Data) → IsTree d → part_by d s ≡ Some e → IsTree e
by_tree (list ds) (index i) e o h = item_tree i ds e o h
by_tree (object ms) (name k) e o h = member_tree ms k e o h
by_tree _ _ e o h = cc

pub under_tree : (d : Data) (k : List ℕ) (e : Data) → IsTree d → under d k ≡ Some e → IsTree e
under_tree d k = by_tree d (name k)

pub part_tree : (path : Path) (d e : Data) → IsTree d → part_at d path ≡ Some e → IsTree e
part_tree [] d e o h = subst IsTree (same_Some d e h) o
part_tree (s ∷ path) d e o h = let first = part_first d s path e h in part_tree path first.0 e (by_tree d s first.0 o first.1) first.2

step_object : (ms : Members) (s : Step) (ns : Members) → AreMembers ms → schema_by (object ms) s ≡ Some (object ns) → AreMembers ns
step_object ms s ns o h =
    let b = part_from_step ms s (object ns) h in
    let value : IsTree b.value = member_tree ms b.key b.value o b.at in
    let below : IsTree (object b.below) = part_tree b.rest b.value (object b.below) value b.found in
    subst IsTree (sym b.is) below

abbrev pub AllParts : (Data → Type 0) → Data → Type 0
AllParts P d = (s : tree.Step) (e : Data) → part_by d s ≡ Some e → P e

list_parts : (P : Data → Type 0) (ds : Items) → ((i : ℕ) (e : Data) → item_at i ds ≡ Some e → P e) → AllParts P (list ds)
list_parts P ds each (name k) e h = cc
list_parts P ds each (index i) e h = each i e h

object_parts : (P : Data → Type 0) (ms : Members) → ((k : List ℕ) (e : Data) → member_at k ms ≡ Some e → P e) → AllParts P (object ms)
object_parts P ms each (name k) e h = each k e h
object_parts P ms each (index i) e h = cc

item_first : (P : Data → Type 0) (d : Data) (ds : Items) → P d → ((i : ℕ) (e : Data) → item_at i ds ≡ Some e → P e) → (i : ℕ) (e : Data) → item_at i (item d ds) ≡ Some e → P e
item_first P d ds here each zero e h = subst P (same_Some d e h) here
item_first P d ds here each (suc i) e h = each i e h

mutual
  tree_induction : (P : Data → Type 0) → ((d : Data) → AllParts P d → P d) → (d : Data) → P d
  tree_induction P step (list ds) = step (list ds) (list_parts P ds (items_induction P step ds))
  tree_induction P step (object ms) = step (object ms) (object_parts P ms (members_induction P step ms))
  tree_induction P step d = step d (λ s e h. cc)

  items_induction : (P : Data → Type 0) → ((d : Data) → AllParts P d → P d) → (ds : Items) → (i : ℕ) (e : Data) → item_at i ds ≡ Some e → P e
  items_induction P step no_items = λ i e h. cc
  items_induction P step (item d ds) = item_first P d ds (tree_induction P step d) (items_induction P step ds)

  members_induction : (P : Data → Type 0) → ((d : Data) → AllParts P d → P d) → (ms : Members) → (k : List ℕ) (e : Data) → member_at k ms ≡ Some e → P e
  members_induction P step no_members = λ k e h. cc
  members_induction P step (member l d ms) = λ k e h. elim (bool_cases (bytes_eq k l)) [
    | inl t ↦ subst P (same_Some d e (rw t at h)) (tree_induction P step d)
    | inr f ↦ members_induction P step ms k e (sym (member_later k l d ms f) ∙ h)
  ]

-- at the objects among the parts of a value
abbrev pub AllBelow : (Members → Type 0) → Data → Type 0
AllBelow P d = (path : Path) (ns : Members) → part_at d path ≡ Some (object ns) → P ns

abbrev pub Steps : (Members → Type 0) → Type 0
Steps P = (ms : Members) → ((s : Step) (ns : Members) → schema_by (object ms) s ≡ Some (object ns) → P ns) → P ms

all_below : (P : Members → Type 0) → Steps P → (d : Data) → AllParts (AllBelow P) d → AllBelow P d
all_below P step d parts [] ns h = step ns (λ s below found.
    let b = part_from_step ns s (object below) found in
    let here : AllParts (AllBelow P) (object ns) = subst (AllParts (AllBelow P)) (same_Some d (object ns) h) parts in
    here (name b.key) b.value b.at b.rest below (b.found ∙ ap Some (sym b.is)))
all_below P step d parts (s ∷ path) ns h = let first = part_first d s path (object ns) h in parts s first.0 first.1 path ns first.2

schema_induction : (P : Members → Type 0) → Steps P → (ms : Members) → P ms
schema_induction P step ms = tree_induction (AllBelow P) (all_below P step) (object ms) [] ms refl

-- ---- an event is a place or a keyword

abbrev pub EventOf : Data → Place → Event → Type 0
EventOf raw p (entered q s) = (r : Place) × (q ≡ p ++ r) × (schema_at raw r ≡ Some s)
EventOf raw p (counted q k l n) = (r : Place) × (q ≡ p ++ r) × IsCounted raw r k l n

place_below : (p r q : Place) (s : Step) → q ≡ (p ++ (s ∷ [])) ++ r → q ≡ p ++ (s ∷ r)
place_below p r q s is = is ∙ append_assoc p (s ∷ []) r

at_below : (raw e t : Data) (s : Step) (r : Place) → schema_by raw s ≡ Some e → schema_at e r ≡ Some t → schema_at raw (s ∷ r) ≡ Some t
at_below raw e t s r found rest = rw found rest

event_below : (raw e : Data) (s : Step) (p : Place) (m : Event) → schema_by raw s ≡ Some e → EventOf e (p ++ (s ∷ [])) m → EventOf raw p m
event_below raw e s p (entered q t) found h = (s ∷ h.0, place_below p h.0 q s h.1, at_below raw e t s h.0 found h.2)
event_below raw e s p (counted q k l n) found h = (
  s ∷ h.0,
  place_below p h.0 q s h.1,
  record {
    schema = h.2.schema;
    is = at_below raw e h.2.schema s h.0 found h.2.is;
    value = h.2.value;
    is_there = h.2.is_there;
    limit = h.2.limit;
    count = h.2.count;
  },
)

-- an event of the members is of a keyword, or of a schema one step on
pub record KeywordHere (p : Place) (ms : Members) (m : Event) : Type 0 where
  pub key : List ℕ
  pub value : Data
  pub at : member_at key ms ≡ Some value
  pub here : IsIn m (keyword_event p key value)

pub record StepOn (p : Place) (ms : Members) (m : Event) : Type 0 where
  pub step : Step
  pub below : Members
  pub leads : schema_by (object ms) step ≡ Some (object below)
  pub within : IsIn m (schema_events (p ++ (step ∷ [])) below)

pub steps_down : (p : Place) (ms : Members) (m : Event) → AreMembers ms → IsIn m (member_events p true ms) → KeywordHere p ms m ⊎ StepOn p ms m
steps_down p ms m o h =
    let found : KeyEvent p ms m = members_down p ms m o h in
    elim found.here [
      | inl keyword ↦ inl (record { key = found.key; value = found.value; at = found.at; here = keyword })
      | inr part ↦
          let one = part_down p (part_of found.key) found.value m (member_tree ms found.key found.value o found.at) part in
          inr (record { step = one.step; below = one.below; leads = step_from_part ms found.key found.value one.step one.rest one.below found.at one.leads one.at; within = one.within })
    ]

here_entered : (p : Place) (d : Data) (m : Event) → m ≡ entered p d → EventOf d p m
here_entered p d m is = subst (EventOf d p) (sym is) ([], sym (append-nil p), refl)

here_keyword : (p : Place) (ms : Members) (m : Event) → KeywordHere p ms m → EventOf (object ms) p m
here_keyword p ms m w =
    let keyword = keyword_down p w.key w.value m w.here in
    subst (EventOf (object ms) p) (sym keyword.2) (
      [],
      sym (append-nil p),
      record {
        schema = object ms;
        is = refl;
        value = w.value;
        is_there = w.at;
        limit = keyword.1;
        count = refl;
      },
    )

abbrev pub HasEvents : Members → Type 0
HasEvents ms = AreMembers ms → (p : Place) (m : Event) → IsIn m (schema_events p ms) → EventOf (object ms) p m

events_step : Steps HasEvents
events_step ms below o p m h = elim h [
  | inl e ↦ here_entered p (object ms) m e
  | inr more ↦ elim (steps_down p ms m o more) [
    | inl keyword ↦ here_keyword p ms m keyword
    | inr on ↦ event_below (object ms) (object on.below) on.step p m on.leads (below on.step on.below on.leads (step_object ms on.step on.below o on.leads) (p ++ (on.step ∷ [])) m on.within)
  ]
]

pub event_of : (ms : Members) → AreMembers ms → (p : Place) (m : Event) → IsIn m (schema_events p ms) → EventOf (object ms) p m
event_of ms = schema_induction HasEvents events_step ms

-- ---- each place and each keyword is an event

pub record Reached (ms : Members) (p r : Place) (e : Data) : Type 0 where
  pub below : Members
  pub is : e ≡ object below
  pub each : (m : Event) → IsIn m (schema_events (p ++ r) below) → IsIn m (schema_events p ms)

reached : (r : Place) (ms : Members) (p : Place) (e : Data) → schema_at (object ms) r ≡ Some e → Reached ms p r e
reached [] ms p e h = record {
  below = ms;
  is = sym (same_Some (object ms) e h);
  each = λ m inside. subst (λ q. IsIn m (schema_events q ms)) (append-nil p) inside;
}
reached (s ∷ r) ms p e h = option_and_then_some (λ t. schema_at t r) (schema_by (object ms) s) e h (λ f found rest.
    let b = part_from_step ms s f found in
    let leads : schema_by (object ms) s ≡ Some (object b.below) = found ∙ ap Some b.is in
    let on : Reached b.below (p ++ (s ∷ [])) r e = reached r b.below (p ++ (s ∷ [])) e (subst (λ t. schema_at t r ≡ Some e) b.is rest) in
    record {
      below = on.below;
      is = on.is;
      each = λ m inside. inr (step_up p ms s b.below m leads (on.each m (subst (λ q. IsIn m (schema_events q on.below)) (sym (append_assoc p (s ∷ []) r)) inside)));
    })

pub schema_entered : (ms : Members) (r : Place) (s : Data) → schema_at (object ms) r ≡ Some s → IsIn (entered r s) (schema_events [] ms)
schema_entered ms r s h =
    let on : Reached ms [] r s = reached r ms [] s h in
    on.each (entered r s) (inl (ap (entered r) on.is))

pub keyword_recorded : (ms : Members) (r : Place) (k : List ℕ) (l : Limited) (n : ℕ) → IsCounted (object ms) r k l n → IsIn (counted r k l n) (schema_events [] ms)
keyword_recorded ms r k l n h =
    let on : Reached ms [] r h.schema = reached r ms [] h.schema h.is in
    let at : member_at k on.below ≡ Some h.value = subst (λ d. under d k ≡ Some h.value) on.is h.is_there in
    let event = counted r k l (size h.value) in
    subst (λ m. IsIn (counted r k l m) (schema_events [] ms)) h.count (on.each event (inr (members_up r on.below event k h.value at (inl (keyword_up r k h.value l h.limit)))))

pub entered_schema : (ms : Members) → AreMembers ms → (p : Place) (s : Data) → IsIn (entered p s) (schema_events [] ms) → schema_at (object ms) p ≡ Some s
entered_schema ms o p s h = let found = event_of ms o [] (entered p s) h in subst (λ q. schema_at (object ms) q ≡ Some s) (sym found.1) found.2

pub recorded_keyword : (ms : Members) → AreMembers ms → (p : Place) (k : List ℕ) (l : Limited) (n : ℕ) → IsIn (counted p k l n) (schema_events [] ms) → IsCounted (object ms) p k l n
recorded_keyword ms o p k l n h = let found = event_of ms o [] (counted p k l n) h in subst (λ q. IsCounted (object ms) q k l n) (sym found.1) found.2
