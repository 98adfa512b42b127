-- The walk over the nodes finds all defaults, no others, and in path order of their places.
use Rattle.std.proofs.Common.{◌≡◌, ◌≢◌, arith, ℕ, List, [], ◌∷◌, ◌++◌, true, Option, Some, None, refl, ap, sym, ◌∙◌, subst, inl, inr}
use Rattle.std.specs.Prelude.{map, option_map, codes, Contains}
use Rattle.std.specs.Str.{bytes_eq}
use Rattle.std.specs.declared.cmp.Ordering.TheVariants.{Less}
use Rattle.std.proofs.lemmas.Option.{none-some, same_Some}
use Rattle.jtree.specs.Data.{Data}
use Rattle.jtree.specs.Order.{text_cmp}
use Rattle.jtree.specs.Path.{name, Path}
use Rattle.jtree.specs.PathOrder.{path_cmp}
use Rattle.jtree.specs.Internal.Lookups.{bool_cases, option_cases, same_name, own_name}
use Rattle.jtree.specs.Internal.PathLaws.{same_step}
use Rattle.jtree.specs.Internal.Rising.{Among, Rising, among_left, among_right, among_parts, rising_join, each_of, contains, all_pairs}
use Rattle.schema.specs.Document.Raw.{Raw}
use Rattle.schema.specs.Document.Places.{Step, Place, property, map_value, items, all_of, any_of, one_of, negation, step_path, place_path, place_pointer}
use Rattle.schema.specs.Nodes.Node.{Node, node, scalar, object, map as map_node, list, open_, Fields, no_fields, field, IsNode, AreOrdered, IsBeforeFields}
use Rattle.schema.specs.Nodes.ByPlace.{Declared, field_at, node_below, node_at, AreNodesOf}
use Rattle.schema.specs.Rules.Breaks.{Break, BreaksNone, AreBreaks, AreViolations, break_cmp, reported, reported_of}
use Rattle.schema.specs.Document.Forms.{HasForms}
use Rattle.schema.specs.Nodes.Shape.{IsShapeRefusal}
use Rattle.schema.specs.declared.refused.Refused.{Refused}
use Rattle.schema.specs.declared.refused.Refused.TheVariants.{Violations, NoMemory}
use Rattle.schema.specs.Rules.Broken.{Broken}
use Rattle.schema.specs.declared.violation.Violation.{Violation}
use Rattle.schema.specs.declared.violation.Rule.TheVariants.{V14}
use Rattle.stored.specs.Schemas.Defaults.{HasDefault, HasGoodDefaults, field_of}
use Rattle.stored.specs.Schemas.Accepted.{IsBroken, IsRootOf, IsRefusal}
use Rattle.stored.specs.Internal.DefaultList.{Default, after_step, own_default, defaults_of, defaults_in_fields, IsGood, AreBadOf, reported_below, AreAdded}
use Rattle.stored.proofs.FieldLemmas.{fields_before, later_field}

-- what is listed is a default of the nodes
abbrev IsListed : Node → Default → Type 0
IsListed N x = HasDefault N x.place x.node x.value

-- ---- members of mapped lists

among_image : {X Y : Type 0} (f : X → Y) (xs : List X) (x : X) → Among xs x → Among (map f xs) (f x)
among_image f [] x a = elim a [ ]
among_image f (y ∷ xs) x (inl e) = inl (ap f e)
among_image f (y ∷ xs) x (inr a) = inr (among_image f xs x a)

image : {X Y : Type 0} (f : X → Y) (xs : List X) (y : Y) → Among (map f xs) y → (x : X) × (y ≡ f x) × Among xs x
image f [] y a = elim a [ ]
image f (x ∷ xs) y (inl e) = (x, sym e, inl refl)
image f (x ∷ xs) y (inr a) = let r = image f xs y a in (r.0, r.1, inr r.2)

rising_image : {X Y : Type 0} (R : X → X → Type 0) (S : Y → Y → Type 0) (f : X → Y) → ((x y : X) → R x y → S (f x) (f y)) → (xs : List X) → Rising R xs → Rising S (map f xs)
rising_image R S f keeps [] r = tt
rising_image R S f keeps (x ∷ xs) r = (
  λ v a. let m = image f xs v a in subst (S (f x)) (sym m.1) (keeps x m.0 (r.0 m.0 m.2)),
  rising_image R S f keeps xs r.1,
)

-- ---- what is listed is there

below : (N M : Node) (s : Step) (x : Default) → node_below N s ≡ Some M → IsListed M x → IsListed N (after_step s x)
below N M s x is h = record {
  before = s ∷ h.before;
  name = h.name;
  place_is = ap (λ q. s ∷ q) h.place_is;
  object = h.object;
  object_is = rw is h.object_is;
  field = h.field;
  field_is = h.field_is;
  node_is = h.node_is;
  default_is = h.default_is;
}

field_below : (N : Node) (k : List ℕ) (f : Declared) → field_of N k ≡ Some f → node_below N (property k) ≡ Some f.node
field_below (node nullable description (object fs preserves type bounds cs)) k f is = ap (option_map (λ g. g.node)) is
field_below N k f is = absurd (none-some f is)

own_listed : (N : Node) (k : List ℕ) (f : Declared) → field_of N k ≡ Some f → (default : Option Data) → f.default ≡ default → (x : Default)
    → Among (own_default f.node default) x → IsListed N (after_step (property k) x)
own_listed N k f is None same x a = elim a [ ]
own_listed N k f is (Some d) same x (inr a) = elim a [ ]
own_listed N k f is (Some d) same x (inl e) = subst (λ y. IsListed N (after_step (property k) y)) e (record {
  before = [];
  name = k;
  place_is = refl;
  object = N;
  object_is = refl;
  field = f;
  field_is = is;
  node_is = refl;
  default_is = same;
})

mutual
  node_listed : (N : Node) → IsNode N → (x : Default) → Among (defaults_of N) x → IsListed N x
  node_listed (node nullable description (object fs preserves type bounds cs)) ordered x a =
      fields_listed (node nullable description (object fs preserves type bounds cs)) fs ordered (λ k f is. is) x a
  node_listed (node nullable description (map_node M type bounds)) ordered x a = let r = image (after_step map_value) (defaults_of M) x a in
      subst (IsListed (node nullable description (map_node M type bounds))) (sym r.1) (below _ M map_value r.0 refl (node_listed M ordered r.0 r.2))
  node_listed (node nullable description (list M type keys bounds)) ordered x a = let r = image (after_step items) (defaults_of M) x a in
      subst (IsListed (node nullable description (list M type keys bounds))) (sym r.1) (below _ M items r.0 refl (node_listed M ordered r.0 r.2))
  node_listed (node nullable description (scalar kind cs)) ordered x a = elim a [ ]
  node_listed (node nullable description open_) ordered x a = elim a [ ]

  -- the fields, as far as they are those of an object node
  fields_listed : (N : Node) (fs : Fields) → AreOrdered fs → ((k : List ℕ) (f : Declared) → field_at k fs ≡ Some f → field_of N k ≡ Some f) → (x : Default)
      → Among (defaults_in_fields fs) x → IsListed N x
  fields_listed N no_fields ordered of x a = elim a [ ]
  fields_listed N (field k M required default fs) ordered of x a = elim (among_parts (map (after_step (property k)) (own_default M default ++ defaults_of M)) (defaults_in_fields fs) x a) [
    | inl here ↦
        let r = image (after_step (property k)) (own_default M default ++ defaults_of M) x here in
        let f : Declared = record { node = M; required = required; default = default } in
        let is : field_of N k ≡ Some f = of k f (rw (own_name k) refl) in
        subst (IsListed N) (sym r.1) (elim (among_parts (own_default M default) (defaults_of M) r.0 r.2) [
          | inl own ↦ own_listed N k f is default refl r.0 own
          | inr later ↦ below N M (property k) r.0 (field_below N k f is) (node_listed M ordered.0 r.0 later)
        ])
    | inr later ↦ fields_listed N fs ordered.2 (λ l f is. of l f (later_field l k M required default fs f ordered is)) x later
  ]

-- ---- what is there is listed

field_among : (fs : Fields) (k : List ℕ) (f : Declared) (x : Default) → field_at k fs ≡ Some f → Among (own_default f.node f.default ++ defaults_of f.node) x
    → Among (defaults_in_fields fs) (after_step (property k) x)
field_among no_fields k f x is a = cc
field_among (field l M required default fs) k f x is a = elim (bool_cases (bytes_eq k l)) [
  | inl t ↦
      let same : record { node = M; required = required; default = default } ≡ f = same_Some _ f (rw t at is) in
      among_left _ (defaults_in_fields fs) (after_step (property k) x)
      (subst (λ n. Among (map (after_step (property l)) (own_default M default ++ defaults_of M)) (after_step (property n) x)) (sym (same_name k l t))
      (among_image (after_step (property l)) (own_default M default ++ defaults_of M) x (subst (λ g. Among (own_default g.node g.default ++ defaults_of g.node) x) (sym same) a)))
  | inr o ↦ among_right _ (defaults_in_fields fs) (after_step (property k) x) (field_among fs k f x (rw o at is) a)
]

field_found : (N : Node) (k : List ℕ) (f : Declared) (x : Default) → field_of N k ≡ Some f → Among (own_default f.node f.default ++ defaults_of f.node) x
    → Among (defaults_of N) (after_step (property k) x)
field_found (node nullable description (object fs preserves type bounds cs)) k f x is a = field_among fs k f x is a
field_found N k f x is a = absurd (none-some f is)

field_cases : (fs : Fields) (k : List ℕ) (M : Node) → option_map (λ f. f.node) (field_at k fs) ≡ Some M → (f : Declared) × (field_at k fs ≡ Some f) × (f.node ≡ M)
field_cases fs k M is = elim (option_cases (field_at k fs)) [
  | inl none ↦ let e = rw none at is in cc
  | inr f ↦ (f.0, f.1, same_Some f.0.node M (rw f.1 at is))
]

below_found : (N : Node) (s : Step) (M : Node) (x : Default) → node_below N s ≡ Some M → Among (defaults_of M) x → Among (defaults_of N) (after_step s x)
below_found (node nullable description (object fs preserves type bounds cs)) (property k) M x is a = let f = field_cases fs k M is in
    field_among fs k f.0 x f.1 (among_right (own_default f.0.node f.0.default) (defaults_of f.0.node) x (subst (λ K. Among (defaults_of K) x) (sym f.2) a))
below_found (node nullable description (map_node M' type bounds)) map_value M x is a =
    among_image (after_step map_value) (defaults_of M') x (subst (λ K. Among (defaults_of K) x) (sym (same_Some M' M is)) a)
below_found (node nullable description (list M' type keys bounds)) items M x is a =
    among_image (after_step items) (defaults_of M') x (subst (λ K. Among (defaults_of K) x) (sym (same_Some M' M is)) a)
below_found N s M x is a = absurd (none-some M is)

found_from : (before : Place) (N O : Node) (k : List ℕ) (f : Declared) (d : Data) → node_at N before ≡ Some O → field_of O k ≡ Some f → f.default ≡ Some d
    → Among (defaults_of N) (record { place = before ++ (property k ∷ []); node = f.node; value = d })
found_from [] N O k f d there is has =
    field_found N k f (record { place = []; node = f.node; value = d }) (subst (λ K. field_of K k ≡ Some f) (sym (same_Some N O there)) is) (rw has (inl refl))
found_from (s ∷ before) N O k f d there is has = elim (option_cases (node_below N s)) [
  | inl none ↦ let e = rw none at there in cc
  | inr M ↦ below_found N s M.0 (record { place = before ++ (property k ∷ []); node = f.node; value = d }) M.1 (found_from before M.0 O k f d (rw M.1 at there) is has)
]

all_listed : (N : Node) (p : Place) (M : Node) (d : Data) → HasDefault N p M d → Among (defaults_of N) (record { place = p; node = M; value = d })
all_listed N p M d h = subst (λ q. Among (defaults_of N) (record { place = q; node = M; value = d })) (sym h.place_is)
    (subst (λ K. Among (defaults_of N) (record { place = h.before ++ (property h.name ∷ []); node = K; value = d })) h.node_is
    (found_from h.before N h.object h.name h.field d h.object_is h.field_is h.default_is))

-- ---- in path order

abbrev IsEarlier : Default → Default → Type 0
IsEarlier x y = path_cmp (place_path x.place) (place_path y.place) ≡ Less

same_prefix : (a p q : Path) → path_cmp (a ++ p) (a ++ q) ≡ path_cmp p q
same_prefix [] p q = refl
same_prefix (s ∷ a) p q = same_step s (a ++ p) (a ++ q) ∙ same_prefix a p q

rising_after_step : (s : Step) (xs : List Default) → Rising IsEarlier xs → Rising IsEarlier (map (after_step s) xs)
rising_after_step s xs r = rising_image IsEarlier IsEarlier (after_step s) (λ x y e. same_prefix (step_path s) (place_path x.place) (place_path y.place) ∙ e) xs r

first_of_all : (s : Step) (p : Place) → path_cmp [] (place_path (s ∷ p)) ≡ Less
first_of_all (property k) p = refl
first_of_all map_value p = refl
first_of_all items p = refl
first_of_all (all_of i) p = refl
first_of_all (any_of i) p = refl
first_of_all (one_of i) p = refl
first_of_all negation p = refl

after_own : (N : Node) (x : Default) → IsListed N x → path_cmp [] (place_path x.place) ≡ Less
after_own N x h = subst (λ p. path_cmp [] (place_path p) ≡ Less) (sym h.place_is) (elim h.before as (λ before. path_cmp [] (place_path (before ++ (property h.name ∷ []))) ≡ Less) [
  | [] ↦ refl
  | s ∷ before ↦ first_of_all s (before ++ (property h.name ∷ []))
])

later_names : (fs : Fields) (k : List ℕ) → IsBeforeFields k fs → AreOrdered fs → (x : Default) → Among (defaults_in_fields fs) x
    → (l : List ℕ) × (q : Place) × (x.place ≡ property l ∷ q) × (text_cmp k l ≡ Less)
later_names no_fields k before ordered x a = elim a [ ]
later_names (field l M required default fs) k before ordered x a = elim (among_parts (map (after_step (property l)) (own_default M default ++ defaults_of M)) (defaults_in_fields fs) x a) [
  | inl here ↦ let m = image (after_step (property l)) (own_default M default ++ defaults_of M) x here in (l, m.0.place, ap (λ y. y.place) m.1, before)
  | inr later ↦ later_names fs k (fields_before k l fs before ordered.1) ordered.2 x later
]

earlier_field : (k l : List ℕ) (p q : Place) → text_cmp k l ≡ Less → path_cmp (place_path (property k ∷ p)) (place_path (property l ∷ q)) ≡ Less
earlier_field k l p q before = same_step (name (codes "properties")) (name k ∷ place_path p) (name l ∷ place_path q) ∙ rw before refl

rising_own : (M : Node) (default : Option Data) → IsNode M → Rising IsEarlier (defaults_of M) → Rising IsEarlier (own_default M default ++ defaults_of M)
rising_own M None ordered r = r
rising_own M (Some d) ordered r = (λ v a. after_own M v (node_listed M ordered v a), r)

mutual
  rising_node : (N : Node) → IsNode N → Rising IsEarlier (defaults_of N)
  rising_node (node nullable description (object fs preserves type bounds cs)) ordered = rising_fields fs ordered
  rising_node (node nullable description (map_node M type bounds)) ordered = rising_after_step map_value (defaults_of M) (rising_node M ordered)
  rising_node (node nullable description (list M type keys bounds)) ordered = rising_after_step items (defaults_of M) (rising_node M ordered)
  rising_node (node nullable description (scalar kind cs)) ordered = tt
  rising_node (node nullable description open_) ordered = tt

  rising_fields : (fs : Fields) → AreOrdered fs → Rising IsEarlier (defaults_in_fields fs)
  rising_fields no_fields ordered = tt
  rising_fields (field k M required default fs) ordered =
      rising_join IsEarlier (map (after_step (property k)) (own_default M default ++ defaults_of M)) (defaults_in_fields fs)
      (rising_after_step (property k) (own_default M default ++ defaults_of M) (rising_own M default ordered.0 (rising_node M ordered.0)))
      (rising_fields fs ordered.2)
      (λ v w a b.
      let here = image (after_step (property k)) (own_default M default ++ defaults_of M) v a in
      let later = later_names fs k ordered.1 ordered.2 w b in
      subst (λ p. path_cmp p (place_path w.place) ≡ Less) (sym (ap (λ y. place_path y.place) here.1))
      (subst (λ q. path_cmp (place_path (property k ∷ here.0.place)) (place_path q) ≡ Less) (sym later.2) (earlier_field k later.0 here.0.place later.1 later.3)))

-- ---- those that are not good

bad_parts : (xs ys : List Default) → AreBadOf xs ys → (y : Default) → Among ys y → Among xs y × (IsGood y → ⊥)
bad_parts [] ys s y a = elim (subst (λ zs. Among zs y) s a) [ ]
bad_parts (x ∷ xs) ys (inl s) y a = elim (subst (λ zs. Among zs y) s.2 a) [
  | inl e ↦ (inl e, λ good. s.0 (subst IsGood (sym e) good))
  | inr later ↦ let r = bad_parts xs s.1 s.3 y later in (inr r.0, r.1)
]
bad_parts (x ∷ xs) ys (inr s) y a = let r = bad_parts xs ys s.1 y a in (inr r.0, r.1)

bad_among : (xs ys : List Default) → AreBadOf xs ys → (y : Default) → Among xs y → (IsGood y → ⊥) → Among ys y
bad_among [] ys s y a bad = elim a [ ]
bad_among (x ∷ xs) ys (inl s) y (inl e) bad = subst (λ zs. Among zs y) (sym s.2) (inl e)
bad_among (x ∷ xs) ys (inl s) y (inr a) bad = subst (λ zs. Among zs y) (sym s.2) (inr (bad_among xs s.1 s.3 y a bad))
bad_among (x ∷ xs) ys (inr s) y (inl e) bad = absurd (bad (subst IsGood e s.0))
bad_among (x ∷ xs) ys (inr s) y (inr a) bad = bad_among xs ys s.1 y a bad

rising_bad : (xs ys : List Default) → AreBadOf xs ys → Rising IsEarlier xs → Rising IsEarlier ys
rising_bad [] ys s r = subst (Rising IsEarlier) (sym s) tt
rising_bad (x ∷ xs) ys (inl s) r = subst (Rising IsEarlier) (sym s.2) ((λ v a. r.0 v (bad_parts xs s.1 s.3 v a).0), rising_bad xs s.1 s.3 r.1)
rising_bad (x ∷ xs) ys (inr s) r = rising_bad xs ys s.1 r.1

all_good : (xs : List Default) → AreBadOf xs [] → (x : Default) → Among xs x → IsGood x
all_good [] s x a = elim a [ ]
all_good (y ∷ xs) (inl s) x a = let e = s.2 in cc
all_good (y ∷ xs) (inr s) x (inl e) = subst IsGood e s.0
all_good (y ∷ xs) (inr s) x (inr a) = all_good xs s.1 x a

-- ---- as violations

abbrev break_of : Default → Break
break_of x = record { place = x.place; rule = V14 }

reported_places : (bad : List Default) → reported_below [] bad ≡ map reported_of (map break_of bad)
reported_places [] = refl
reported_places (x ∷ bad) = ap (λ ts. record { pointer = place_pointer x.place; rule = V14 } ∷ ts) (reported_places bad)

earlier_break : (x y : Default) → IsEarlier x y → break_cmp (break_of x) (break_of y) ≡ Less
earlier_break x y e = rw e refl

-- the bad defaults are all that is broken where none of the sixteen other rules is
bad_violations : (raw : Raw) (N : Node) (bad : List Default) (found : List Violation) → BreaksNone raw → AreNodesOf true N raw
    → ((M : Node) → AreNodesOf true M raw → M ≡ N) → AreBadOf (defaults_of N) bad → map reported found ≡ reported_below [] bad → AreViolations (IsBroken raw) found
bad_violations raw N bad found unbroken nodes only are_bad is = (
  map break_of bad,
  record {
    each = each_of (λ b. IsBroken raw b.place b.rule) (map break_of bad) (λ b a.
        let x = image break_of bad b a in
        let parts = bad_parts (defaults_of N) bad are_bad x.0 x.2 in
        subst (λ c. IsBroken raw c.place c.rule) (sym x.1) (inr (
          refl,
          unbroken,
          record { root = N; nodes = nodes; node = x.0.node; default = x.0.value; is = node_listed N nodes.ordered x.0 parts.0; bad = parts.1 },
        )));
    all = λ p r b. elim b [
      | inl other ↦ absurd (unbroken p r other)
      | inr own ↦
          let h = own.2 in
          let there : HasDefault N p h.node h.default = subst (λ R. HasDefault R p h.node h.default) (only h.root h.nodes) h.is in
          let listed = bad_among (defaults_of N) bad are_bad (record { place = p; node = h.node; value = h.default }) (all_listed N p h.node h.default there) h.bad in
          subst (λ s. Contains (map break_of bad) (record { place = p; rule = s })) (sym own.0) (contains (map break_of bad) (record { place = p; rule = V14 }) (among_image break_of bad _ listed))
    ];
    ascending = all_pairs (λ b c. break_cmp b c ≡ Less) (map break_of bad) (rising_image IsEarlier (λ b c. break_cmp b c ≡ Less) break_of earlier_break bad
        (rising_bad (defaults_of N) bad are_bad (rising_node N nodes.ordered)));
  },
  is ∙ reported_places bad,
)

-- where none is bad, the schema is accepted
none_bad : (raw : Raw) (N : Node) → HasForms raw → BreaksNone raw → AreNodesOf true N raw → ((M : Node) → AreNodesOf true M raw → M ≡ N)
    → AreBadOf (defaults_of N) [] → IsRootOf N raw
none_bad raw N forms unbroken nodes only none =
    let good : HasGoodDefaults N = λ p M d h. all_good (defaults_of N) none (record { place = p; node = M; value = d }) (all_listed N p M d h) in
    record {
      forms = forms;
      unbroken = λ p r b. elim b [
        | inl other ↦ unbroken p r other
        | inr own ↦ let h = own.2 in h.bad (good p h.node h.default (subst (λ R. HasDefault R p h.node h.default) (only h.root h.nodes) h.is))
      ];
      nodes = nodes;
      defaults = good;
    }

-- where one of the sixteen is broken, V14 is not asked
pub other_breaks : (raw : Raw) (b : Break) (breaks : List Break) → AreBreaks (Broken raw) (b ∷ breaks) → AreBreaks (IsBroken raw) (b ∷ breaks)
other_breaks raw b breaks are = record {
  each = λ k d within. inl (are.each k d within);
  all = λ p r broken. elim broken [
    | inl other ↦ are.all p r other
    | inr own ↦ absurd (own.1 b.place b.rule (are.each 0 b (omega arith)))
  ];
  ascending = are.ascending;
}

other_violations : (raw : Raw) (found : List Violation) → AreViolations (Broken raw) found → found ≢ [] → AreViolations (IsBroken raw) found
other_violations raw [] v some = absurd (some refl)
other_violations raw (w ∷ found) ([], are, is) some = cc
other_violations raw (w ∷ found) (b ∷ breaks, are, is) some = (b ∷ breaks, other_breaks raw b breaks are, is)

pub nothing_broken : (raw : Raw) (N : Node) → IsRootOf N raw → AreViolations (IsBroken raw) []
nothing_broken raw N root = ([], record { each = λ k d within. absurd (omega arith); all = λ p r b. absurd (root.unbroken p r b); ascending = λ i j d lt within. absurd (omega arith) }, refl)

-- ---- what is answered

empty_bad : (bad : List Default) (found : List Violation) → found ≡ [] → map reported found ≡ reported_below [] bad → bad ≡ []
empty_bad [] found none is = refl
empty_bad (x ∷ bad) found none is = let e = rw none at is in cc

pub is_accepted : (raw : Raw) (N : Node) (found : List Violation) → HasForms raw → BreaksNone raw → AreNodesOf true N raw → ((M : Node) → AreNodesOf true M raw → M ≡ N)
    → AreAdded [] (defaults_of N) [] (map reported found) → found ≡ [] → IsRootOf N raw
is_accepted raw N found forms unbroken nodes only a none =
    none_bad raw N forms unbroken nodes only (subst (AreBadOf (defaults_of N)) (empty_bad a.bad found none a.reported) a.are_bad)

pub is_refused : (raw : Raw) (N : Node) (found : List Violation) → BreaksNone raw → AreNodesOf true N raw → ((M : Node) → AreNodesOf true M raw → M ≡ N)
    → AreAdded [] (defaults_of N) [] (map reported found) → AreViolations (IsBroken raw) found
is_refused raw N found unbroken nodes only a = bad_violations raw N a.bad found unbroken nodes only a.are_bad a.reported

pub refusal_from : (raw : Raw) (r : Refused) → IsShapeRefusal raw r → IsRefusal raw r
refusal_from raw (Violations vs) h = (other_violations raw vs.items h.0 h.1, h.1)
refusal_from raw NoMemory h = tt
