-- The first event at which a limit is passed is the first place in path order that passes one.
use Rattle.std.proofs.Common.{◌≡◌, ◌≢◌, ◌⊎◌, ◌<◌, ◌≤◌, ℕ, suc, ◌+◌, List, [], ◌∷◌, ◌++◌, length, true, false, Some, None, refl, sym, ap, ◌∙◌, subst, inl, inr, arith, append_assoc}
use Rattle.std.specs.Prelude.{Option, nat_lt, nat_le, codes}
use Rattle.std.specs.Str.{bytes_eq}
use Rattle.std.proofs.lemmas.Option.{same_Some}
use Rattle.std.specs.Cmp.{IsTotalOrder}
use Rattle.std.specs.Ordering.{ordering_reverse}
use Rattle.std.proofs.lemmas.Cmp.{nat_list_cmp_total, nat_cmp_total, lists_total, tied_itself}
use Rattle.std.proofs.lemmas.Bool.Decides.{nat_tests}
use Rattle.std.specs.declared.cmp.Ordering.TheVariants.{Less, Equal}
use Rattle.jtree.specs.Data.{Data}
use Rattle.jtree.specs.Path.{Step, name, index, Path}
use Rattle.jtree.specs.PathOrder.{step_cmp, path_cmp, IsFirst}
use Rattle.jtree.specs.Internal.Lookups.{bool_cases}
use Rattle.schema.specs.Document.Places.{Place, place_path, IsPlace}
use Rattle.schema.specs.Document.Limits.{size, most, limited_by, IsTooLong, ComeBefore, ArePlaces, PassesBy, PassesLimit, too_many_places, too_deep, too_long, IsWithinLimits}
use Rattle.schema.specs.declared.limits.Limited.{Limited}
use Rattle.schema.specs.declared.limits.Limited.TheVariants.{Places, Steps, Properties, Required, MapKeys, Choices}
use Rattle.schema.specs.declared.limits.Limits.{Limits}
use Rattle.schema.specs.Internal.Events.{Event, entered, counted, event_path, IsIn, Ascend, IsCounted, AreEventsOf, Passing, of_all_places, passing, limit_break, subschemas_of}
use Rattle.jtree.specs.Internal.Rising.{Among, Rising, contained, contains, rising, all_pairs}

-- ---- path order is total

step_turn : (a b : Step) → step_cmp a b ≡ ordering_reverse (step_cmp b a)
step_turn (name k) (name l) = nat_list_cmp_total.antisymm k l
step_turn (index i) (index j) = nat_cmp_total.antisymm i j
step_turn (name k) (index j) = refl
step_turn (index i) (name l) = refl

step_trans : (a b c : Step) → step_cmp a b ≡ Less → step_cmp b c ≡ Less → step_cmp a c ≡ Less
step_trans (name k) (name l) (name m) p q = nat_list_cmp_total.trans k l m p q
step_trans (name k) (name l) (index j) p q = refl
step_trans (name k) (index i) (name m) p q = cc
step_trans (name k) (index i) (index j) p q = refl
step_trans (index i) (name l) c p q = cc
step_trans (index i) (index j) (name m) p q = cc
step_trans (index i) (index j) (index h) p q = nat_cmp_total.trans i j h p q

step_congr : (a b c : Step) → step_cmp a b ≡ Equal → step_cmp a c ≡ step_cmp b c
step_congr (name k) (name l) (name m) p = nat_list_cmp_total.congr k l m p
step_congr (name k) (name l) (index j) p = refl
step_congr (name k) (index i) c p = cc
step_congr (index i) (name l) c p = cc
step_congr (index i) (index j) (name m) p = refl
step_congr (index i) (index j) (index h) p = nat_cmp_total.congr i j h p

pub step_total : IsTotalOrder step_cmp
step_total = record { antisymm = step_turn; trans = step_trans; congr = step_congr }

pub path_total : IsTotalOrder path_cmp
path_total = lists_total step_total

pub not_before_itself : (p : Path) → path_cmp p p ≢ Less
not_before_itself p less = let tied = tied_itself path_total p in cc

pub not_both : (p q : Path) → path_cmp p q ≡ Less → path_cmp q p ≢ Less
not_both p q less more = not_before_itself p (path_total.trans p q p less more)

-- ---- lists of places that ascend

abbrev Before : Place → Place → Type 0
Before p q = path_cmp (place_path p) (place_path q) ≡ Less

not_before_same : (p q : Place) → p ≡ q → Before p q → ⊥
not_before_same p q e h = not_before_itself (place_path q) (subst (λ (v : Place). Before v q) e h)

same_head : (x y : Place) (xs ys : List Place) → Rising Before (x ∷ xs) → Rising Before (y ∷ ys) → Among (y ∷ ys) x → Among (x ∷ xs) y → x ≡ y
same_head x y xs ys r s (inl e) b = sym e
same_head x y xs ys r s (inr a) (inl e) = e
same_head x y xs ys r s (inr a) (inr b) = absurd (not_both (place_path x) (place_path y) (r.0 y b) (s.0 x a))

tail_among : (x y : Place) (xs ys : List Place) → x ≡ y → Rising Before (x ∷ xs) → ((v : Place) → Among (x ∷ xs) v → Among (y ∷ ys) v) → (v : Place) → Among xs v → Among ys v
tail_among x y xs ys same r to v a = elim (to v (inr a)) [
  | inl e ↦ absurd (not_before_same x v (same ∙ e) (r.0 v a))
  | inr later ↦ later
]

-- two lists that ascend and have the same elements are as long
same_length : (xs ys : List Place) → Rising Before xs → Rising Before ys → ((v : Place) → Among xs v → Among ys v) → ((v : Place) → Among ys v → Among xs v) → length xs ≡ length ys
same_length [] [] r s to from = refl
same_length [] (y ∷ ys) r s to from = absurd (from y (inl refl))
same_length (x ∷ xs) [] r s to from = absurd (to x (inl refl))
same_length (x ∷ xs) (y ∷ ys) r s to from =
    let same = same_head x y xs ys r s (to x (inl refl)) (from y (inl refl)) in
    let tails = same_length xs ys r.1 s.1 (tail_among x y xs ys same r to) (tail_among y x ys xs (sym same) s from) in
    omega (arith, tails)

-- the places before one are as many, however they are listed
same_before : (raw : Data) (p : Place) (xs ys : List Place) → ComeBefore raw p xs → ComeBefore raw p ys → length xs ≡ length ys
same_before raw p xs ys f g = same_length xs ys (rising Before xs f.ascending) (rising Before ys g.ascending)
    (λ v a. let e = f.each v (contains xs v a) in contained ys v (g.all v e.0 e.1))
    (λ v a. let e = g.each v (contains ys v a) in contained xs v (f.all v e.0 e.1))

-- ---- events

in_left : (m : Event) (xs ys : List Event) → IsIn m xs → IsIn m (xs ++ ys)
in_left m [] ys e = elim e [ ]
in_left m (x ∷ xs) ys (inl e) = inl e
in_left m (x ∷ xs) ys (inr e) = inr (in_left m xs ys e)

in_right : (m : Event) (xs ys : List Event) → IsIn m ys → IsIn m (xs ++ ys)
in_right m [] ys e = e
in_right m (x ∷ xs) ys e = inr (in_right m xs ys e)

in_parts : (m : Event) (xs ys : List Event) → IsIn m (xs ++ ys) → IsIn m xs ⊎ IsIn m ys
in_parts m [] ys e = inr e
in_parts m (x ∷ xs) ys (inl e) = inl (inl e)
in_parts m (x ∷ xs) ys (inr e) = elim (in_parts m xs ys e) [ inl a ↦ inl (inr a) | inr b ↦ inr b ]

ascend_left : (xs ys : List Event) → Ascend (xs ++ ys) → Ascend xs
ascend_left [] ys h = tt
ascend_left (x ∷ xs) ys h = (λ n e. h.0 n (in_left n xs ys e), ascend_left xs ys h.1)

ascend_right : (xs ys : List Event) → Ascend (xs ++ ys) → Ascend ys
ascend_right [] ys h = h
ascend_right (x ∷ xs) ys h = ascend_right xs ys h.1

ascend_across : (xs ys : List Event) → Ascend (xs ++ ys) → (m n : Event) → IsIn m xs → IsIn n ys → path_cmp (event_path m) (event_path n) ≡ Less
ascend_across [] ys h m n a b = elim a [ ]
ascend_across (x ∷ xs) ys h m n (inl e) b = subst (λ t. path_cmp (event_path t) (event_path n) ≡ Less) (sym e) (h.0 n (in_right n xs ys b))
ascend_across (x ∷ xs) ys h m n (inr a) b = ascend_across xs ys h.1 m n a b

-- no event from one on is before it
not_before_first : (m n : Event) (ys : List Event) → Ascend (m ∷ ys) → IsIn n (m ∷ ys) → path_cmp (event_path n) (event_path m) ≢ Less
not_before_first m n ys h (inl e) less = not_before_itself (event_path m) (subst (λ t. path_cmp (event_path t) (event_path m) ≡ Less) e less)
not_before_first m n ys h (inr b) less = not_both (event_path m) (event_path n) (h.0 n b) less

abbrev places_of : List Event → List Place
places_of [] = []
places_of (entered p s ∷ events) = p ∷ places_of events
places_of (counted p k l n ∷ events) = places_of events

recorded : (events : List Event) (p : Place) → Among (places_of events) p → (s : Data) × IsIn (entered p s) events
recorded [] p a = elim a [ ]
recorded (entered q s ∷ events) p (inl e) = (s, inl (ap (λ v. entered v s) (sym e)))
recorded (entered q s ∷ events) p (inr a) = let r = recorded events p a in (r.0, inr r.1)
recorded (counted q k l n ∷ events) p a = let r = recorded events p a in (r.0, inr r.1)

of_event : (events : List Event) (p : Place) (s : Data) → IsIn (entered p s) events → Among (places_of events) p
of_event [] p s e = elim e [ ]
of_event (entered q t ∷ events) p s (inl e) = let same : q ≡ p = cc in inl same
of_event (entered q t ∷ events) p s (inr e) = inr (of_event events p s e)
of_event (counted q k l n ∷ events) p s (inl e) = absurd (cc)
of_event (counted q k l n ∷ events) p s (inr e) = of_event events p s e

rising_places : (events : List Event) → Ascend events → Rising Before (places_of events)
rising_places [] h = tt
rising_places (entered p s ∷ events) h = (λ v a. let r = recorded events v a in h.0 (entered v r.0) r.1, rising_places events h.1)
rising_places (counted p k l n ∷ events) h = rising_places events h.1

more_places : (events : List Event) (m : Event) → length (places_of (events ++ (m ∷ []))) ≡ length (places_of (m ∷ [])) + length (places_of events)
more_places [] m = omega arith
more_places (entered p s ∷ events) m = omega (arith, more_places events m)
more_places (counted p k l n ∷ events) m = more_places events m

come_before : (raw : Data) (done rest : List Event) (p : Place) (s : Data) → AreEventsOf raw (done ++ (entered p s ∷ rest)) → ComeBefore raw p (places_of done)
come_before raw done rest p s are = record {
  each = λ q c.
      let r = recorded done q (contained (places_of done) q c) in (
        (r.0, (are.subschemas q r.0).1 (in_left (entered q r.0) done (entered p s ∷ rest) r.1)),
        ascend_across done (entered p s ∷ rest) are.ascending (entered q r.0) (entered p s) r.1 (inl refl),
      );
  ascending = all_pairs Before (places_of done) (rising_places done (ascend_left done (entered p s ∷ rest) are.ascending));
  all = λ q is less. elim (in_parts (entered q is.0) done (entered p s ∷ rest) ((are.subschemas q is.0).0 is.1)) [
    | inl a ↦ contains (places_of done) q (of_event done q is.0 a)
    | inr b ↦ absurd (not_before_first (entered p s) (entered q is.0) rest (ascend_right done (entered p s ∷ rest) are.ascending) b less)
  ];
}

-- all places of a schema are among its events
all_places : (raw : Data) (events : List Event) → AreEventsOf raw events → ArePlaces raw (places_of events)
all_places raw events are = record {
  each = λ p. (
    λ c. let r = recorded events p (contained (places_of events) p c) in (r.0, (are.subschemas p r.0).1 r.1),
    λ is. contains (places_of events) p (of_event events p is.0 ((are.subschemas p is.0).0 is.1)),
  );
  ascending = all_pairs Before (places_of events) (rising_places events are.ascending);
}

same_count : (events : List Event) → length (places_of events) ≡ length (subschemas_of events)
same_count [] = refl
same_count (entered p s ∷ events) = ap suc (same_count events)
same_count (counted p k l n ∷ events) = same_count events

-- no keyword limits the number of places
limits_entries : (k : List ℕ) (l : Limited) (all n : ℕ) → limited_by k ≡ Some l → of_all_places l all n ≡ n
limits_entries k l all n h =
    let same : (m : Limited) → of_all_places m all n ≡ n → Some m ≡ Some l → of_all_places l all n ≡ n = λ m own e. subst (λ x. of_all_places x all n ≡ n) (same_Some m l e) own in
    elim (bool_cases (bytes_eq k (codes "properties"))) [
      | inl a ↦ same Properties refl (rw a at h)
      | inr a ↦ elim (bool_cases (bytes_eq k (codes "required"))) [
        | inl b ↦ same Required refl (rw (a, b) at h)
        | inr b ↦ elim (bool_cases (bytes_eq k (codes "x-kubernetes-list-map-keys"))) [
          | inl c ↦ same MapKeys refl (rw (a, b, c) at h)
          | inr c ↦ elim (bool_cases (bytes_eq k (codes "enum"))) [
            | inl e ↦ same Choices refl (rw (a, b, c, e) at h)
            | inr e ↦ let none = rw (a, b, c, e) at h in cc
          ]
        ]
      ]
    ]

here_entered : (raw : Data) (done rest : List Event) (p : Place) (s : Data) → AreEventsOf raw (done ++ (entered p s ∷ rest)) → IsPlace raw p
here_entered raw done rest p s are = (s, (are.subschemas p s).1 (in_right (entered p s) done (entered p s ∷ rest) (inl refl)))

le_true : (a b : ℕ) → nat_le a b ≡ true → a ≤ b
le_true a b e = grind (arith, nat_tests)

le_false : (a b : ℕ) → nat_le a b ≡ false → b < a
le_false a b e = grind (arith, nat_tests)

lt_true : (a b : ℕ) → nat_lt a b ≡ true → a < b
lt_true a b e = grind (arith, nat_tests)

lt_false : (a b : ℕ) → nat_lt a b ≡ false → b ≤ a
lt_false a b e = grind (arith, nat_tests)

-- ---- limits at events

module _ (limits : Limits) where
  -- why an event passes a limit
  abbrev Fault : Data → Event → Type 0
  Fault raw (entered p s) = (limits.steps < length p) ⊎ ((before : List Place) × ComeBefore raw p before × (length before ≡ limits.places))
  Fault raw (counted p k l n) = most limits l < n

  record Fails (raw : Data) (events : List Event) (path : Path) : Type 0 where
    event : Event
    within : IsIn event events
    at : event_path event ≡ path
    fault : Fault raw event

  fault_by : (raw : Data) (events : List Event) (path : Path) (l : Limited) (found : ℕ) → AreEventsOf raw events → PassesBy limits raw path l found → Fails raw events path
  fault_by raw events path l found are (too_many_places r at before all is come count every) =
      record { event = entered at is.0; within = (are.subschemas at is.0).0 is.1; at = refl; fault = inr (before, come, count) }
  fault_by raw events path l found are (too_deep r at is deep) =
      record { event = entered at is.0; within = (are.subschemas at is.0).0 is.1; at = refl; fault = inl deep }
  fault_by raw events path l found are (too_long r at keyword h) =
      let n = size h.value in
      let is : IsCounted raw at keyword h.limited n = record { schema = h.schema; is = h.is; value = h.value; is_there = h.is_there; limit = h.limit; count = refl } in
      record { event = counted at keyword h.limited n; within = (are.keywords at keyword h.limited n).0 is; at = refl; fault = h.past }

  fault_of : (raw : Data) (events : List Event) (path : Path) → AreEventsOf raw events → PassesLimit limits raw path → Fails raw events path
  fault_of raw events path are h = fault_by raw events path h.limited h.found are h.by

  none_earlier : (raw : Data) (done rest : List Event) (m : Event) → AreEventsOf raw (done ++ (m ∷ rest)) → ((n : Event) → IsIn n done → Fault raw n → ⊥)
      → (e : Path) → PassesLimit limits raw e → path_cmp e (event_path m) ≢ Less
  none_earlier raw done rest m are clean e h less =
      let f = fault_of raw (done ++ (m ∷ rest)) e are h in
      elim (in_parts f.event done (m ∷ rest) f.within) [
        | inl a ↦ clean f.event a f.fault
        | inr b ↦ not_before_first m f.event rest (ascend_right done (m ∷ rest) are.ascending) b (subst (λ x. path_cmp x (event_path m) ≡ Less) (sym f.at) less)
      ]

  -- a place after fewer than there may be, with few enough steps
  no_fault : (raw : Data) (done rest : List Event) (p : Place) (s : Data) → AreEventsOf raw (done ++ (entered p s ∷ rest)) → length (places_of done) < limits.places → length p ≤ limits.steps
      → Fault raw (entered p s) → ⊥
  no_fault raw done rest p s are few short (inl deep) = omega (arith, deep)
  no_fault raw done rest p s are few short (inr many) =
      let same = same_before raw p many.0 (places_of done) many.1 (come_before raw done rest p s are) in
      omega (arith, same, many.2)

  clean_more : (raw : Data) (done : List Event) (m : Event) → (Fault raw m → ⊥) → ((n : Event) → IsIn n done → Fault raw n → ⊥) → (n : Event) → IsIn n (done ++ (m ∷ [])) → Fault raw n → ⊥
  clean_more raw done m none clean n within fault = elim (in_parts n done (m ∷ []) within) [
    | inl a ↦ clean n a fault
    | inr b ↦ elim b [ inl e ↦ none (subst (Fault raw) e fault) | inr past ↦ past ]
  ]

  -- where a limit is passed first, and which one, by all places; or there is none
  abbrev pub IsFoundPassing : Data → ℕ → Option Passing → Type 0
  IsFoundPassing raw all None = (path : Path) → PassesLimit limits raw path → ⊥
  IsFoundPassing raw all (Some p) = IsFirst (PassesLimit limits raw) p.path × PassesBy limits raw p.path p.limited (of_all_places p.limited all p.found)

  found_passing : (raw : Data) (all : ℕ) (path : Path) (l : Limited) (n m : ℕ) → of_all_places l all n ≡ m → PassesBy limits raw path l m
      → ((e : Path) → PassesLimit limits raw e → path_cmp e path ≢ Less) → IsFoundPassing raw all (passing path l n)
  found_passing raw all path l n m e by earlier = (record { here = record { limited = l; found = m; by = by }; none_before = earlier }, subst (PassesBy limits raw path l) (sym e) by)

  walk : (raw : Data) (rest done : List Event) (n : ℕ) (all : List Place) → ArePlaces raw all → AreEventsOf raw (done ++ rest) → n ≡ length (places_of done) → n ≤ limits.places
      → ((m : Event) → IsIn m done → Fault raw m → ⊥) → IsFoundPassing raw (length all) (limit_break limits n rest)
  walk raw [] done n all every are count few clean = λ path h.
      let f = fault_of raw (done ++ []) path are h in
      elim (in_parts f.event done [] f.within) [ inl a ↦ clean f.event a f.fault | inr b ↦ b ]
  walk raw (counted p k l m ∷ rest) done n all every are count few clean = elim (bool_cases (nat_lt (most limits l) m)) [
    | inl past ↦
        let here = (are.keywords p k l m).1 (in_right (counted p k l m) done (counted p k l m ∷ rest) (inl refl)) in
        let long : IsTooLong limits raw p k = record {
          schema = here.schema;
          is = here.is;
          value = here.value;
          is_there = here.is_there;
          limited = l;
          limit = here.limit;
          past = subst (λ x. most limits l < x) (sym here.count) (lt_true (most limits l) m past);
        } in
        let first : limit_break limits n (counted p k l m ∷ rest) ≡ passing (place_path p ++ (name k ∷ [])) l m = rw past refl in
        subst (IsFoundPassing raw (length all)) (sym first)
        (found_passing raw (length all) (place_path p ++ (name k ∷ [])) l m (size here.value) (limits_entries k l (length all) m here.limit ∙ sym here.count) (too_long raw p k long)
        (none_earlier raw done rest (counted p k l m) are clean))
    | inr within ↦
        let first : limit_break limits n (counted p k l m ∷ rest) ≡ limit_break limits n rest = rw within refl in
        let moved : AreEventsOf raw ((done ++ (counted p k l m ∷ [])) ++ rest) = subst (AreEventsOf raw) (sym (append_assoc done (counted p k l m ∷ []) rest)) are in
        let same = more_places done (counted p k l m) in
        let few_enough = lt_false (most limits l) m within in
        subst (IsFoundPassing raw (length all)) (sym first) (walk raw rest (done ++ (counted p k l m ∷ [])) n all every moved (omega (arith, same)) few
        (clean_more raw done (counted p k l m) (λ past. omega arith) clean))
  ]
  walk raw (entered p s ∷ rest) done n all every are count few clean = elim (bool_cases (nat_le limits.places n)) [
    | inl full ↦
        let past : limits.places ≤ n = le_true limits.places n full in
        let first : limit_break limits n (entered p s ∷ rest) ≡ passing (place_path p) Places n = rw full refl in
        let exact : length (places_of done) ≡ limits.places = omega arith in
        let by = too_many_places raw p (places_of done) all (here_entered raw done rest p s are) (come_before raw done rest p s are) exact every in
        subst (IsFoundPassing raw (length all)) (sym first) (found_passing raw (length all) (place_path p) Places n (length all) refl by (none_earlier raw done rest (entered p s) are clean))
    | inr room ↦
        let less : n < limits.places = le_false limits.places n room in
        elim (bool_cases (nat_lt limits.steps (length p))) [
          | inl deep ↦
              let first : limit_break limits n (entered p s ∷ rest) ≡ passing (place_path p) Steps (length p) = rw (room, deep) refl in
              let by = too_deep raw p (here_entered raw done rest p s are) (lt_true limits.steps (length p) deep) in
              subst (IsFoundPassing raw (length all)) (sym first)
              (found_passing raw (length all) (place_path p) Steps (length p) (length p) refl by (none_earlier raw done rest (entered p s) are clean))
          | inr short ↦
              let first : limit_break limits n (entered p s ∷ rest) ≡ limit_break limits (suc n) rest = rw (room, short) refl in
              let moved : AreEventsOf raw ((done ++ (entered p s ∷ [])) ++ rest) = subst (AreEventsOf raw) (sym (append_assoc done (entered p s ∷ []) rest)) are in
              let more = more_places done (entered p s) in
              subst (IsFoundPassing raw (length all)) (sym first) (walk raw rest (done ++ (entered p s ∷ [])) (suc n) all every moved (omega (arith, more)) (omega arith)
              (clean_more raw done (entered p s) (no_fault raw done rest p s are (omega arith) (lt_false limits.steps (length p) short)) clean))
        ]
  ]

  found : (raw : Data) (events : List Event) → AreEventsOf raw events → IsFoundPassing raw (length (subschemas_of events)) (limit_break limits 0 events)
  found raw events are = subst (λ all. IsFoundPassing raw all (limit_break limits 0 events)) (same_count events)
      (walk raw events [] 0 (places_of events) (all_places raw events are) are refl (omega arith) (λ m e f. e))

  pub within : (raw : Data) (events : List Event) → AreEventsOf raw events → limit_break limits 0 events ≡ None → IsWithinLimits limits raw
  within raw events are none = subst (IsFoundPassing raw (length (subschemas_of events))) none (found raw events are)

  pub first_past : (raw : Data) (events : List Event) (p : Passing) → AreEventsOf raw events → limit_break limits 0 events ≡ Some p → IsFoundPassing raw (length (subschemas_of events)) (Some p)
  first_past raw events p are some = subst (IsFoundPassing raw (length (subschemas_of events))) some (found raw events are)
