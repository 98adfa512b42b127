-- How a list of places grows along the events of a schema.
use Rattle.std.proofs.Common.{◌≡◌, ◌+◌, ℕ, suc, List, [], ◌∷◌, ◌++◌, length, Option, Some, None, Ok, Err, refl, sym, ap, ◌∙◌, subst, inl, inr, arith}
use Rattle.std.specs.Prelude.{map, All, nat_lt, nat_le}
use Rattle.std.proofs.lemmas.List.{append-nil, append_assoc, length-append, length-map, map-append}
use Rattle.std.proofs.lemmas.Option.{same_Some}
use Rattle.jtree.specs.Data.{Data, object, Members}
use Rattle.jtree.specs.Pointer.{pointer}
use Rattle.jtree.specs.Internal.Lookups.{bool_cases}
use Rattle.schema.specs.Document.Places.{Place}
use Rattle.schema.specs.Document.Limits.{most, limited_by, size, PassesBy}
use Rattle.schema.specs.declared.limits.Limited.{Limited}
use Rattle.schema.specs.declared.limits.Limits.{Limits}
use Rattle.schema.specs.Internal.Events.{Event, entered, counted, subschemas_of, schema_events, Passing, of_all, limit_break, count_event, keyword_event, AreEventsOf}
use Rattle.schema.specs.Internal.Faults.{IsLimitRefusal, IsLimitFaultOf}
use Rattle.schema.proofs.LimitLemmas.{first_past}
use Rattle.schema.specs.Internal.Listing.{HasGrown, Lists}
use Rattle.schema.specs.Internal.PlaceView.{subschema_of}
use Rattle.schema.specs.Internal.Subschemas.{IsSubschema}
use Rattle.schema.specs.declared.listing.Unlisted.{Unlisted}
use Rattle.schema.specs.declared.listing.Unlisted.TheVariants.{Passed, NoMemory}
use Rattle.schema.specs.declared.listing.Subschema.{Subschema}

pub subschemas-append : (xs ys : List Event) → subschemas_of (xs ++ ys) ≡ subschemas_of xs ++ subschemas_of ys
subschemas-append [] ys = refl
subschemas-append (entered p s ∷ xs) ys = ap (λ ms. entered p s ∷ ms) (subschemas-append xs ys)
subschemas-append (counted p k l n ∷ xs) ys = subschemas-append xs ys

-- a list of places with one more, and the places among the events
pub one_more : (old new : List Subschema) (s : Subschema) (events : List Event) → new ≡ old ++ (s ∷ [])
    → map subschema_of new ++ subschemas_of events ≡ map subschema_of old ++ (subschema_of s ∷ subschemas_of events)
one_more old new s events e =
    ap (λ ys. map subschema_of ys ++ subschemas_of events) e ∙ ap (λ ms. ms ++ subschemas_of events) (map-append subschema_of old (s ∷ []))
    ∙ append_assoc (map subschema_of old) (subschema_of s ∷ []) (subschemas_of events)

none_counted : (p : Place) (k : List ℕ) (o : Option Limited) (n : ℕ) → subschemas_of (count_event p k o n) ≡ []
none_counted p k None n = refl
none_counted p k (Some l) n = refl

-- a keyword itself adds no place
pub same_subschemas : (p : Place) (k : List ℕ) (d : Data) (events : List Event) → subschemas_of (keyword_event p k d ++ events) ≡ subschemas_of events
same_subschemas p k d events = subschemas-append (keyword_event p k d) events ∙ ap (λ xs. xs ++ subschemas_of events) (none_counted p k (limited_by k) (size d))

module _ (limits : Limits) where
  -- past events at which no limit is passed
  pub limit_past : (n : ℕ) (xs ys : List Event) → limit_break limits n xs ≡ None → limit_break limits n (xs ++ ys) ≡ limit_break limits (n + length (subschemas_of xs)) ys
  limit_past n [] ys h = ap (λ m. limit_break limits m ys) (let e : n ≡ n + 0 = omega arith in e)
  limit_past n (counted p k l m ∷ xs) ys h = elim (bool_cases (nat_lt (most limits l) m)) [
    | inl t ↦ let some = rw t at h in cc
    | inr within ↦ let rest : limit_break limits n xs ≡ None = rw within at h in rw within (limit_past n xs ys rest)
  ]
  limit_past n (entered p s ∷ xs) ys h = elim (bool_cases (nat_le limits.places n)) [
    | inl t ↦ let some = rw t at h in cc
    | inr few ↦ elim (bool_cases (nat_lt limits.steps (length p))) [
      | inl t ↦ let some = rw (few, t) at h in cc
      | inr short ↦
          let rest : limit_break limits (suc n) xs ≡ None = rw (few, short) at h in
          let count : suc n + length (subschemas_of xs) ≡ n + suc (length (subschemas_of xs)) = omega arith in
          rw (few, short) (limit_past (suc n) xs ys rest ∙ ap (λ m. limit_break limits m ys) count)
    ]
  ]

  -- the first limit that is passed stays the first, whatever comes after it
  pub limit_stays : (n : ℕ) (xs ys : List Event) (first : Passing) → limit_break limits n xs ≡ Some first → limit_break limits n (xs ++ ys) ≡ Some first
  limit_stays n [] ys first h = cc
  limit_stays n (counted p k l m ∷ xs) ys first h = elim (bool_cases (nat_lt (most limits l) m)) [
    | inl t ↦ let here = rw t at h in rw t here
    | inr within ↦ let rest : limit_break limits n xs ≡ Some first = rw within at h in rw within (limit_stays n xs ys first rest)
  ]
  limit_stays n (entered p s ∷ xs) ys first h = elim (bool_cases (nat_le limits.places n)) [
    | inl t ↦ let here = rw t at h in rw t here
    | inr few ↦ elim (bool_cases (nat_lt limits.steps (length p))) [
      | inl t ↦ let here = rw (few, t) at h in rw (few, t) here
      | inr short ↦ let rest : limit_break limits (suc n) xs ≡ Some first = rw (few, short) at h in rw (few, short) (limit_stays (suc n) xs ys first rest)
    ]
  ]

  pub refusal_stays : (n : ℕ) (xs ys : List Event) (e : Unlisted) → IsLimitRefusal (limit_break limits n xs) e → IsLimitRefusal (limit_break limits n (xs ++ ys)) e
  refusal_stays n xs ys (Passed x) h = (h.0, h.1, h.2, limit_stays n xs ys h.0 h.3)
  refusal_stays n xs ys NoMemory h = h

  pub grown_count : (old new : List Subschema) (events : List Event) → map subschema_of new ≡ map subschema_of old ++ subschemas_of events → length new ≡ length old + length (subschemas_of events)
  grown_count old new events grown =
      sym (length-map new subschema_of) ∙ ap length grown ∙ length-append (map subschema_of old) (subschemas_of events)
      ∙ ap (λ n. n + length (subschemas_of events)) (length-map old subschema_of)

  pub grown_subschemas : (old new : List Subschema) (events rest : List Event) → HasGrown limits old new events
      → map subschema_of new ++ subschemas_of rest ≡ map subschema_of old ++ subschemas_of (events ++ rest)
  grown_subschemas old new events rest g =
      ap (λ ms. ms ++ subschemas_of rest) g.subschemas ∙ append_assoc (map subschema_of old) (subschemas_of events) (subschemas_of rest)
      ∙ ap (λ ms. map subschema_of old ++ ms) (sym (subschemas-append events rest))

  pub grown_limit : (old new : List Subschema) (events rest : List Event) → HasGrown limits old new events
      → limit_break limits (length new) rest ≡ limit_break limits (length old) (events ++ rest)
  grown_limit old new events rest g =
      ap (λ n. limit_break limits n rest) (grown_count old new events g.subschemas) ∙ sym (limit_past (length old) events rest g.limit)

  -- nothing is left: the list has grown by the places of the whole
  pub grown_whole : (old new : List Subschema) (left whole : List Event) → left ≡ []
      → map subschema_of new ++ subschemas_of left ≡ map subschema_of old ++ subschemas_of whole
      → limit_break limits (length new) left ≡ limit_break limits (length old) whole → HasGrown limits old new whole
  grown_whole old new left whole nothing subschemas limit = record {
    subschemas = sym (append-nil (map subschema_of new)) ∙ ap (λ events. map subschema_of new ++ subschemas_of events) (sym nothing) ∙ subschemas;
    limit = sym limit ∙ ap (limit_break limits (length new)) nothing;
  }

  -- ---- along the events of a walk

  -- what is listed so far, with the places among the events that are left, is that of the whole, and what is left passes a limit where
  -- the whole does
  pub record IsAlong (old new : List Subschema) (left whole : List Event) (IsRight : Data → Type 0) : Type 0 where
    pub subschemas : map subschema_of new ++ subschemas_of left ≡ map subschema_of old ++ subschemas_of whole
    pub limit : limit_break limits (length new) left ≡ limit_break limits (length old) whole
    pub right : (raw : Data) → IsRight raw → All (IsSubschema raw) old → All (IsSubschema raw) new

  pub along_from : (old : List Subschema) (whole : List Event) (IsRight : Data → Type 0) → IsAlong old old whole whole IsRight
  along_from old whole IsRight = record { subschemas = refl; limit = refl; right = λ raw right all. all }

  -- past events at which nothing is listed and no limit is passed
  pub along_past : {IsRight : Data → Type 0} (old new : List Subschema) (left here rest whole : List Event) → left ≡ here ++ rest → subschemas_of (here ++ rest) ≡ subschemas_of rest
      → limit_break limits (length new) (here ++ rest) ≡ limit_break limits (length new) rest → IsAlong old new left whole IsRight → IsAlong old new rest whole IsRight
  along_past old new left here rest whole is none within a = record {
    subschemas = ap (λ es. map subschema_of new ++ es) (sym none) ∙ ap (λ es. map subschema_of new ++ subschemas_of es) (sym is) ∙ a.subschemas;
    limit = sym within ∙ ap (limit_break limits (length new)) (sym is) ∙ a.limit;
    right = a.right;
  }

  -- past events along which the list grows
  pub along_more : {A : Type 0} {IsRight IsRightHere : Data → Type 0} (old new next : List Subschema) (left here rest whole : List Event) (u : A) → left ≡ here ++ rest
      → ((raw : Data) → IsRight raw → IsRightHere raw) → Lists limits here IsRightHere new next (Ok u) → IsAlong old new left whole IsRight → IsAlong old next rest whole IsRight
  along_more old new next left here rest whole u is within lists a = record {
    subschemas = grown_subschemas new next here rest lists.grown ∙ ap (λ es. map subschema_of new ++ subschemas_of es) (sym is) ∙ a.subschemas;
    limit = grown_limit new next here rest lists.grown ∙ ap (limit_break limits (length new)) (sym is) ∙ a.limit;
    right = λ raw right all. lists.right raw (within raw right) (a.right raw right all);
  }

  -- a limit that is passed first in what is left is the first of the whole
  pub along_first : {A : Type 0} {IsRight : Data → Type 0} (old new next : List Subschema) (left same whole : List Event) (e : Unlisted) → left ≡ same
      → IsLimitRefusal (limit_break limits (length new) same) e → IsAlong old new left whole IsRight → Lists {A = A} limits whole IsRight old next (Err e)
  along_first old new next left same whole e is refused a =
      record { grown = tt; refused = subst (λ o. IsLimitRefusal o e) (ap (limit_break limits (length new)) (sym is) ∙ a.limit) refused; right = tt }

  pub along_refused : {A : Type 0} {IsRight : Data → Type 0} (old new next : List Subschema) (left here rest whole : List Event) (e : Unlisted) → left ≡ here ++ rest
      → IsLimitRefusal (limit_break limits (length new) here) e → IsAlong old new left whole IsRight → Lists {A = A} limits whole IsRight old next (Err e)
  along_refused old new next left here rest whole e is refused a = along_first old new next left (here ++ rest) whole e is (refusal_stays (length new) here rest e refused) a

  -- nothing is left: the list has grown along the whole
  pub along_all : {A : Type 0} {IsRight : Data → Type 0} (old new : List Subschema) (left whole : List Event) (u : A) → left ≡ [] → IsAlong old new left whole IsRight → Lists limits whole IsRight old new (Ok u)
  along_all old new left whole u nothing a = record { grown = grown_whole old new left whole nothing a.subschemas a.limit; refused = tt; right = a.right }

  -- the fault of a whole schema, with all its places counted
  pub refusal_names : (ms : Members) → AreEventsOf (object ms) (schema_events [] ms) → (p : Passing) (e : Unlisted) → limit_break limits 0 (schema_events [] ms) ≡ Some p
      → IsLimitRefusal (Some (of_all ms p)) e → IsLimitFaultOf limits (object ms) e
  refusal_names ms are p (Passed x) some h =
      let first = first_past limits (object ms) (schema_events [] ms) p are some in
      let same : of_all ms p ≡ h.0 = same_Some (of_all ms p) h.0 h.3 in (
        p.path,
        h.1 ∙ ap (λ q. pointer q.path) (sym same),
        first.0,
        subst (λ n. PassesBy limits (object ms) p.path x.limited n) (sym (h.2.1 ∙ ap (λ q. q.found) (sym same)))
            (subst (λ l. PassesBy limits (object ms) p.path l (of_all ms p).found) (sym (h.2.0 ∙ ap (λ q. q.limited) (sym same))) first.1),
      )
  refusal_names ms are p NoMemory some h = tt
