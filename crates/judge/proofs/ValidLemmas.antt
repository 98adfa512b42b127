-- A value is valid where it meets its schema: where it is clean, no place has a fault, and the other way round.
use Rattle.std.proofs.Common.{◌≡◌, ◌⊎◌, ◌+◌, ℕ, zero, suc, List, [], ◌∷◌, ◌++◌, Bool, true, false, not, ◌||◌, Option, Some, None, codes, sym, ◌∙◌, subst, refl, inl, inr, arith, Result, Ok, Err}
use Rattle.std.specs.Prelude.{Decides, IfOk}
use Rattle.std.specs.Str.{bytes_eq}
use Rattle.std.proofs.lemmas.Option.{same_Some}
use Rattle.jtree.specs.Data.{Data, boolean, list, object, Items, no_items, item, Members, no_members, member, IsTree, AreTrees, AreMembers}
use Rattle.jtree.specs.Path.{Step, name, index, Path, member_at, item_at}
use Rattle.jtree.specs.Internal.Lookups.{bool_cases, option_cases, same_name, own_name, member_first, member_tail}
use Rattle.judge.specs.Keywords.{Texts, all_tests, names, has_members, repeats, some_index}
use Rattle.judge.specs.Asked.{root, asked, below, member_schema, item_schema, required, required_by, is_among, repeats_by, some_repeats, Place, value_at, missing, member_place, item_place, next_place}
use Rattle.judge.specs.Meets.{meets}
use Rattle.judge.specs.Faults.{Asking, fails, some_fails, fails_at, IsFault, IsValid}
use Rattle.judge.specs.Internal.Clean.{Passes, ArePartsClean, AreMembersClean, AreItemsClean, IsClean}
use Rattle.judge.specs.declared.test.Test.{Test}
use Rattle.judge.specs.declared.test.Test.TheVariants.{Required, Duplicate}
use Rattle.judge.proofs.FaultLemmas.{listed}
use Rattle.judge.proofs.MeetingLaw.{true_of_not, meets_where_clean}
use Rattle.jtree.specs.Internal.Rising.{Among}

-- ---- names among joined names

among_parts : (k : List ℕ) (ks ls : List (List ℕ)) → is_among k (ks ++ ls) ≡ true → (is_among k ks ≡ true) ⊎ (is_among k ls ≡ true)
among_parts k [] ls e = inr e
among_parts k (l ∷ ks) ls e = elim (bool_cases (bytes_eq k l)) [ inl h ↦ inl (rw h refl) | inr h ↦ rw h (among_parts k ks ls (rw h at e)) ]

among_first : (k : List ℕ) (ks ls : List (List ℕ)) → is_among k ks ≡ true → is_among k (ks ++ ls) ≡ true
among_first k [] ls e = cc
among_first k (l ∷ ks) ls e = elim (bool_cases (bytes_eq k l)) [ inl h ↦ rw h refl | inr h ↦ rw h (among_first k ks ls (rw h at e)) ]

among_later : (k : List ℕ) (ks ls : List (List ℕ)) → is_among k ls ≡ true → is_among k (ks ++ ls) ≡ true
among_later k [] ls e = e
among_later k (l ∷ ks) ls e = elim (bool_cases (bytes_eq k l)) [ inl h ↦ rw h refl | inr h ↦ rw h (among_later k ks ls e) ]

-- a name of a list that an object lacks
abbrev Lacks : Members → List (List ℕ) → Type 0
Lacks ms ks = (k : List ℕ) × (is_among k ks ≡ true) × (member_at k ms ≡ None)

one_lacks : (ms : Members) (ks : List (List ℕ)) → has_members ms ks ≡ false → Lacks ms ks
one_lacks ms [] e = cc
one_lacks ms (k ∷ ks) e = elim (option_cases (member_at k ms)) [
  | inl none ↦ (k, own_first, none)
  | inr some ↦ let r = one_lacks ms ks (rw some.1 at e) in (r.0, among_later r.0 (k ∷ []) ks r.1, r.2)
]
  where
    own_first : is_among k (k ∷ ks) ≡ true
    own_first = let same = own_name k in rw same refl

all_there : (ms : Members) (ks : List (List ℕ)) → has_members ms ks ≡ true → (k : List ℕ) → is_among k ks ≡ true → member_at k ms ≡ None → ⊥
all_there ms [] e k a none = cc
all_there ms (l ∷ ks) e k a none = elim (bool_cases (bytes_eq k l)) [
  | inl h ↦ let gone : member_at l ms ≡ None = subst (λ n. member_at n ms ≡ None) (same_name k l h) none in let x = rw gone at e in cc
  | inr h ↦ elim (option_cases (member_at l ms)) [
    | inl gone ↦ let x = rw gone at e in cc
    | inr some ↦ all_there ms ks (rw some.1 at e) k (rw h at a) none
  ]
]

-- ---- indexes

some_index_is : (test : ℕ → Bool) (n : ℕ) (ds : Items) → some_index test n ds ≡ true → (i j : ℕ) × (w : Data) × (j ≡ n + i) × (item_at i ds ≡ Some w) × (test j ≡ true)
some_index_is test n no_items e = cc
some_index_is test n (item d ds) e = elim (bool_cases (test n)) [
  | inl h ↦ (0, n, d, omega arith, refl, h)
  | inr h ↦ let r = some_index_is test (suc n) ds (rw h at e) in (suc r.0, r.1, r.2, omega (arith, r.3), r.4, r.5)
]

no_index_is : (test : ℕ → Bool) (n : ℕ) (ds : Items) → some_index test n ds ≡ false → (i j : ℕ) (w : Data) → j ≡ n + i → item_at i ds ≡ Some w → test j ≡ false
no_index_is test n no_items e i j w is there = cc
no_index_is test n (item d ds) e zero j w is there = elim (bool_cases (test n)) [
  | inl h ↦ let x = rw h at e in cc
  | inr h ↦ let same : n ≡ j = omega (arith, is) in subst (λ k. test k ≡ false) same h
]
no_index_is test n (item d ds) e (suc i) j w is there = elim (bool_cases (test n)) [
  | inl h ↦ let x = rw h at e in cc
  | inr h ↦ no_index_is test (suc n) ds (rw h at e) i j w (omega (arith, is)) there
]

false_of_not : (a : Bool) → not a ≡ true → a ≡ false
false_of_not true e = cc
false_of_not false e = refl

twice_true : (a : Bool) → not (not a) ≡ true → a ≡ true
twice_true true e = refl
twice_true false e = cc

twice_false : (a : Bool) → not (not a) ≡ false → a ≡ false
twice_false true e = cc
twice_false false e = refl

or_true : (a b : Bool) → b ≡ true → a || b ≡ true
or_true true b e = refl
or_true false b e = e

false_if : (a : Bool) → (a ≡ true → ⊥) → a ≡ false
false_if a h = elim (bool_cases a) [ inl e ↦ absurd (h e) | inr e ↦ e ]

module _ (m : Texts) where
  abbrev by : Asking
  by = some_fails m

  -- ---- a value that is no object lacks nothing, and one that is no list has no items

  none_fails : (v : Data) (t : Test) → ((s : Data) → fails m s v t ≡ false) → (ss : List Data) → some_fails m ss v t ≡ false
  none_fails v t h [] = refl
  none_fails v t h (s ∷ ss) = let here = h s in rw here (none_fails v t h ss)

  one_of_both : (s : Data) (ss : List Data) (v : Data) (t : Test) → some_fails m (s ∷ ss) v t ≡ true → (fails m s v t ≡ true) ⊎ (some_fails m ss v t ≡ true)
  one_of_both s ss v t e = elim (bool_cases (fails m s v t)) [ inl h ↦ inl h | inr h ↦ inr (rw h at e) ]

  neither_of_both : (s : Data) (ss : List Data) (v : Data) (t : Test) → some_fails m (s ∷ ss) v t ≡ false → (fails m s v t ≡ false) × (some_fails m ss v t ≡ false)
  neither_of_both s ss v t e = elim (bool_cases (fails m s v t)) [ inl h ↦ let x = rw h at e in cc | inr h ↦ (h, rw h at e) ]

  -- ---- required names

  lacks_by : (s : Data) (ms : Members) → fails m s (object ms) Required ≡ true → Lacks ms (required_by s)
  lacks_by (object ks) ms e = one_lacks ms (names (member_at (codes "required") ks)) (false_of_not _ e)
  lacks_by (boolean b) ms e = cc
  lacks_by _ ms e = cc

  lacks_one : (ss : List Data) (ms : Members) → some_fails m ss (object ms) Required ≡ true → Lacks ms (required ss)
  lacks_one [] ms e = cc
  lacks_one (s ∷ ss) ms e = elim (one_of_both s ss (object ms) Required e) [
    | inl h ↦ let r = lacks_by s ms h in (r.0, among_first r.0 (required_by s) (required ss) r.1, r.2)
    | inr h ↦ let r = lacks_one ss ms h in (r.0, among_later r.0 (required_by s) (required ss) r.1, r.2)
  ]

  there_by : (s : Data) (ms : Members) → fails m s (object ms) Required ≡ false → (k : List ℕ) → is_among k (required_by s) ≡ true → member_at k ms ≡ None → ⊥
  there_by (object ks) ms e k a none = all_there ms (names (member_at (codes "required") ks)) (true_of_not _ e) k a none
  there_by _ ms e k a none = cc

  all_required : (ss : List Data) (ms : Members) → some_fails m ss (object ms) Required ≡ false → (k : List ℕ) → is_among k (required ss) ≡ true → member_at k ms ≡ None → ⊥
  all_required [] ms e k a none = cc
  all_required (s ∷ ss) ms e k a none =
      let p = neither_of_both s ss (object ms) Required e in
      elim (among_parts k (required_by s) (required ss) a) [ inl h ↦ there_by s ms p.0 k h none | inr h ↦ all_required ss ms p.1 k h none ]

  -- ---- items that repeat

  abbrev Repeats : List Data → Items → Type 0
  Repeats ss ds = (i : ℕ) × (w : Data) × (item_at i ds ≡ Some w) × (some_repeats ss ds i ≡ true)

  repeats_here : (s : Data) (ss : List Data) (ds : Items) → fails m s (list ds) Duplicate ≡ true → Repeats (s ∷ ss) ds
  repeats_here (object ks) ss ds e =
      let r = some_index_is (repeats ks ds) 0 ds (twice_true _ e) in
      let same : r.1 ≡ r.0 = omega (arith, r.3) in
      let test : repeats ks ds r.0 ≡ true = subst (λ i. repeats ks ds i ≡ true) same r.5 in
      (r.0, r.2, r.4, rw test refl)
  repeats_here (boolean b) ss ds e = cc
  repeats_here _ ss ds e = cc

  repeats_one : (ss : List Data) (ds : Items) → some_fails m ss (list ds) Duplicate ≡ true → Repeats ss ds
  repeats_one [] ds e = cc
  repeats_one (s ∷ ss) ds e = elim (one_of_both s ss (list ds) Duplicate e) [
    | inl h ↦ repeats_here s ss ds h
    | inr h ↦ let r = repeats_one ss ds h in (r.0, r.1, r.2, or_true (repeats_by s ds r.0) (some_repeats ss ds r.0) r.3)
  ]

  none_repeats : (ss : List Data) (ds : Items) → some_fails m ss (list ds) Duplicate ≡ false → (i : ℕ) (w : Data) → item_at i ds ≡ Some w → some_repeats ss ds i ≡ false
  none_repeats [] ds e i w there = refl
  none_repeats (s ∷ ss) ds e i w there =
      let p = neither_of_both s ss (list ds) Duplicate e in
      let here : repeats_by s ds i ≡ false = at s p.0 in
      rw here (none_repeats ss ds p.1 i w there)
    where
      at : (s : Data) → fails m s (list ds) Duplicate ≡ false → repeats_by s ds i ≡ false
      at (object ks) h = no_index_is (repeats ks ds) 0 ds (twice_false _ h) i i w (omega arith) there
      at _ h = refl

  -- ---- a clean value has no fault

  abbrev CleanAt : Place → Type 0
  CleanAt (value_at ss repeated v) = (repeated ≡ false) × IsClean m ss v
  CleanAt missing = ⊥

  passes_listed : (ss : List Data) (v : Data) → Passes m ss all_tests v → (t : Test) → some_fails m ss v t ≡ false
  passes_listed ss v p t = among_passes all_tests p (listed t)
    where
      among_passes : (ts : List Test) → Passes m ss ts v → Among ts t → some_fails m ss v t ≡ false
      among_passes [] q a = elim a [ ]
      among_passes (u ∷ ts) q (inl e) = subst (λ x. some_fails m ss v x ≡ false) e q.0
      among_passes (u ∷ ts) q (inr a) = among_passes ts q.1 a

  quiet : (ss : List Data) (repeated : Bool) (v : Data) (t : Test) → repeated ≡ false → some_fails m ss v t ≡ false → fails_at by (value_at ss repeated v) t ≡ false
  quiet ss repeated v Required r e = refl
  quiet ss repeated v Duplicate r e = r
  quiet ss repeated v _ r e = e

  quiet_at : (q : Place) → CleanAt q → (t : Test) → fails_at by q t ≡ false
  quiet_at (value_at ss repeated v) c t = quiet ss repeated v t c.0 (passes_listed ss v c.1.0 t)
  quiet_at missing c t = absurd c

  member_clean : (k : List ℕ) (ms : Members) (ss : List Data) (w : Data) → AreMembersClean m ms ss → member_at k ms ≡ Some w → IsClean m (below (member_schema k) w ss) w
  member_clean k no_members ss w c e = cc
  member_clean k (member l d ms) ss w c e = elim (bool_cases (bytes_eq k l)) [
    | inl h ↦
        let same = same_name k l h in
        let is : d ≡ w = same_Some d w (rw h at e) in
        subst (λ x. IsClean m (below (member_schema k) x ss) x) is (subst (λ n. IsClean m (below (member_schema n) d ss) d) (sym same) (c.0, c.1))
    | inr h ↦ member_clean k ms ss w c.2 (rw h at e)
  ]

  item_clean : (i : ℕ) (ds : Items) (ss : List Data) (w : Data) → AreItemsClean m ds ss → item_at i ds ≡ Some w → IsClean m (below item_schema w ss) w
  item_clean i no_items ss w c e = cc
  item_clean zero (item d ds) ss w c e = subst (λ x. IsClean m (below item_schema x ss) x) (same_Some d w e) (c.0, c.1)
  item_clean (suc i) (item d ds) ss w c e = item_clean i ds ss w c.2 e

  member_place_clean : (ss : List Data) (ms : Members) (k : List ℕ) (q : Place) → IsClean m ss (object ms) → (o : Option Data) → member_at k ms ≡ o → member_place ss k o ≡ Some q → CleanAt q
  member_place_clean ss ms k q c (Some w) is e =
      subst CleanAt (same_Some (value_at (below (member_schema k) w ss) false w) q e) (refl, member_clean k ms ss w c.1 is)
  member_place_clean ss ms k q c None is e = elim (bool_cases (is_among k (required ss))) [
    | inl h ↦ absurd (all_required ss ms (passes_listed ss (object ms) c.0 Required) k h is)
    | inr h ↦ let x = rw h at e in cc
  ]

  item_place_clean : (ss : List Data) (ds : Items) (i : ℕ) (q : Place) → IsClean m ss (list ds) → (o : Option Data) → item_at i ds ≡ o → item_place ss ds i o ≡ Some q → CleanAt q
  item_place_clean ss ds i q c None is e = cc
  item_place_clean ss ds i q c (Some w) is e =
      subst CleanAt (same_Some (value_at (below item_schema w ss) (some_repeats ss ds i) w) q e)
      (none_repeats ss ds (passes_listed ss (list ds) c.0 Duplicate) i w is, item_clean i ds ss w c.1 is)

  next_clean : (q : Place) (s : Step) (r : Place) → CleanAt q → next_place q s ≡ Some r → CleanAt r
  next_clean missing s r c e = absurd c
  next_clean (value_at ss repeated (object ms)) (name k) r c e = member_place_clean ss ms k r c.1 (member_at k ms) refl e
  next_clean (value_at ss repeated (list ds)) (index i) r c e = item_place_clean ss ds i r c.1 (item_at i ds) refl e
  next_clean (value_at ss repeated _) s r c e = cc

  no_fault : (p : Path) (q : Place) (t : Test) → CleanAt q → IsFault by q p t → ⊥
  no_fault [] q t c h =
      let here : fails_at by q t ≡ true = subst (λ (r : Place). fails_at by r t ≡ true) (sym (same_Some q h.place h.there)) h.fails_there in
      let quiet_here = quiet_at q c t in
      let x : true ≡ false = sym here ∙ quiet_here in cc
  no_fault (s ∷ p) q t c h = elim (option_cases (next_place q s)) [
    | inl none ↦ let x = rw none at h.there in cc
    | inr r ↦ no_fault p r.0 t (next_clean q s r.0 c r.1) (record { place = h.place; there = rw r.1 at h.there; fails_there = h.fails_there })
  ]

  -- ---- a value without a fault is clean

  abbrev ValidAt : Place → Type 0
  ValidAt q = (p : Path) (t : Test) → IsFault by q p t → ⊥

  valid_below : (q : Place) (s : Step) (r : Place) → ValidAt q → next_place q s ≡ Some r → ValidAt r
  valid_below q s r valid e = λ p t h. valid (s ∷ p) t (record { place = h.place; there = rw e h.there; fails_there = h.fails_there })

  missing_place : (ss : List Data) (repeated : Bool) (ms : Members) → ValidAt (value_at ss repeated (object ms)) → Lacks ms (required ss) → ⊥
  missing_place ss repeated ms valid l =
      let there : member_place ss l.0 (member_at l.0 ms) ≡ Some missing = rw (l.2, l.1) refl in
      valid_below (value_at ss repeated (object ms)) (name l.0) missing valid there [] Required (record { place = missing; there = refl; fails_there = refl })

  repeated_place : (ss : List Data) (repeated : Bool) (ds : Items) → ValidAt (value_at ss repeated (list ds)) → Repeats ss ds → ⊥
  repeated_place ss repeated ds valid r =
      let w = r.1 in
      let there : item_place ss ds r.0 (item_at r.0 ds) ≡ Some (value_at (below item_schema w ss) (some_repeats ss ds r.0) w) = rw r.2 refl in
      valid_below (value_at ss repeated (list ds)) (index r.0) (value_at (below item_schema w ss) (some_repeats ss ds r.0) w) valid there [] Duplicate
      (record { place = value_at (below item_schema w ss) (some_repeats ss ds r.0) w; there = refl; fails_there = r.3 })

  no_members_fail : (ss : List Data) (repeated : Bool) (v : Data) → ValidAt (value_at ss repeated v) → some_fails m ss v Required ≡ false
  no_members_fail ss repeated (object ms) valid = false_if _ (λ e. missing_place ss repeated ms valid (lacks_one ss ms e))
  no_members_fail ss repeated v valid = none_fails v Required (λ s. unasked s) ss
    where
      unasked : (s : Data) → fails m s v Required ≡ false
      unasked (object ks) = refl
      unasked (boolean b) = refl
      unasked _ = refl

  no_items_fail : (ss : List Data) (repeated : Bool) (v : Data) → ValidAt (value_at ss repeated v) → some_fails m ss v Duplicate ≡ false
  no_items_fail ss repeated (list ds) valid = false_if _ (λ e. repeated_place ss repeated ds valid (repeats_one ss ds e))
  no_items_fail ss repeated v valid = none_fails v Duplicate (λ s. unasked s) ss
    where
      unasked : (s : Data) → fails m s v Duplicate ≡ false
      unasked (object ks) = refl
      unasked (boolean b) = refl
      unasked _ = refl

  test_passes : (ss : List Data) (repeated : Bool) (v : Data) → ValidAt (value_at ss repeated v) → (t : Test) → some_fails m ss v t ≡ false
  test_passes ss repeated v valid Required = no_members_fail ss repeated v valid
  test_passes ss repeated v valid Duplicate = no_items_fail ss repeated v valid
  test_passes ss repeated v valid t = false_if _ (λ e. valid [] t (record { place = value_at ss repeated v; there = refl; fails_there = e }))

  tests_pass : (ss : List Data) (repeated : Bool) (v : Data) → ValidAt (value_at ss repeated v) → (ts : List Test) → Passes m ss ts v
  tests_pass ss repeated v valid [] = tt
  tests_pass ss repeated v valid (t ∷ ts) = (test_passes ss repeated v valid t, tests_pass ss repeated v valid ts)

  mutual
    parts_clean : (v : Data) → IsTree v → (ss : List Data) (repeated : Bool) → ValidAt (value_at ss repeated v) → ArePartsClean m v ss
    parts_clean (object ms) tree ss repeated valid =
        members_clean ms tree ss (λ k w e. valid_below (value_at ss repeated (object ms)) (name k) (value_at (below (member_schema k) w ss) false w) valid (rw e refl))
    parts_clean (list ds) tree ss repeated valid =
        items_clean ds tree ss (λ i. some_repeats ss ds i)
        (λ i w e. valid_below (value_at ss repeated (list ds)) (index i) (value_at (below item_schema w ss) (some_repeats ss ds i) w) valid (rw e refl))
    parts_clean _ tree ss repeated valid = tt

    members_clean : (ms : Members) → AreMembers ms → (ss : List Data) → ((k : List ℕ) (w : Data) → member_at k ms ≡ Some w → ValidAt (value_at (below (member_schema k) w ss) false w)) → AreMembersClean m ms ss
    members_clean no_members trees ss h = tt
    members_clean (member k w ms) trees ss h =
        let here = h k w (member_first k w ms) in (
          tests_pass (below (member_schema k) w ss) false w here all_tests,
          parts_clean w trees.0 (below (member_schema k) w ss) false here,
          members_clean ms trees.2 ss (λ l x e. h l x (member_tail k w ms l x trees e)),
        )

    items_clean : (ds : Items) → AreTrees ds → (ss : List Data) (repeats_at : ℕ → Bool) → ((i : ℕ) (w : Data) → item_at i ds ≡ Some w → ValidAt (value_at (below item_schema w ss) (repeats_at i) w)) → AreItemsClean m ds ss
    items_clean no_items trees ss repeats_at h = tt
    items_clean (item w ds) trees ss repeats_at h =
        let here = h 0 w refl in (
          tests_pass (below item_schema w ss) (repeats_at 0) w here all_tests,
          parts_clean w trees.0 (below item_schema w ss) (repeats_at 0) here,
          items_clean ds trees.1 ss (λ i. repeats_at (suc i)) (λ i x e. h (suc i) x e),
        )

  -- a value meets a schema exactly where it has no fault
  pub meets_where_valid : (s v : Data) → IsTree s → IsTree v → Decides (meets m s v) (IsValid by s v)
  meets_where_valid s v t u =
      let law = meets_where_clean m s v t in (
        λ e. λ p x h. no_fault p (root s v) x (refl, law.0 e) h,
        λ valid. law.1 (tests_pass (asked v s) false v valid all_tests, parts_clean v u (asked v s) false valid),
      )

pub IfOk-follows : {A E : Type 0} (r : Result A E) (P Q : A → Type 0) → ((x : A) → P x → Q x) → IfOk r P → IfOk r Q
IfOk-follows (Ok x) P Q f p = f x p
IfOk-follows (Err e) P Q f p = p
