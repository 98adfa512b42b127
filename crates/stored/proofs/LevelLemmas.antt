-- The failures by level ascend, and are what the nodes find.
use Rattle.std.specs.Prelude.{◌≡◌, ◌==◌, ◌+◌, ℕ, zero, suc, List, [], ◌∷◌, ◌++◌, Bool, true, false, Option, Some, None, option_map, if◌then◌else◌, not, ◌&&◌}
use Rattle.std.proofs.Common.{◌⊎◌, rules, refl, sym, ap, subst, ◌∙◌, inl, inr, arith}
use Rattle.std.specs.Str.{bytes_eq}
use Rattle.std.specs.Ordering.{nat_cmp, is_lt}
use Rattle.std.specs.declared.cmp.Ordering.TheVariants.{Less}
use Rattle.std.proofs.lemmas.Cmp.{nat_list_cmp_total, nat_cmp_total}
use Rattle.std.proofs.lemmas.Bool.{eq-eqb, eqb-true}
use Rattle.std.proofs.lemmas.Option.{same_Some}
use Rattle.std.specs.Cmp.{nat_cmp_is}
use Rattle.jtree.specs.Data.{Data, Items, no_items, item, Members, no_members, member, IsTree, IsNameBefore, AreMembers, AreTrees}
use Rattle.jtree.specs.Data as tree
use Rattle.jtree.specs.Order.{text_cmp}
use Rattle.jtree.specs.Path.{name, index, Path, member_at, item_at}
use Rattle.jtree.specs.Internal.OrderLaws.{text_same}
use Rattle.jtree.specs.Internal.Lookups.{bool_cases, option_cases, ordering_cases, same_name, own_name, not_itself, later_name, before_none, IsNameBefore-trans}
use Rattle.schema.specs.Nodes.Node.{Node, node, object, map, list, Fields, no_fields, field, IsNode, AreOrdered, IsBeforeFields}
use Rattle.schema.specs.Nodes.ByPlace.{Declared, field_at}
use Rattle.jtree.specs.Internal.Rising.{Among, Rising, among_left, among_right, among_parts, rising_join}
use Rattle.stored.specs.Objects.Fault.{Test, F12, F13, F15, number, are_alike, has_alike_before}
use Rattle.stored.specs.Objects.AllFaults.{Failure}
use Rattle.stored.specs.Internal.FailuresByLevel.{asks, own_tests, here, failing, own, Below, joined, value_parts, item_parts, members_before, members_from, members_past, dropped, first_at, at_field, whole, parts, field_parts, found}
use Rattle.stored.proofs.AscendingLemmas.{less_from}
use Rattle.stored.proofs.FieldLemmas.{field_after}
use Rattle.stored.proofs.JoinedLemmas.{failure, Precedes, lookup, first_there, lookup_onto, IsStepBefore, AreRising, IsJoined, is_joined, rising_joined}

-- ---- of the value itself

among_failing : (test : Test → Bool) (ts : List Test) (f : Failure) → Among (failing test ts) f → (f.path ≡ []) × (test f.test ≡ true) × Among ts f.test
among_failing test [] f a = elim a [ ]
among_failing test (t ∷ ts) f a = elim (bool_cases (test t)) [
  | inl e ↦ let b : (here t ≡ f) ⊎ Among (failing test ts) f = rw e at a in elim b [
    | inl h ↦ (ap (λ x. x.path) (sym h), subst (λ x. test x ≡ true) (ap (λ x. x.test) h) e, inl (ap (λ x. x.test) h))
    | inr h ↦ let r = among_failing test ts f h in (r.0, r.1, inr r.2)
  ]
  | inr e ↦ let r = among_failing test ts f (rw e at a) in (r.0, r.1, inr r.2)
]

failing_among : (test : Test → Bool) (ts : List Test) (t : Test) → Among ts t → test t ≡ true → Among (failing test ts) (here t)
failing_among test [] t a e = elim a [ ]
failing_among test (u ∷ ts) t (inl h) e = let same : test u ≡ true = subst (λ x. test x ≡ true) (sym h) e in rw same (inl (ap here h))
failing_among test (u ∷ ts) t (inr a) e = among_right (if test u then here u ∷ [] else []) (failing test ts) (here t) (failing_among test ts t a e)

-- the numbers ascend, from one on
abbrev Ascend : ℕ → List Test → Type 0
Ascend n [] = Unit {0}
Ascend n (t ∷ ts) = (nat_cmp n (number t) ≡ Less) × Ascend (number t) ts

above : (n : ℕ) (ts : List Test) → Ascend n ts → (t : Test) → Among ts t → nat_cmp n (number t) ≡ Less
above n [] a t h = elim h [ ]
above n (u ∷ ts) a t (inl e) = subst (λ x. nat_cmp n (number x) ≡ Less) e a.0
above n (u ∷ ts) a t (inr h) = nat_cmp_total.trans n (number u) (number t) a.0 (above (number u) ts a.1 t h)

rising_failing : (test : Test → Bool) (n : ℕ) (ts : List Test) → Ascend n ts → Rising Precedes (failing test ts)
rising_failing test n [] a = tt
rising_failing test n (t ∷ ts) a = elim (bool_cases (test t)) [
  | inl e ↦ rw e (λ f h. let r = among_failing test ts f h in rw r.0 (above (number t) ts a.1 f.test r.2), rising_failing test (number t) ts a.1)
  | inr e ↦ rw e (rising_failing test (number t) ts a.1)
]

in_order : Ascend 0 own_tests
in_order = search rules depth 20

listed : (repeated : Bool) (N : Node) (v : Data) (t : Test) → asks repeated t N v ≡ true → Among own_tests t
listed repeated N v F12 e = cc
listed repeated N v F15 e = cc
listed repeated N v _ e = search rules depth 20

-- ---- of the value and its parts

pub among_whole : (repeated : Bool) (N : Node) (v : Data) (bs : List Below) → AreRising bs → (f : Failure) → Among (whole repeated N v bs) f
    → ((f.path ≡ []) × (asks repeated f.test N v ≡ true)) ⊎ IsJoined bs f
among_whole repeated N v bs r f a = elim (among_parts (own repeated N v) (joined bs) f a) [
  | inl o ↦ let x = among_failing (λ t. asks repeated t N v) own_tests f o in inl (x.0, x.1)
  | inr b ↦ inr (is_joined bs r f b)
]

pub own_among : (repeated : Bool) (N : Node) (v : Data) (bs : List Below) (t : Test) → asks repeated t N v ≡ true → Among (whole repeated N v bs) (here t)
own_among repeated N v bs t e = among_left (own repeated N v) (joined bs) (here t) (failing_among (λ u. asks repeated u N v) own_tests t (listed repeated N v t e) e)

own_or : (N : Node) (v : Data) (bs : List Below) (p : Path) (t : Test) → p ≡ [] → asks true t N v ≡ true → ((p ≡ []) × (t ≡ F13) × (true ≡ true)) ⊎ Among (whole false N v bs) (failure p t)
own_or N v bs p F13 e h = inl (e, refl, refl)
own_or N v bs p t e h = inr (subst (λ q. Among (whole false N v bs) (failure q t)) (sym e) (own_among false N v bs t h))

still : (N : Node) (v : Data) (t : Test) → asks false t N v ≡ true → asks true t N v ≡ true
still N v F13 h = refl
still N v _ h = h

-- of what repeats an earlier item, and of what does not
pub repeat_or : (repeated : Bool) (N : Node) (v : Data) (bs : List Below) (p : Path) (t : Test) → Among (whole repeated N v bs) (failure p t)
    → ((p ≡ []) × (t ≡ F13) × (repeated ≡ true)) ⊎ Among (whole false N v bs) (failure p t)
repeat_or false N v bs p t a = inr a
repeat_or true N v bs p t a = elim (among_parts (own true N v) (joined bs) (failure p t) a) [
  | inl o ↦ let x = among_failing (λ u. asks true u N v) own_tests (failure p t) o in own_or N v bs p t x.0 x.1
  | inr b ↦ inr (among_right (own false N v) (joined bs) (failure p t) b)
]

pub or_repeat : (repeated : Bool) (N : Node) (v : Data) (bs : List Below) (f : Failure) → Among (whole false N v bs) f → Among (whole repeated N v bs) f
or_repeat false N v bs f a = a
or_repeat true N v bs f a = elim (among_parts (own false N v) (joined bs) f a) [
  | inl o ↦
      let x = among_failing (λ u. asks false u N v) own_tests f o in
      subst (λ p. Among (whole true N v bs) (failure p f.test)) (sym x.0) (own_among true N v bs f.test (still N v f.test x.1))
  | inr b ↦ among_right (own true N v) (joined bs) f b
]

rising_whole : (repeated : Bool) (N : Node) (v : Data) (bs : List Below) → AreRising bs → Rising Precedes (whole repeated N v bs)
rising_whole repeated N v bs r = rising_join Precedes (own repeated N v) (joined bs) (rising_failing (λ t. asks repeated t N v) 0 own_tests in_order) (rising_joined bs r)
    (λ f g a b. let x = among_failing (λ t. asks repeated t N v) own_tests f a in let y = is_joined bs r g b in rw (x.0, y.is) refl)

-- ---- members before a name, from it on, and past it

-- neither before nor the same
greater : (k l : List ℕ) → is_lt (text_cmp l k) ≡ false → bytes_eq k l ≡ false → text_cmp k l ≡ Less
greater k l e f = elim (ordering_cases (text_cmp l k)) [
  | inl h ↦ let g = rw h at e in cc
  | inr (inl h) ↦ let g = own_name k in let same = text_same l k h in let own = subst (λ n. bytes_eq k n ≡ false) same f in cc
  | inr (inr h) ↦ let turned = nat_list_cmp_total.antisymm k l in rw h at turned
]

-- a name before one is before another that is not before that
before_other : (k l m : List ℕ) → text_cmp k l ≡ Less → is_lt (text_cmp m l) ≡ false → text_cmp k m ≡ Less
before_other k l m kl e = elim (bool_cases (bytes_eq l m)) [
  | inl f ↦ subst (λ n. text_cmp k n ≡ Less) (same_name l m f) kl
  | inr f ↦ nat_list_cmp_total.trans k l m kl (greater l m e f)
]

ordered_from : (k : List ℕ) (ms : Members) → AreMembers ms → AreMembers (members_from k ms)
ordered_from k no_members m = tt
ordered_from k (member l d ms) m = elim (bool_cases (is_lt (text_cmp l k))) [
  | inl e ↦ rw e (ordered_from k ms m.2)
  | inr e ↦ rw e m
]

ordered_past : (k : List ℕ) (ms : Members) → AreMembers ms → AreMembers (members_past k ms)
ordered_past k no_members m = tt
ordered_past k (member l d ms) m = elim (bool_cases (bytes_eq k l)) [ inl e ↦ rw e m.2 | inr e ↦ rw e m ]

past_before : (k : List ℕ) (ms : Members) → AreMembers ms → IsNameBefore k (members_past k (members_from k ms))
past_before k no_members m = tt
past_before k (member l d ms) m = elim (bool_cases (is_lt (text_cmp l k))) [
  | inl e ↦ rw e (past_before k ms m.2)
  | inr e ↦ rw e (elim (bool_cases (bytes_eq k l)) [
    | inl f ↦ rw f (subst (λ n. IsNameBefore n ms) (sym (same_name k l f)) m.1)
    | inr f ↦ rw f (greater k l e f)
  ])
]

-- the members past the name of a field
abbrev rest_of : List ℕ → Members → Members
rest_of k ms = members_past k (members_from k ms)

first_is : (k : List ℕ) (ms : Members) → AreMembers ms → first_at k (members_from k ms) ≡ member_at k ms
first_is k no_members m = refl
first_is k (member l d ms) m = elim (bool_cases (is_lt (text_cmp l k))) [
  | inl e ↦ let other = later_name k l (less_from (text_cmp l k) e) in rw (e, other) (first_is k ms m.2)
  | inr e ↦ rw e (elim (bool_cases (bytes_eq k l)) [
    | inl f ↦ rw f refl
    | inr f ↦ rw (f, before_none k ms (IsNameBefore-trans k l ms (greater k l e f) m.1) m.2) refl
  ])
]

member_after : (k l : List ℕ) (ms : Members) → text_cmp k l ≡ Less → member_at l (members_from k ms) ≡ member_at l ms
member_after k l no_members kl = refl
member_after k l (member m d ms) kl = elim (bool_cases (is_lt (text_cmp m k))) [
  | inl e ↦ let other = later_name l m (nat_list_cmp_total.trans m k l (less_from (text_cmp m k) e) kl) in rw (e, other) (member_after k l ms kl)
  | inr e ↦ rw e refl
]

past_other : (k l : List ℕ) (ms : Members) → bytes_eq l k ≡ false → member_at l (members_past k ms) ≡ member_at l ms
past_other k l no_members other = refl
past_other k l (member m d ms) other = elim (bool_cases (bytes_eq k m)) [
  | inl e ↦ let same = subst (λ n. bytes_eq l n ≡ false) (same_name k m e) other in rw (e, same) refl
  | inr e ↦ rw e refl
]

rest_after : (k l : List ℕ) (ms : Members) → text_cmp k l ≡ Less → member_at l (rest_of k ms) ≡ member_at l ms
rest_after k l ms kl = past_other k l (members_from k ms) (later_name l k kl) ∙ member_after k l ms kl

rest_before : (k l : List ℕ) (ms : Members) → text_cmp l k ≡ Less → AreMembers ms → member_at l (rest_of k ms) ≡ None
rest_before k l ms lk m = before_none l (rest_of k ms) (IsNameBefore-trans l k (rest_of k ms) lk (past_before k ms m)) (ordered_past k (members_from k ms) (ordered_from k ms m))

front_before : (k l : List ℕ) (ms : Members) → text_cmp l k ≡ Less → AreMembers ms → member_at l (members_before k ms) ≡ member_at l ms
front_before k l no_members lk m = refl
front_before k l (member n d ms) lk m = elim (bool_cases (is_lt (text_cmp n k))) [
  | inl e ↦ rw e (ap (λ o. if bytes_eq l n then Some d else o) (front_before k l ms lk m.2))
  | inr e ↦ rw e (sym (before_none l (member n d ms) (before_other l k n lk e) m))
]

front_after : (k l : List ℕ) (ms : Members) → (text_cmp l k ≡ Less → ⊥) → member_at l (members_before k ms) ≡ None
front_after k l no_members past = refl
front_after k l (member n d ms) past = elim (bool_cases (is_lt (text_cmp n k))) [
  | inl e ↦ elim (bool_cases (bytes_eq l n)) [
    | inl f ↦ absurd (past (subst (λ x. text_cmp x k ≡ Less) (sym (same_name l n f)) (less_from (text_cmp n k) e)))
    | inr f ↦ rw (e, f) (front_after k l ms past)
  ]
  | inr e ↦ rw e refl
]

pub member_tree : (k : List ℕ) (ms : Members) (d : Data) → AreMembers ms → member_at k ms ≡ Some d → IsTree d
member_tree k no_members d m e = cc
member_tree k (member l c ms) d m e = elim (bool_cases (bytes_eq k l)) [
  | inl h ↦ subst IsTree (same_Some c d (rw h at e)) m.0
  | inr h ↦ member_tree k ms d m.2 (rw h at e)
]

-- ---- the parts by their steps

pub lookup_values : (failures : Data → List Failure) (ms : Members) (k : List ℕ) → lookup (name k) (value_parts failures ms) ≡ option_map failures (member_at k ms)
lookup_values failures no_members k = refl
lookup_values failures (member l d ms) k = elim (bool_cases (bytes_eq k l)) [ inl e ↦ rw e refl | inr e ↦ rw e (lookup_values failures ms k) ]

-- a member that is dropped, where any are
abbrev pub dropped_at : Bool → Option Data → Option (List Failure)
dropped_at false o = None
dropped_at true o = option_map (λ d. here F15 ∷ []) o

none_dropped : (drops : Bool) → dropped_at drops None ≡ None
none_dropped true = refl
none_dropped false = refl

lookup_dropped : (drops : Bool) (ms : Members) (k : List ℕ) → lookup (name k) (dropped drops ms) ≡ dropped_at drops (member_at k ms)
lookup_dropped false ms k = refl
lookup_dropped true ms k = lookup_values (λ d. here F15 ∷ []) ms k

-- what is wrong at the field of a name
abbrev pub of_field : Bool → Members → List ℕ → Declared → List Failure
of_field strict ms k f = at_field f.required (λ d. found strict false f.node d) (member_at k ms)

-- and at a name, whether it is declared or not
abbrev pub of_name : Bool → Bool → Option Declared → Members → List ℕ → Option (List Failure)
of_name strict drops None ms k = dropped_at drops (member_at k ms)
of_name strict drops (Some f) ms k = Some (of_field strict ms k f)

kept : {A : Type 0} (o : Option A) → first_there o None ≡ o
kept None = refl
kept (Some x) = refl

-- of a name that is not declared, before a field or past it
between : (drops : Bool) (k l : List ℕ) (ms : Members) → bytes_eq l k ≡ false → AreMembers ms
    → first_there (dropped_at drops (member_at l (members_before k ms))) (dropped_at drops (member_at l (rest_of k ms))) ≡ dropped_at drops (member_at l ms)
between drops k l ms other m = elim (ordering_cases (text_cmp l k)) [
  | inl less ↦ rw (front_before k l ms less m, rest_before k l ms less m, none_dropped drops) (kept (dropped_at drops (member_at l ms)))
  | inr (inl equal) ↦ let own = own_name l in let same = text_same l k equal in let none = subst (λ n. bytes_eq l n ≡ false) (sym same) other in cc
  | inr (inr more) ↦
      let less : text_cmp k l ≡ Less = let turned = nat_list_cmp_total.antisymm k l in rw more at turned in
      rw (front_after k l ms (λ h. let no = sym more ∙ h in cc), rest_after k l ms less, none_dropped drops) refl
]

pub lookup_fields : (strict drops : Bool) (fs : Fields) (ms : Members) → AreOrdered fs → AreMembers ms → (k : List ℕ)
    → lookup (name k) (field_parts strict drops fs ms) ≡ of_name strict drops (field_at k fs) ms k
lookup_fields strict drops no_fields ms o m k = lookup_dropped drops ms k
lookup_fields strict drops (field l N required default fs) ms o m k =
    let front = lookup_dropped drops (members_before l ms) k in
    rw (lookup_onto, front) (elim (bool_cases (bytes_eq k l)) [
      | inl e ↦
          let none = front_after l k ms (λ h. not_itself k l (same_name k l e) h) in
          rw (e, none, none_dropped drops) (ap (λ v. Some (at_field required (λ d. found strict false N d) v)) (first_is l ms m ∙ ap (λ n. member_at n ms) (sym (same_name k l e))))
      | inr e ↦ rw (e, lookup_fields strict drops fs (rest_of l ms) o.2 (ordered_past l (members_from l ms) (ordered_from l ms m)) k) (elim (option_cases (field_at k fs)) [
        | inl none ↦ rw none (between drops l k ms e m)
        | inr some ↦
            let after = field_after l fs k some.0 o.1 o.2 some.1 in
            let gone = front_after l k ms (λ h. not_itself l l refl (nat_list_cmp_total.trans l k l after h)) in
            rw (some.1, gone, none_dropped drops, rest_after l k ms after) refl
      ])
    ])

pub lookup_items : (failures : ℕ → Data → List Failure) (ds : Items) (i j n : ℕ) → j ≡ i + n → lookup (index j) (item_parts failures i ds) ≡ option_map (failures j) (item_at n ds)
lookup_items failures no_items i j n e = refl
lookup_items failures (item d ds) i j zero e = let same : i ≡ j = omega arith in rw (eq-eqb j i (sym same)) (ap (λ k. Some (failures k d)) same)
lookup_items failures (item d ds) i j (suc n) e = elim (bool_cases (j == i)) [
  | inl h ↦ let same = eqb-true j i h in absurd (omega arith)
  | inr h ↦ rw h (lookup_items failures ds (suc i) j n (omega arith))
]

pub no_index_of_values : (failures : Data → List Failure) (ms : Members) (i : ℕ) → lookup (index i) (value_parts failures ms) ≡ None
no_index_of_values failures no_members i = refl
no_index_of_values failures (member k d ms) i = no_index_of_values failures ms i

no_index_of_dropped : (drops : Bool) (ms : Members) (i : ℕ) → lookup (index i) (dropped drops ms) ≡ None
no_index_of_dropped false ms i = refl
no_index_of_dropped true ms i = no_index_of_values (λ d. here F15 ∷ []) ms i

pub no_index_of_fields : (strict drops : Bool) (fs : Fields) (ms : Members) (i : ℕ) → lookup (index i) (field_parts strict drops fs ms) ≡ None
no_index_of_fields strict drops no_fields ms i = no_index_of_dropped drops ms i
no_index_of_fields strict drops (field k N required default fs) ms i =
    rw (lookup_onto, no_index_of_dropped drops (members_before k ms) i) (no_index_of_fields strict drops fs (rest_of k ms) i)

pub no_name_of_items : (failures : ℕ → Data → List Failure) (i : ℕ) (ds : Items) (k : List ℕ) → lookup (name k) (item_parts failures i ds) ≡ None
no_name_of_items failures i no_items k = refl
no_name_of_items failures i (item d ds) k = no_name_of_items failures (suc i) ds k

-- ---- parts ascend

values_step : (k : List ℕ) (failures : Data → List Failure) (ms : Members) → IsNameBefore k ms → IsStepBefore (name k) (value_parts failures ms)
values_step k failures no_members b = tt
values_step k failures (member l d ms) b = b

values_rising : (failures : Data → List Failure) (ms : Members) → AreMembers ms → ((d : Data) → IsTree d → Rising Precedes (failures d)) → AreRising (value_parts failures ms)
values_rising failures no_members m r = tt
values_rising failures (member k d ms) m r = (r d m.0, values_step k failures ms m.1, values_rising failures ms m.2 r)

dropped_step : (drops : Bool) (k : List ℕ) (ms : Members) → IsNameBefore k ms → IsStepBefore (name k) (dropped drops ms)
dropped_step false k ms b = tt
dropped_step true k ms b = values_step k (λ d. here F15 ∷ []) ms b

dropped_rising : (drops : Bool) (ms : Members) → AreMembers ms → AreRising (dropped drops ms)
dropped_rising false ms m = tt
dropped_rising true ms m = values_rising (λ d. here F15 ∷ []) ms m (λ d t. (λ f a. elim a [ ], tt))

-- before a field
front_step : (drops : Bool) (k l : List ℕ) (ms : Members) (bs : List Below) → IsNameBefore l ms → IsStepBefore (name l) bs → IsStepBefore (name l) (dropped drops (members_before k ms) ++ bs)
front_step false k l ms bs before h = h
front_step true k l no_members bs before h = h
front_step true k l (member n d ms) bs before h = elim (bool_cases (is_lt (text_cmp n k))) [ inl e ↦ rw e before | inr e ↦ rw e h ]

front_rising : (drops : Bool) (k : List ℕ) (ms : Members) (bs : List Below) → AreMembers ms → ((l : List ℕ) → text_cmp l k ≡ Less → IsStepBefore (name l) bs) → AreRising bs
    → AreRising (dropped drops (members_before k ms) ++ bs)
front_rising false k ms bs m h r = r
front_rising true k no_members bs m h r = r
front_rising true k (member l d ms) bs m h r = elim (bool_cases (is_lt (text_cmp l k))) [
  | inl e ↦ rw e ((λ f a. elim a [ ], tt), front_step true k l ms bs m.1 (h l (less_from (text_cmp l k) e)), front_rising true k ms bs m.2 h r)
  | inr e ↦ rw e r
]

fields_step : (strict drops : Bool) (k : List ℕ) (fs : Fields) (ms : Members) → IsBeforeFields k fs → IsNameBefore k ms → IsStepBefore (name k) (field_parts strict drops fs ms)
fields_step strict drops k no_fields ms b m = dropped_step drops k ms m
fields_step strict drops k (field l N required default fs) ms b m = front_step drops l k ms _ m b

items_step : (failures : ℕ → Data → List Failure) (i : ℕ) (ds : Items) → IsStepBefore (index i) (item_parts failures (suc i) ds)
items_step failures i no_items = tt
items_step failures i (item d ds) = sym (nat_cmp_is i (suc i) Less (omega arith))

items_rising : (failures : ℕ → Data → List Failure) (i : ℕ) (ds : Items) → AreTrees ds → ((j : ℕ) (d : Data) → IsTree d → Rising Precedes (failures j d)) → AreRising (item_parts failures i ds)
items_rising failures i no_items t r = tt
items_rising failures i (item d ds) t r = (r i d t.0, items_step failures i ds, items_rising failures (suc i) ds t.1 r)

at_field_rising : (required : Bool) (failures : Data → List Failure) (o : Option Data) → ((d : Data) → o ≡ Some d → Rising Precedes (failures d)) → Rising Precedes (at_field required failures o)
at_field_rising true failures None r = (λ f a. elim a [ ], tt)
at_field_rising false failures None r = tt
at_field_rising required failures (Some d) r = r d refl

mutual
  pub parts_rising : (strict : Bool) (N : Node) (v : Data) → IsNode N → IsTree v → AreRising (parts strict N v)
  parts_rising strict (node nullable description (object fs preserves type bounds cs)) (tree.object ms) n t = fields_rising strict (strict && not preserves) fs ms n t
  parts_rising strict (node nullable description (map N type bounds)) (tree.object ms) n t =
      values_rising (λ d. found strict false N d) ms t (λ d h. rising_whole false N d (parts strict N d) (parts_rising strict N d n h))
  parts_rising strict (node nullable description (list N type keys bounds)) (tree.list ds) n t =
      items_rising (λ i d. found strict (has_alike_before (are_alike type keys) i ds (item_at i ds)) N d) 0 ds t
      (λ i d h. rising_whole (has_alike_before (are_alike type keys) i ds (item_at i ds)) N d (parts strict N d) (parts_rising strict N d n h))
  parts_rising strict _ _ n t = tt

  fields_rising : (strict drops : Bool) (fs : Fields) (ms : Members) → AreOrdered fs → AreMembers ms → AreRising (field_parts strict drops fs ms)
  fields_rising strict drops no_fields ms o m = dropped_rising drops ms m
  fields_rising strict drops (field k N required default fs) ms o m = front_rising drops k ms _ m (λ l less. less) (
    at_field_rising required (λ d. found strict false N d) (first_at k (members_from k ms))
        (λ d e. rising_whole false N d (parts strict N d) (parts_rising strict N d o.0 (member_tree k ms d m (sym (first_is k ms m) ∙ e)))),
    fields_step strict drops k fs (rest_of k ms) o.1 (past_before k ms m),
    fields_rising strict drops fs (rest_of k ms) o.2 (ordered_past k (members_from k ms) (ordered_from k ms m)),
  )

pub found_rising : (strict : Bool) (N : Node) (v : Data) → IsNode N → IsTree v → Rising Precedes (found strict false N v)
found_rising strict N v n t = rising_whole false N v (parts strict N v) (parts_rising strict N v n t)
