-- The failures by level are all faults, in order.
use Rattle.std.proofs.Common.{◌≡◌, ◌⊎◌, ◌+◌, ℕ, zero, suc, List, [], ◌∷◌, ◌++◌, Bool, true, false, Option, Some, None, option_map, rules, refl, sym, ap, subst, ◌∙◌, inl, inr, arith}
use Rattle.std.specs.Prelude.{if◌then◌else◌}
use Rattle.std.specs.Ordering.{nat_cmp}
use Rattle.std.specs.Str.{bytes_eq}
use Rattle.std.specs.declared.cmp.Ordering.TheVariants.{Less}
use Rattle.std.specs.Cmp.{nat_cmp_is}
use Rattle.std.proofs.lemmas.Bool.{eq-eqb, ne_eqb}
use Rattle.std.proofs.lemmas.Cmp.{nat_cmp_total}
use Rattle.std.proofs.lemmas.Option.{same_Some}
use Rattle.jtree.specs.Data.{Data, list, object, Items, no_items, item, Members, no_members, member, IsTree, AreTrees, IsNameBefore, AreMembers}
use Rattle.jtree.specs.Path.{Step, name, index, Path, member_at, item_at}
use Rattle.jtree.specs.Internal.Lookups.{bool_cases, option_cases, same_name}
use Rattle.jtree.specs.Internal.Rising.{Among, Rising, among_left, among_right, among_parts, rising_join, contains, each_of, all_pairs}
use Rattle.judge.specs.Keywords.{number, all_tests}
use Rattle.judge.specs.Asked.{below, member_schema, item_schema, required, is_among, some_repeats, Place, value_at, missing, root, asked, member_place, item_place, place_by, next_place, place_at}
use Rattle.judge.specs.Meets.{first_there}
use Rattle.judge.specs.Faults.{Asking, fails_at, IsFault, Failure, AreFailures}
use Rattle.judge.specs.Internal.FaultsByLevel.{here, failing, own, Below, joined, parts, item_parts, member_parts, found, parts_of, found_at}
use Rattle.judge.specs.declared.test.Test.{Test}
use Rattle.judge.proofs.JoinedLemmas.{failure, Precedes, lookup, IsStepBefore, AreRising, is_joined, joined_failure, rising_joined}
use Rattle.judge.proofs.LookupLemmas.{member_tree, item_tree}
use Rattle.judge.proofs.MissingLemmas.{at_missing, rising_all, lookup_all}

-- ---- of the place itself

among_failing : (fails : Test → Bool) (ts : List Test) (f : Failure) → Among (failing fails ts) f → (f.path ≡ []) × (fails f.test ≡ true) × Among ts f.test
among_failing fails [] f a = elim a [ ]
among_failing fails (t ∷ ts) f a = elim (bool_cases (fails t)) [
  | inl e ↦ let b : (here t ≡ f) ⊎ Among (failing fails ts) f = rw e at a in elim b [
    | inl h ↦ (ap (λ x. x.path) (sym h), subst (λ x. fails x ≡ true) (ap (λ x. x.test) h) e, inl (ap (λ x. x.test) h))
    | inr h ↦ let r = among_failing fails ts f h in (r.0, r.1, inr r.2)
  ]
  | inr e ↦ let r = among_failing fails ts f (rw e at a) in (r.0, r.1, inr r.2)
]

failing_among : (fails : Test → Bool) (ts : List Test) (t : Test) → Among ts t → fails t ≡ true → Among (failing fails ts) (here t)
failing_among fails [] t a e = elim a [ ]
failing_among fails (u ∷ ts) t (inl h) e = let same : fails u ≡ true = subst (λ x. fails x ≡ true) (sym h) e in rw same (inl (ap here h))
failing_among fails (u ∷ ts) t (inr a) e = among_right (if fails u then here u ∷ [] else []) (failing fails ts) (here t) (failing_among fails ts t a e)

-- the numbers ascend
abbrev Ascend : ℕ → List Test → Type 0
Ascend n [] = Unit {0}
Ascend n (t ∷ ts) = (nat_cmp n (number t) ≡ Less) × Ascend (number t) ts

above : (n : ℕ) (ts : List Test) → Ascend n ts → (t : Test) → Among ts t → nat_cmp n (number t) ≡ Less
above n [] a t h = elim h [ ]
above n (u ∷ ts) a t (inl e) = subst (λ x. nat_cmp n (number x) ≡ Less) e a.0
above n (u ∷ ts) a t (inr h) = nat_cmp_total.trans n (number u) (number t) a.0 (above (number u) ts a.1 t h)

rising_failing : (fails : Test → Bool) (n : ℕ) (ts : List Test) → Ascend n ts → Rising Precedes (failing fails ts)
rising_failing fails n [] a = tt
rising_failing fails n (t ∷ ts) a = elim (bool_cases (fails t)) [
  | inl e ↦ rw e (λ f h. let r = among_failing fails ts f h in rw r.0 (above (number t) ts a.1 f.test r.2), rising_failing fails (number t) ts a.1)
  | inr e ↦ rw e (rising_failing fails (number t) ts a.1)
]

in_order : Ascend 0 all_tests
in_order = search rules depth 40

pub listed : (t : Test) → Among all_tests t
listed _ = search rules depth 40

-- ---- of its parts

module _ (ask : Asking) where
  lookup_members : (ss : List Data) (ms : Members) (k : List ℕ) →
      lookup (name k) (member_parts ask ms ss) ≡ option_map (λ w. found ask (below (member_schema k) w ss) false w) (member_at k ms)
  lookup_members ss no_members k = refl
  lookup_members ss (member l d ms) k = elim (bool_cases (bytes_eq k l)) [
    | inl e ↦ rw e (ap (λ n. Some (found ask (below (member_schema n) d ss) false d)) (sym (same_name k l e)))
    | inr e ↦ rw e (lookup_members ss ms k)
  ]

  no_index : (ss : List Data) (ms : Members) (i : ℕ) → lookup (index i) (member_parts ask ms ss) ≡ None
  no_index ss no_members i = refl
  no_index ss (member l d ms) i = no_index ss ms i

  lookup_items : (ss : List Data) (all ds : Items) (i n j : ℕ) → j ≡ i + n →
      lookup (index j) (item_parts ask all ds i ss) ≡ option_map (λ w. found ask (below item_schema w ss) (some_repeats ss all j) w) (item_at n ds)
  lookup_items ss all no_items i n j e = refl
  lookup_items ss all (item d ds) i zero j e =
      let same : j ≡ i = omega (arith, e) in
      rw (eq-eqb j i same) (ap (λ n. Some (found ask (below item_schema d ss) (some_repeats ss all n) d)) (sym same))
  lookup_items ss all (item d ds) i (suc n) j e = rw (ne_eqb j i (omega arith)) (lookup_items ss all ds (suc i) n j (omega arith))

  no_name : (ss : List Data) (all ds : Items) (i : ℕ) (k : List ℕ) → lookup (name k) (item_parts ask all ds i ss) ≡ None
  no_name ss all no_items i k = refl
  no_name ss all (item d ds) i k = no_name ss all ds (suc i) k

  -- ---- in order

  rising_whole : (q : Place) (bs : List Below) → AreRising bs → Rising Precedes (own ask q ++ joined bs)
  rising_whole q bs r =
      rising_join Precedes (own ask q) (joined bs) (rising_failing (fails_at ask q) 0 all_tests in_order) (rising_joined bs r)
      (λ f g a b. let x = among_failing (fails_at ask q) all_tests f a in let y = is_joined bs r g b in rw (x.0, y.is) refl)

  before_members : (ss : List Data) (k : List ℕ) (ms : Members) → IsNameBefore k ms → IsStepBefore (name k) (member_parts ask ms ss)
  before_members ss k no_members h = tt
  before_members ss k (member l d ms) h = h

  before_items : (ss : List Data) (all : Items) (i : ℕ) (ds : Items) → IsStepBefore (index i) (item_parts ask all ds (suc i) ss)
  before_items ss all i no_items = tt
  before_items ss all i (item d ds) = sym (nat_cmp_is i (suc i) Less (omega arith))

  mutual
    parts_rising : (v : Data) → IsTree v → (ss : List Data) → AreRising (parts ask v ss)
    parts_rising (object ms) t ss = rising_all ask (required ss) (member_parts ask ms ss) (members_rising ms t ss)
    parts_rising (list ds) t ss = items_rising ds ds t 0 ss
    parts_rising _ t ss = tt

    items_rising : (all ds : Items) → AreTrees ds → (i : ℕ) (ss : List Data) → AreRising (item_parts ask all ds i ss)
    items_rising all no_items t i ss = tt
    items_rising all (item d ds) t i ss = (
      rising_whole (value_at (below item_schema d ss) (some_repeats ss all i) d) (parts ask d (below item_schema d ss)) (parts_rising d t.0 (below item_schema d ss)),
      before_items ss all i ds,
      items_rising all ds t.1 (suc i) ss,
    )

    members_rising : (ms : Members) → AreMembers ms → (ss : List Data) → AreRising (member_parts ask ms ss)
    members_rising no_members t ss = tt
    members_rising (member k d ms) t ss = (
      rising_whole (value_at (below (member_schema k) d ss) false d) (parts ask d (below (member_schema k) d ss)) (parts_rising d t.0 (below (member_schema k) d ss)),
      before_members ss k ms t.1,
      members_rising ms t.2 ss,
    )

  -- ---- places of trees

  abbrev IsTreeAt : Place → Type 0
  IsTreeAt (value_at ss repeated v) = IsTree v
  IsTreeAt missing = Unit {0}

  rising_at : (q : Place) → IsTreeAt q → AreRising (parts_of ask q)
  rising_at (value_at ss repeated v) t = parts_rising v t ss
  rising_at missing t = tt

  member_place_tree : (ss : List Data) (k : List ℕ) (o : Option Data) (q : Place) → ((w : Data) → o ≡ Some w → IsTree w) → member_place ss k o ≡ Some q → IsTreeAt q
  member_place_tree ss k None q h e = elim (bool_cases (is_among k (required ss))) [
    | inl there ↦ subst IsTreeAt (same_Some missing q (rw there at e)) tt
    | inr none ↦ let x = rw none at e in cc
  ]
  member_place_tree ss k (Some w) q h e = subst IsTreeAt (same_Some (value_at (below (member_schema k) w ss) false w) q e) (h w refl)

  item_place_tree : (ss : List Data) (ds : Items) (i : ℕ) (o : Option Data) (q : Place) → ((w : Data) → o ≡ Some w → IsTree w) → item_place ss ds i o ≡ Some q → IsTreeAt q
  item_place_tree ss ds i None q h e = cc
  item_place_tree ss ds i (Some w) q h e = subst IsTreeAt (same_Some (value_at (below item_schema w ss) (some_repeats ss ds i) w) q e) (h w refl)

  place_by_tree : (ss : List Data) (v : Data) (s : Step) (q : Place) → IsTree v → place_by ss v s ≡ Some q → IsTreeAt q
  place_by_tree ss (object ms) (name k) q t e = member_place_tree ss k (member_at k ms) q (λ w h. member_tree k ms t w h) e
  place_by_tree ss (list ds) (index i) q t e = item_place_tree ss ds i (item_at i ds) q (λ w h. item_tree i ds w t h) e
  place_by_tree ss _ s q t e = cc

  place_tree : (p : Place) (s : Step) (q : Place) → IsTreeAt p → next_place p s ≡ Some q → IsTreeAt q
  place_tree (value_at ss repeated v) s q t e = place_by_tree ss v s q t e
  place_tree missing s q t e = cc

  -- ---- the failures at a step are those of the place there

  with_missing : (ss : List Data) (k : List ℕ) (o : Option Data) →
      first_there (option_map (λ w. found ask (below (member_schema k) w ss) false w) o) (at_missing ask (required ss) (name k)) ≡ option_map (found_at ask) (member_place ss k o)
  with_missing ss k None = elim (bool_cases (is_among k (required ss))) [ inl e ↦ rw e refl | inr e ↦ rw e refl ]
  with_missing ss k (Some w) = refl

  at_index : (ss : List Data) (ds : Items) (i : ℕ) (o : Option Data) → option_map (λ w. found ask (below item_schema w ss) (some_repeats ss ds i) w) o ≡ option_map (found_at ask) (item_place ss ds i o)
  at_index ss ds i None = refl
  at_index ss ds i (Some w) = refl

  lookup_parts : (ss : List Data) (v : Data) → IsTree v → (s : Step) → lookup s (parts ask v ss) ≡ option_map (found_at ask) (place_by ss v s)
  lookup_parts ss (object ms) t (name k) =
      lookup_all ask (required ss) (member_parts ask ms ss) (members_rising ms t ss) (name k)
      ∙ (ap (λ o. first_there o (at_missing ask (required ss) (name k))) (lookup_members ss ms k) ∙ with_missing ss k (member_at k ms))
  lookup_parts ss (object ms) t (index i) =
      lookup_all ask (required ss) (member_parts ask ms ss) (members_rising ms t ss) (index i) ∙ ap (λ o. first_there o None) (no_index ss ms i)
  lookup_parts ss (list ds) t (index i) = lookup_items ss ds ds 0 i i (omega arith) ∙ at_index ss ds i (item_at i ds)
  lookup_parts ss (list ds) t (name k) = no_name ss ds ds 0 k
  lookup_parts ss _ t s = refl

  lookup_at : (p : Place) → IsTreeAt p → (s : Step) → lookup s (parts_of ask p) ≡ option_map (found_at ask) (next_place p s)
  lookup_at (value_at ss repeated v) t s = lookup_parts ss v t s
  lookup_at missing t s = refl

  -- ---- what is found are the faults

  deeper : (from : Place) (s : Step) (p : Path) (t : Test) (q : Place) → next_place from s ≡ Some q → IsFault ask q p t → IsFault ask from (s ∷ p) t
  deeper from s p t q e h = record { place = h.place; there = rw e h.there; fails_there = h.fails_there }

  at_step : (s : Step) (p : Path) (from : Place) (t : Test) → IsTreeAt from → (fs : List Failure) → lookup s (parts_of ask from) ≡ Some fs → Among fs (failure p t)
      → ((q : Place) → IsTreeAt q → Among (found_at ask q) (failure p t) → IsFault ask q p t) → IsFault ask from (s ∷ p) t
  at_step s p from t tree fs e a below_it = elim (option_cases (next_place from s)) [
    | inl none ↦ let x : None ≡ Some fs = sym (lookup_at from tree s ∙ ap (option_map (found_at ask)) none) ∙ e in cc
    | inr q ↦
        let same : found_at ask q.0 ≡ fs = same_Some (found_at ask q.0) fs (sym (lookup_at from tree s ∙ ap (option_map (found_at ask)) q.1) ∙ e) in
        deeper from s p t q.0 q.1 (below_it q.0 (place_tree from s q.0 tree q.1) (subst (λ xs. Among xs (failure p t)) (sym same) a))
  ]

  found_is_fault : (p : Path) (from : Place) (t : Test) → IsTreeAt from → Among (found_at ask from) (failure p t) → IsFault ask from p t
  found_is_fault [] from t tree a = elim (among_parts (own ask from) (joined (parts_of ask from)) (failure [] t) a) [
    | inl o ↦ let x = among_failing (fails_at ask from) all_tests (failure [] t) o in record { place = from; there = refl; fails_there = x.1 }
    | inr b ↦ let y = is_joined (parts_of ask from) (rising_at from tree) (failure [] t) b in let e : [] ≡ y.step ∷ y.rest = y.is in cc
  ]
  found_is_fault (s ∷ p) from t tree a = elim (among_parts (own ask from) (joined (parts_of ask from)) (failure (s ∷ p) t) a) [
    | inl o ↦ let x = among_failing (fails_at ask from) all_tests (failure (s ∷ p) t) o in let e : s ∷ p ≡ [] = x.0 in cc
    | inr b ↦
        let y = is_joined (parts_of ask from) (rising_at from tree) (failure (s ∷ p) t) b in
        let e : s ∷ p ≡ y.step ∷ y.rest = y.is in
        let same : y.step ≡ s = cc in
        let rest : y.rest ≡ p = cc in
        at_step s p from t tree y.failures (subst (λ x. lookup x (parts_of ask from) ≡ Some y.failures) same y.there)
        (subst (λ x. Among y.failures (failure x t)) rest y.among) (λ q u w. found_is_fault p q t u w)
  ]

  fault_is_found : (p : Path) (from : Place) (t : Test) → IsTreeAt from → IsFault ask from p t → Among (found_at ask from) (failure p t)
  fault_is_found [] from t tree h =
      let fails_here : fails_at ask from t ≡ true = subst (λ (q : Place). fails_at ask q t ≡ true) (sym (same_Some from h.place h.there)) h.fails_there in
      among_left (own ask from) (joined (parts_of ask from)) (failure [] t) (failing_among (fails_at ask from) all_tests t (listed t) fails_here)
  fault_is_found (s ∷ p) from t tree h = elim (option_cases (next_place from s)) [
    | inl none ↦ let x = rw none at h.there in cc
    | inr q ↦
        let there : place_at q.0 p ≡ Some h.place = rw q.1 at h.there in
        among_right (own ask from) (joined (parts_of ask from)) (failure (s ∷ p) t)
        (joined_failure (parts_of ask from) s p t (found_at ask q.0) (lookup_at from tree s ∙ ap (option_map (found_at ask)) q.1)
        (fault_is_found p q.0 t (place_tree from s q.0 tree q.1) (record { place = h.place; there = there; fails_there = h.fails_there })))
  ]

  pub all_failures : (s v : Data) → IsTree v → AreFailures (IsFault ask (root s v)) (found ask (asked v s) false v)
  all_failures s v tree = record {
    each = each_of (λ (f : Failure). IsFault ask (root s v) f.path f.test) (found ask (asked v s) false v) (λ f a. found_is_fault f.path (root s v) f.test tree a);
    all = λ p t h. contains (found ask (asked v s) false v) (failure p t) (fault_is_found p (root s v) t tree h);
    ascending = all_pairs Precedes (found ask (asked v s) false v) (rising_whole (root s v) (parts ask v (asked v s)) (parts_rising v tree (asked v s)));
  }
