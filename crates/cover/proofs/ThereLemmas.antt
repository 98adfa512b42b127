-- Where a path is there, the rest of it is there in the parts to which its first step leads.
use Rattle.std.proofs.Common.{◌≡◌, ℕ, zero, suc, List, [], ◌∷◌, ◌++◌, Bool, true, false, Option, Some, None, refl, sym, ap, subst, ◌∙◌, inl, inr, arith}
use Rattle.std.specs.Prelude.{◌||◌, nat_lt, is_some}
use Rattle.std.specs.Str.{bytes_eq}
use Rattle.std.proofs.lemmas.Bool.{and_parts, and_from, or_cases, lt-ltb}
use Rattle.jtree.specs.Data.{Data, Items, no_items, item, Members, no_members, member, AreMembers}
use Rattle.jtree.specs.Data as tree
use Rattle.jtree.specs.Path.{Step, part_by, member_at, item_at}
use Rattle.jtree.specs.Path as part
use Rattle.jtree.specs.Internal.Lookups.{bool_cases, member_first, member_tail}
use Rattle.jtree.specs.Internal.OrderLaws.{tree_same}
use Rattle.jtree.specs.Order.{tree_cmp}
use Rattle.std.specs.Ordering.{is_eq}
use Rattle.std.specs.declared.cmp.Ordering.{Ordering}
use Rattle.std.specs.declared.cmp.Ordering.TheVariants.{Less, Equal, Greater}
use Rattle.stored.specs.Objects.Fault.{items_count, members_count}
use Rattle.stored.specs.Objects.Tests.{is_same}
use Rattle.explain.specs.Paths.FieldPath.{FieldStep, field, item as item_step, value, FieldPath}
use Rattle.plan.specs.Samples.Over.{is_in, StepFollows}
use Rattle.cover.specs.There.{has_value, all_items, all_values, has_items, has_values, is_there}
use Rattle.cover.specs.Internal.Narrowed.{kept_of}

-- ---- of lists and objects

item_passes : (test : Data → Bool) (ds : Items) (i : ℕ) (w : Data) → all_items test ds ≡ true → item_at i ds ≡ Some w → test w ≡ true
item_passes test no_items i w all found = absurd (cc)
item_passes test (item d ds) zero w all found = let same : d ≡ w = cc in subst (λ x. test x ≡ true) same (and_parts (test d) (all_items test ds) all).0
item_passes test (item d ds) (suc i) w all found = item_passes test ds i w (and_parts (test d) (all_items test ds) all).1 found

value_passes : (test : Data → Bool) (ms : Members) (k : List ℕ) (w : Data) → all_values test ms ≡ true → member_at k ms ≡ Some w → test w ≡ true
value_passes test no_members k w all found = absurd (cc)
value_passes test (member l d ms) k w all found = elim (bool_cases (bytes_eq k l)) [
  | inl same ↦
      let here : Some d ≡ Some w = rw same at found in
      let is : d ≡ w = cc in
      subst (λ x. test x ≡ true) is (and_parts (test d) (all_values test ms) all).0
  | inr other ↦ value_passes test ms k w (and_parts (test d) (all_values test ms) all).1 (rw other at found)
]

has_all_items : (test : Data → Bool) (ds : Items) → has_items test ds ≡ true → all_items test ds ≡ true
has_all_items test no_items has = absurd (cc)
has_all_items test (item d ds) has = has

has_all_values : (test : Data → Bool) (ms : Members) → has_values test ms ≡ true → all_values test ms ≡ true
has_all_values test no_members has = absurd (cc)
has_all_values test (member k d ms) has = has

each_item : (test : Data → Bool) (ds : Items) → ((i : ℕ) (w : Data) → item_at i ds ≡ Some w → test w ≡ true) → all_items test ds ≡ true
each_item test no_items each = refl
each_item test (item d ds) each = and_from (test d) (all_items test ds) (each zero d refl) (each_item test ds (λ i w found. each (suc i) w found))

each_value : (test : Data → Bool) (ms : Members) → AreMembers ms → ((k : List ℕ) (w : Data) → member_at k ms ≡ Some w → test w ≡ true) → all_values test ms ≡ true
each_value test no_members object each = refl
each_value test (member l d ms) object each = and_from (test d) (all_values test ms) (each l d (member_first l d ms))
    (each_value test ms object.2 (λ k w found. each k w (member_tail l d ms k w object found)))

-- some, and each of them
pub some_items : (test : Data → Bool) (ds : Items) → nat_lt 0 (items_count ds) ≡ true → ((i : ℕ) (w : Data) → item_at i ds ≡ Some w → test w ≡ true) → has_items test ds ≡ true
some_items test no_items some each = absurd (cc)
some_items test (item d ds) some each = each_item test (item d ds) each

pub some_values : (test : Data → Bool) (ms : Members) → AreMembers ms → nat_lt 0 (members_count ms) ≡ true
    → ((k : List ℕ) (w : Data) → member_at k ms ≡ Some w → test w ≡ true) → has_values test ms ≡ true
some_values test no_members object some each = absurd (cc)
some_values test (member l d ms) object some each = each_value test (member l d ms) object each

pub enough_items : (test : Data → Bool) (ds : Items) → has_items test ds ≡ true → nat_lt 0 (items_count ds) ≡ true
enough_items test no_items has = absurd (cc)
enough_items test (item d ds) has = lt-ltb 0 (items_count (item d ds)) (omega arith)

pub enough_values : (test : Data → Bool) (ms : Members) → has_values test ms ≡ true → nat_lt 0 (members_count ms) ≡ true
enough_values test no_members has = absurd (cc)
enough_values test (member k d ms) has = lt-ltb 0 (members_count (member k d ms)) (omega arith)

pub value_there : (test : Data → Bool) (v : Option Data) → has_value test v ≡ true → is_some v ≡ true
value_there test None has = absurd (cc)
value_there test (Some v) has = refl

value_of : (test : Data → Bool) (v : Option Data) (w : Data) → has_value test v ≡ true → v ≡ Some w → test w ≡ true
value_of test None w has found = absurd (cc)
value_of test (Some v) w has found = let same : v ≡ w = cc in subst (λ x. test x ≡ true) same has

-- ---- of a value

there_below : (o : Option Data) (t : FieldStep) (p : FieldPath) (s : Step) (v w : Data) → is_there o (t ∷ p) v ≡ true → StepFollows s t → part_by v s ≡ Some w → is_there o p w ≡ true
there_below o (field l) p (part.name k) (tree.object ms) w there follows found =
    value_of (λ x. is_there o p x) (member_at l ms) w there (ap (λ n. member_at n ms) (sym follows) ∙ found)
there_below o value p (part.name k) (tree.object ms) w there follows found = value_passes (λ x. is_there o p x) ms k w (has_all_values (λ x. is_there o p x) ms there) found
there_below o item_step p (part.index i) (tree.list ds) w there follows found = item_passes (λ x. is_there o p x) ds i w (has_all_items (λ x. is_there o p x) ds there) found
there_below o (field l) p (part.index i) v w there follows found = absurd follows
there_below o value p (part.index i) v w there follows found = absurd follows
there_below o item_step p (part.name k) v w there follows found = absurd follows
there_below o t p s v w there follows found = absurd (cc)

-- what is left of the path, where something is
abbrev pub left_there : Option Data → Option FieldPath → Data → Bool
left_there o None v = true
left_there o (Some p) v = is_there o p v

pub below_there : (o : Option Data) (t : FieldStep) (p : FieldPath) (s : Step) (v w : Data) → is_there o (t ∷ p) v ≡ true → StepFollows s t → part_by v s ≡ Some w → is_there o p w ≡ true
below_there o t p s v w there follows found = there_below o t p s v w there follows found

-- ---- values that are kept

equal_order : (o : Ordering) → is_eq o ≡ true → o ≡ Equal
equal_order Less e = absurd (cc)
equal_order Equal e = refl
equal_order Greater e = absurd (cc)

pub tree_same_by : (v d : Data) → is_same v d ≡ true → v ≡ d
tree_same_by v d same = tree_same v d (equal_order (tree_cmp v d) same)

pub or_right : (a b : Bool) → b ≡ true → (a || b) ≡ true
or_right true b e = refl
or_right false b e = e

pub in_kept : (test : Data → Bool) (v : Data) (ds : List Data) → is_in v ds ≡ true → test v ≡ true → is_in v (kept_of test ds) ≡ true
in_kept test v [] is passes = absurd (cc)
in_kept test v (d ∷ ds) is passes = elim (bool_cases (is_same v d)) [
  | inl same ↦
      let here : test d ≡ true = subst (λ x. test x ≡ true) (tree_same_by v d same) passes in
      rw here (rw same refl)
  | inr other ↦
      let there : is_in v ds ≡ true = rw other at is in
      let kept = in_kept test v ds there passes in
      elim (bool_cases (test d)) [
        | inl t ↦ rw t (rw other kept)
        | inr f ↦ rw f kept
      ]
]

pub in_all : (test : Data → Bool) (v : Data) (ds : List Data) → is_in v (kept_of test ds) ≡ true → is_in v ds ≡ true
in_all test v [] is = is
in_all test v (d ∷ ds) is = elim (bool_cases (test d)) [
  | inl t ↦
      let there : is_in v (d ∷ kept_of test ds) ≡ true = rw t at is in
      elim (or_cases (is_same v d) (is_in v (kept_of test ds)) there) [
        | inl same ↦ rw same refl
        | inr later ↦ or_right (is_same v d) (is_in v ds) (in_all test v ds later)
      ]
  | inr f ↦
      let there : is_in v (kept_of test ds) ≡ true = rw f at is in
      or_right (is_same v d) (is_in v ds) (in_all test v ds there)
]

pub kept_pass : (test : Data → Bool) (v : Data) (ds : List Data) → is_in v (kept_of test ds) ≡ true → test v ≡ true
kept_pass test v [] is = absurd (cc)
kept_pass test v (d ∷ ds) is = elim (bool_cases (test d)) [
  | inl t ↦
      let there : is_in v (d ∷ kept_of test ds) ≡ true = rw t at is in
      elim (or_cases (is_same v d) (is_in v (kept_of test ds)) there) [
        | inl same ↦ subst (λ x. test x ≡ true) (sym (tree_same_by v d same)) t
        | inr later ↦ kept_pass test v ds later
      ]
  | inr f ↦ kept_pass test v ds (rw f at is)
]

-- ---- a path of which a beginning is nowhere

items_more : (s t : Data → Bool) → ((w : Data) → s w ≡ true → t w ≡ true) → (ds : Items) → all_items s ds ≡ true → all_items t ds ≡ true
items_more s t more no_items all = refl
items_more s t more (item d ds) all =
    let parts = and_parts (s d) (all_items s ds) all in
    and_from (t d) (all_items t ds) (more d parts.0) (items_more s t more ds parts.1)

values_more : (s t : Data → Bool) → ((w : Data) → s w ≡ true → t w ≡ true) → (ms : Members) → all_values s ms ≡ true → all_values t ms ≡ true
values_more s t more no_members all = refl
values_more s t more (member k d ms) all =
    let parts = and_parts (s d) (all_values s ms) all in
    and_from (t d) (all_values t ms) (more d parts.0) (values_more s t more ms parts.1)

some_items_more : (s t : Data → Bool) → ((w : Data) → s w ≡ true → t w ≡ true) → (ds : Items) → has_items s ds ≡ true → has_items t ds ≡ true
some_items_more s t more no_items has = has
some_items_more s t more (item d ds) has = items_more s t more (item d ds) has

some_values_more : (s t : Data → Bool) → ((w : Data) → s w ≡ true → t w ≡ true) → (ms : Members) → has_values s ms ≡ true → has_values t ms ≡ true
some_values_more s t more no_members has = has
some_values_more s t more (member k d ms) has = values_more s t more (member k d ms) has

value_more : (s t : Data → Bool) → ((w : Data) → s w ≡ true → t w ≡ true) → (v : Option Data) → has_value s v ≡ true → has_value t v ≡ true
value_more s t more None has = has
value_more s t more (Some v) has = more v has

-- where a path is there, with a value or with any, each beginning of it is
pub there_before : (o : Option Data) (a b : FieldPath) (v : Data) → is_there o (a ++ b) v ≡ true → is_there None a v ≡ true
there_before o [] b v there = refl
there_before o (field k ∷ a) b (tree.object ms) there = value_more (λ w. is_there o (a ++ b) w) (λ w. is_there None a w) (λ w h. there_before o a b w h) (member_at k ms) there
there_before o (value ∷ a) b (tree.object ms) there = some_values_more (λ w. is_there o (a ++ b) w) (λ w. is_there None a w) (λ w h. there_before o a b w h) ms there
there_before o (item_step ∷ a) b (tree.list ds) there = some_items_more (λ w. is_there o (a ++ b) w) (λ w. is_there None a w) (λ w h. there_before o a b w h) ds there
there_before o (s ∷ a) b v there = absurd (cc)
