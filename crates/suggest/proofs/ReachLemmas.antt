-- The suggested values reach the scalars of a schema.
use Rattle.std.proofs.Common.{◌≡◌, ◌⊎◌, ◌≤◌, ◌<◌, ◌+◌, take, ◌≤ℤ◌, ◌<ℤ◌, ℕ, zero, suc, ℤ, pos, negsuc, ◌+ℤ◌, ◌-ℤ◌, List, [], ◌∷◌, ◌++◌, Bool, true, false, Option, Some, None, FitsSigned, map, length, refl, sym, ap, ◌∙◌, subst, inl, inr, arith}
use Rattle.std.specs.Prelude.{option_map, ◌&&◌, ◌||◌, not, chars, filter, nat_le, nat_lt, int_lt, int_le, option_and_then, unwrap_or, is_some, codes}
use Rattle.std.proofs.lemmas.Bool.{and_parts, and_from}
use Rattle.std.specs.Int.{w64}
use Rattle.std.specs.Str.{bytes_eq}
use Rattle.std.specs.Ordering.{is_eq, int_cmp, nat_cmp}
use Rattle.std.proofs.lemmas.Bool.Decides.{nat_tests}
use Rattle.std.proofs.lemmas.Cmp.{tied_itself}
use Rattle.std.proofs.lemmas.Int.{ints}
use Rattle.std.proofs.lemmas.List.{take_all, length-append, length-take}
use Rattle.std.proofs.lemmas.Map.Lookups.{exact_signed, exact_unsigned}
use Rattle.std.proofs.lemmas.Option.{same_Some, none-some}
use Rattle.std.proofs.lemmas.Str.{chars-IsAscii}
use Rattle.std.proofs.lemmas.Str.Ascii.{IsAscii-nil, IsAscii-cons}
use Rattle.std.specs.Str.{IsAscii}
use Rattle.jtree.specs.Data.{Data, IsTree}
use Rattle.jtree.specs.Data as tree
use Rattle.jtree.specs.Order.{kind}
use Rattle.jtree.specs.Internal.Lookups.{bool_cases, option_cases}
use Rattle.jtree.specs.Internal.OrderLaws.{tree_total}
use Rattle.jtree.specs.Internal.Rising.{Among, among_left, among_right, among_parts}
use Rattle.schema.specs.Document.Places.{Step, Place, property, map_value, items, all_of, any_of, one_of, negation}
use Rattle.schema.specs.Nodes.Node.{Validations, validations, Branches, Node, node, scalar, object, map as map_node, list, open_, Fields, no_fields, field, IsNode}
use Rattle.schema.specs.Nodes.ByPlace.{field_at, node_below, node_at}
use Rattle.schema.specs.declared.node.Constraints.{Constraints}
use Rattle.schema.specs.declared.node.ScalarKind.{ScalarKind}
use Rattle.schema.specs.declared.node.ScalarKind.TheVariants.{Boolean, Integer, Number, String, IntOrString}
use Rattle.stored.specs.Objects.Becomes.{IsStored}
use Rattle.stored.specs.Objects.Tests.{accepts_scalar, is_same, is_below, is_above, is_below_minimum, is_above_maximum, meets_constraints, meets_branch, holds}
use Rattle.explain.specs.Paths.FieldPath.{FieldPath, place_step, place_of}
use Rattle.explain.specs.Paths.PathText.{path_text}
use Rattle.plan.specs.Pools.Pools.{Pools, standard, entries_in, list_at, fixed_at}
use Rattle.jtree.specs.Path.{member_at, under}
use Rattle.schema.specs.Rules.Keywords.{text_under}
use Rattle.std.specs.Option.{option_to_list}
use Rattle.std.specs.List.{fold}
use Rattle.plan.specs.Samples.Leasts.{leasts}
use Rattle.plan.specs.Samples.Over.{is_in, scalars_of, scalars_for, IsOver}
use Rattle.plan.specs.Internal.LeastLaws.{is_number, least_in, none_lesser}
use Rattle.suggest.specs.Suggested.Scalars.{in_scalar, in_branches, in_scalars, in_fields}
use Rattle.suggest.specs.Suggested.Values.{fits_64_bits, with_neighbours, written_bounds, bounds_with_neighbours, longest, short_length, short_lengths, all_integers, all_lengths}
use Rattle.suggest.specs.Suggested.Document.{letters, suggested_integers, suggested_strings, members_from, general_of, nothing_wanted, suggestions_by}
use Rattle.suggest.specs.Suggested.Reached.{HasBoundsAlone, IsBounded, IsWithinReach, suggested_alone, HasCandidateLike}
use Rattle.suggest.specs.Suggested.Chosen.{with_value, chosen_values}
use Rattle.suggest.specs.Suggested.Formats.{texts_of_format}
use Rattle.suggest.specs.Suggested.LeafValues.{General, takes, lists_itself, takes_texts_alone, takes_numbers, other_number, other_bounds, own_values, format_values, few, others_of, general_values, hinted_from, hinted_values, leaf_values}
use Rattle.suggest.specs.Suggested.Lists.{Entry, lists_at}
use Rattle.suggest.specs.Suggested.Varied.{Suggestions}
use Rattle.suggest.proofs.AscendingLemmas.{ascending_has}
use Rattle.suggest.proofs.FitLemmas.{integer_fits}
use Rattle.suggest.proofs.FormLemmas.{listed_back, pool_fixed, pool_paths, pool_integers, pool_strings}
use Rattle.suggest.proofs.GoodLemmas.{value_of_entry, among_taken, among_kept}
use Rattle.suggest.proofs.PathLemmas.{lists_listed}
use Rattle.suggest.proofs.LeafValueLemmas.{StoredLaw}

-- ---- what is found at a node is found from the root

field_found : {X : Type 0} (f : Constraints → List X) (fs : Fields) (k : List ℕ) (M : Node) (x : X) → option_map (λ d. d.node) (field_at k fs) ≡ Some M → Among (in_scalars f M) x → Among (in_fields f fs) x
field_found f no_fields k M x is a = absurd (none-some M is)
field_found f (field l N required default fs) k M x is a = elim (bool_cases (bytes_eq k l)) [
  | inl t ↦ among_left (in_scalars f N) (in_fields f fs) x (subst (λ K. Among (in_scalars f K) x) (sym (same_Some N M (rw t at is))) a)
  | inr o ↦ among_right (in_scalars f N) (in_fields f fs) x (field_found f fs k M x (rw o at is) a)
]

below_found : {X : Type 0} (f : Constraints → List X) (N : Node) (s : Step) (M : Node) (x : X) → node_below N s ≡ Some M → Among (in_scalars f M) x → Among (in_scalars f N) x
below_found f (node nullable description (object fs preserves type bounds cs)) (property k) M x is a = field_found f fs k M x is a
below_found f (node nullable description (map_node K type bounds)) map_value M x is a = subst (λ K. Among (in_scalars f K) x) (sym (same_Some K M is)) a
below_found f (node nullable description (list K type keys bounds)) items M x is a = subst (λ K. Among (in_scalars f K) x) (sym (same_Some K M is)) a
below_found f N s M x is a = absurd (none-some M is)

found : {X : Type 0} (f : Constraints → List X) (N : Node) (p : Place) (M : Node) (x : X) → node_at N p ≡ Some M → Among (in_scalars f M) x → Among (in_scalars f N) x
found f N [] M x is a = subst (λ K. Among (in_scalars f K) x) (sym (same_Some N M is)) a
found f N (s ∷ p) M x is a = elim (option_cases (node_below N s)) [
  | inl none ↦ absurd (none-some M (rw none at is))
  | inr K ↦ below_found f N s K.0 x K.1 (found f K.0 p M x (rw K.1 at is) a)
]

own_found : {X : Type 0} (f : Constraints → List X) (t : Constraints) (all any one negated : Branches) (x : X) → Among (f t) x → Among (in_scalar f (validations t all any one negated)) x
own_found f t all any one negated x a = among_left (f t) (in_branches f all ++ (in_branches f any ++ (in_branches f one ++ in_branches f negated))) x a

-- ---- an integer

record IsAllowed (min max : Option ℤ) (emin emax : Bool) (z : ℤ) : Type 0 where
  pub low : is_below_minimum min emin (tree.integer z) ≡ false
  pub high : is_above_maximum max emax (tree.integer z) ≡ false

fits : (z : ℤ) → fits_64_bits z ≡ true → FitsSigned w64 z
fits (pos n) w = record { sfits = grind (arith, nat_tests) }
fits (negsuc n) w = record { sfits = grind (arith, nat_tests) }

among_first : (z : ℤ) (zs : List ℤ) → fits_64_bits z ≡ true → Among (filter fits_64_bits (z ∷ zs)) z
among_first z zs w = rw w (inl refl)

among_later : (y z : ℤ) (zs : List ℤ) → Among (filter fits_64_bits zs) z → Among (filter fits_64_bits (y ∷ zs)) z
among_later y z zs a = elim (bool_cases (fits_64_bits y)) [ inl w ↦ rw w (inr a) | inr n ↦ rw n a ]

before_among : (z : ℤ) → fits_64_bits (z -ℤ pos 1) ≡ true → Among (with_neighbours (Some z)) (z -ℤ pos 1)
before_among z w = among_first (z -ℤ pos 1) (z ∷ (z +ℤ pos 1) ∷ []) w

own_among : (z : ℤ) → fits_64_bits z ≡ true → Among (with_neighbours (Some z)) z
own_among z w = among_later (z -ℤ pos 1) z (z ∷ (z +ℤ pos 1) ∷ []) (among_first z ((z +ℤ pos 1) ∷ []) w)

after_among : (z : ℤ) → fits_64_bits (z +ℤ pos 1) ≡ true → Among (with_neighbours (Some z)) (z +ℤ pos 1)
after_among z w = among_later (z -ℤ pos 1) (z +ℤ pos 1) (z ∷ (z +ℤ pos 1) ∷ []) (among_later z (z +ℤ pos 1) ((z +ℤ pos 1) ∷ []) (among_first (z +ℤ pos 1) [] w))

at_least : (a b : ℤ) → int_lt a b ≡ false → b ≤ℤ a
at_least a b h = grind (arith, ints)

no_less : (a b : ℤ) → b ≤ℤ a → int_lt a b ≡ false
no_less a b h = grind (arith, ints)

above : (a b : ℤ) → int_le a b ≡ false → b <ℤ a
above a b h = grind (arith, ints)

no_more : (a b : ℤ) → b <ℤ a → int_le a b ≡ false
no_more a b h = grind (arith, ints)

abbrev least_64 : ℤ
least_64 = negsuc 9223372036854775807

abbrev past_64 : ℤ
past_64 = pos 9223372036854775808

within : (z : ℤ) → FitsSigned w64 z → (least_64 ≤ℤ z) × (z <ℤ past_64)
within (pos n) f = let h = f.sfits in (omega (arith, ints), omega (arith, ints, h))
within (negsuc n) f = let h = f.sfits in (omega (arith, ints, h), omega (arith, ints))

narrow : (z : ℤ) → fits_64_bits z ≡ false → (z <ℤ least_64) ⊎ (past_64 ≤ℤ z)
narrow (pos n) h = let g : 9223372036854775808 ≤ n = grind (arith, nat_tests) in inr (omega (arith, ints))
narrow (negsuc n) h = let g : 9223372036854775808 ≤ n = grind (arith, nat_tests) in inl (omega (arith, ints))

-- a value of the list that passes the test and is beyond z by the relation
record IsNear (zs : List ℤ) (fails : Data → Bool) (Beyond : ℤ → Type 0) : Type 0 where
  pub value : ℤ
  pub fits : FitsSigned w64 value
  pub among : Among zs value
  pub passes : fails (tree.integer value) ≡ false
  pub beyond : Beyond value

abbrev AllPass : (Data → Bool) → Type 0
AllPass fails = (w : ℤ) → FitsSigned w64 w → fails (tree.integer w) ≡ false

low : (min : Option ℤ) (e : Bool) (z : ℤ) → FitsSigned w64 z → is_below_minimum min e (tree.integer z) ≡ false → IsNear (with_neighbours min) (is_below_minimum min e) (λ w. w ≤ℤ z) ⊎ AllPass (is_below_minimum min e)
low None e z f h = inr (λ w g. refl)
low (Some m) false z f h = let least = at_least z m h in elim (bool_cases (fits_64_bits m)) [
  | inl w ↦ inl (record { value = m; fits = fits m w; among = own_among m w; passes = no_less m m (omega (arith, ints)); beyond = least })
  | inr n ↦ inr (λ w g. no_less w m (elim (narrow m n) [ inl under ↦ omega (arith, ints, (within w g).0) | inr over_all ↦ absurd (omega (arith, ints, (within z f).1)) ]))
]
low (Some m) true z f h = let least = above z m h in elim (bool_cases (fits_64_bits (m +ℤ pos 1))) [
  | inl w ↦ inl (record { value = m +ℤ pos 1; fits = fits (m +ℤ pos 1) w; among = after_among m w; passes = no_more (m +ℤ pos 1) m (omega (arith, ints)); beyond = omega (arith, ints) })
  | inr n ↦ inr (λ w g. no_more w m (elim (narrow (m +ℤ pos 1) n) [ inl under ↦ omega (arith, ints, (within w g).0) | inr over_all ↦ absurd (omega (arith, ints, (within z f).1)) ]))
]

high : (max : Option ℤ) (e : Bool) (z : ℤ) → FitsSigned w64 z → is_above_maximum max e (tree.integer z) ≡ false → IsNear (with_neighbours max) (is_above_maximum max e) (λ w. z ≤ℤ w) ⊎ AllPass (is_above_maximum max e)
high None e z f h = inr (λ w g. refl)
high (Some m) false z f h = let most = at_least m z h in elim (bool_cases (fits_64_bits m)) [
  | inl w ↦ inl (record { value = m; fits = fits m w; among = own_among m w; passes = no_less m m (omega (arith, ints)); beyond = most })
  | inr n ↦ inr (λ w g. no_less m w (elim (narrow m n) [ inl under ↦ absurd (omega (arith, ints, (within z f).0)) | inr past ↦ omega (arith, ints, (within w g).1) ]))
]
high (Some m) true z f h = let most = above m z h in elim (bool_cases (fits_64_bits (m -ℤ pos 1))) [
  | inl w ↦ inl (record { value = m -ℤ pos 1; fits = fits (m -ℤ pos 1) w; among = before_among m w; passes = no_more m (m -ℤ pos 1) (omega (arith, ints)); beyond = omega (arith, ints) })
  | inr n ↦ inr (λ w g. no_more m w (elim (narrow (m -ℤ pos 1) n) [ inl under ↦ absurd (omega (arith, ints, (within z f).0)) | inr past ↦ omega (arith, ints, (within w g).1) ]))
]

-- a lesser value passes the upper bound too
falls : (max : Option ℤ) (e : Bool) (z w : ℤ) → w ≤ℤ z → is_above_maximum max e (tree.integer z) ≡ false → is_above_maximum max e (tree.integer w) ≡ false
falls None e z w le h = refl
falls (Some m) false z w le h = let most = at_least m z h in no_less m w (omega (arith, ints))
falls (Some m) true z w le h = let most = above m z h in no_more m w (omega (arith, ints))

record IsIntegerFound (t : Constraints) (zs : List ℤ) : Type 0 where
  pub value : ℤ
  pub fits : FitsSigned w64 value
  pub among : Among (pos 0 ∷ pos 1 ∷ zs) value
  pub allowed : IsAllowed t.minimum t.maximum t.exclusive_minimum t.exclusive_maximum value

integer_found : (t : Constraints) (zs : List ℤ) → ((w : ℤ) → Among (bounds_with_neighbours t) w → Among zs w) → (z : ℤ) → FitsSigned w64 z
    → IsAllowed t.minimum t.maximum t.exclusive_minimum t.exclusive_maximum z → IsIntegerFound t zs
integer_found t zs all z f a = elim (low t.minimum t.exclusive_minimum z f a.low) [
  | inl l ↦ record {
    value = l.value;
    fits = l.fits;
    among = inr (inr (all l.value (among_left (with_neighbours t.minimum) (with_neighbours t.maximum ++ written_bounds t.written) l.value l.among)));
    allowed = record { low = l.passes; high = falls t.maximum t.exclusive_maximum z l.value l.beyond a.high };
  }
  | inr below ↦ elim (high t.maximum t.exclusive_maximum z f a.high) [
    | inl h ↦ record {
      value = h.value;
      fits = h.fits;
      among = inr (inr (all h.value (among_right (with_neighbours t.minimum) (with_neighbours t.maximum ++ written_bounds t.written) h.value (among_left (with_neighbours t.maximum) (written_bounds t.written) h.value h.among))));
      allowed = record { low = below h.value h.fits; high = h.passes };
    }
    | inr upper ↦ let zero_fits = fits (pos 0) refl in record { value = pos 0; fits = zero_fits; among = inl refl; allowed = record { low = below (pos 0) zero_fits; high = upper (pos 0) zero_fits } }
  ]
]

-- ---- a text

short_among : (n : ℕ) → n ≤ longest → Among (short_length (Some n)) n
short_among n h = let t : nat_le n longest ≡ true = grind (arith, nat_tests) in rw t (inl refl)

most_found : (most : Option ℕ) (n : ℕ) → is_above most n ≡ false → ((m : ℕ) × Among (1 ∷ short_length most) m × (is_above most m ≡ false))
most_found None n h = (1, inl refl, refl)
most_found (Some zero) n h = (0, inr (short_among 0 (omega arith)), refl)
most_found (Some (suc m)) n h = (1, inl refl, grind (arith, nat_tests))

wider : (n : ℕ) (xs ys : List ℕ) → ((w : ℕ) → Among xs w → Among ys w) → Among (1 ∷ xs) n → Among (1 ∷ ys) n
wider n xs ys h (inl e) = inl e
wider n xs ys h (inr a) = inr (h n a)

above_falls : (most : Option ℕ) (n l : ℕ) → l ≤ n → is_above most n ≡ false → is_above most l ≡ false
above_falls None n l le h = refl
above_falls (Some m) n l le h = grind (arith, nat_tests)

least_found : (least most : Option ℕ) (n : ℕ) → n ≤ longest → is_below least n ≡ false → is_above most n ≡ false
    → (m : ℕ) × Among (1 ∷ short_length least ++ short_length most) m × (is_below least m ≡ false) × (is_above most m ≡ false)
least_found None most n short low high = let r = most_found most n high in (r.0, r.1, refl, r.2)
least_found (Some l) most n short low high =
    let le : l ≤ n = grind (arith, nat_tests) in
    (l, inr (among_left (short_length (Some l)) (short_length most) l (short_among l (omega arith))), grind (arith, nat_tests), above_falls most n l le high)

letters_ascii : (n : ℕ) → IsAscii (letters n)
letters_ascii zero = IsAscii-nil
letters_ascii (suc n) = IsAscii-cons 97 (letters n) (omega arith) (letters_ascii n)

pub letters_length : (n : ℕ) → length (letters n) ≡ n
letters_length zero = refl
letters_length (suc n) = ap suc (letters_length n)

letters_count : (n : ℕ) → length (chars (letters n)) ≡ n
letters_count n = ap length (chars-IsAscii (letters n) (letters_ascii n)) ∙ letters_length n

-- ---- what is among the values of the pools is listed

or_true : (b : Bool) → (b || true) ≡ true
or_true true = refl
or_true false = refl

is_listed : (v : Data) (ds : List Data) → Among ds v → is_in v ds ≡ true
is_listed v [] a = absurd a
is_listed v (d ∷ ds) (inl e) = let own : is_same v v ≡ true = ap is_eq (tied_itself tree_total v) in rw (e, own) refl
is_listed v (d ∷ ds) (inr a) = rw (is_listed v ds a) (or_true (is_same v d))

among_map : {X Y : Type 0} (f : X → Y) (xs : List X) (x : X) → Among xs x → Among (map f xs) (f x)
among_map f [] x a = absurd a
among_map f (z ∷ xs) x (inl e) = inl (ap f e)
among_map f (z ∷ xs) x (inr a) = inr (among_map f xs x a)

boolean_listed : (P : Pools) (b : Bool) → is_in (tree.boolean b) (scalars_of P) ≡ true
boolean_listed P false = is_listed (tree.boolean false) (scalars_of P) (inl refl)
boolean_listed P true = is_listed (tree.boolean true) (scalars_of P) (inr (inl refl))

integer_listed : (P : Pools) (z : ℤ) → Among P.integers z → is_in (tree.integer z) (scalars_of P) ≡ true
integer_listed P z a = is_listed (tree.integer z) (scalars_of P) (inr (inr (among_left (map (λ z. tree.integer z) P.integers) (map (λ t. tree.text t) P.strings) (tree.integer z) (among_map (λ z. tree.integer z) P.integers z a))))

text_listed : (P : Pools) (t : List ℕ) → Among P.strings t → is_in (tree.text t) (scalars_of P) ≡ true
text_listed P t a = is_listed (tree.text t) (scalars_of P) (inr (inr (among_right (map (λ z. tree.integer z) P.integers) (map (λ t. tree.text t) P.strings) (tree.text t) (among_map (λ t. tree.text t) P.strings t a))))

in_later : (v : Data) (ds es : List Data) → is_in v es ≡ true → is_in v (ds ++ es) ≡ true
in_later v [] es there = there
in_later v (d ∷ ds) es there = rw (in_later v ds es there) (or_true (is_same v d))

-- what is listed for all scalars is listed for those of each kind
for_kind : (kind : ScalarKind) (P : Pools) (v : Data) → is_in v (scalars_of P) ≡ true → is_in v (scalars_for kind P) ≡ true
for_kind Number P v there = in_later v P.numbers (scalars_of P) there
for_kind Boolean P v there = there
for_kind Integer P v there = there
for_kind String P v there = there
for_kind IntOrString P v there = there

-- ---- what is listed for a scalar is over the pools

no_below : (n : Bool) (d : Option (List ℕ)) (kind : ScalarKind) (cs : Validations) (s : Step) → node_below (node n d (scalar kind cs)) s ≡ None
no_below n d kind cs (property k) = refl
no_below n d kind cs map_value = refl
no_below n d kind cs items = refl
no_below n d kind cs (all_of i) = refl
no_below n d kind cs (any_of i) = refl
no_below n d kind cs (one_of i) = refl
no_below n d kind cs negation = refl

-- ---- the pools that are suggested for a schema alone

abbrev general : Node → General
general root = general_of standard root

abbrev said_alone : Data → Node → Suggestions
said_alone raw root = suggestions_by [] (general root) nothing_wanted raw root

abbrev Pool : Data → Node → Pools
Pool raw root = suggested_alone raw root

abbrev lists_alone : Data → Node → List Entry
lists_alone raw root = lists_at (general root) [] None (Some raw) [] root

fixed_none : (raw : Data) (root : Node) (text : List ℕ) → fixed_at text (Pool raw root) ≡ None
fixed_none raw root text = ap (λ ms. option_and_then entries_in (member_at text ms)) (pool_fixed standard root [] (said_alone raw root))

-- what the pools list at the path, or for all scalars of the kind
abbrev listed_at : ScalarKind → Data → Node → List ℕ → List Data
listed_at kind raw root at = unwrap_or (list_at at (Pool raw root)) (scalars_for kind (Pool raw root))

over : (raw : Data) (root : Node) (n : Bool) (d : Option (List ℕ)) (kind : ScalarKind) (t : Constraints) (all any one negated : Branches) (at : List ℕ) (v : Data) → t.choices ≡ None → is_in v (leasts (listed_at kind raw root at)) ≡ true
    → IsOver (Pool raw root) None at (node n d (scalar kind (validations t all any one negated))) v
over raw root n d kind t all any one negated at v none there [] [] = rw (none, there) refl
over raw root n d kind t all any one negated at v none there [] (s ∷ p) = tt
over raw root n d kind t all any one negated at v none there (s ∷ path) [] = tt
over raw root n d kind t all any one negated at v none there (s ∷ path) (q ∷ p) = λ M w follows leads found. absurd (none-some M (rw (no_below n d kind (validations t all any one negated) (place_step q)) at leads))

-- ---- the constraints of a scalar

and_true : (b : Bool) → (b && true) ≡ b
and_true true = refl
and_true false = refl

two_fail : (a b : Bool) → (not a && not b) ≡ true → (a ≡ false) × (b ≡ false)
two_fail false false e = (refl, refl)
two_fail false true e = absurd (cc)
two_fail true b e = absurd (cc)

bounds_alone : (t : Constraints) (all any one negated : Branches) (v : Data) → HasBoundsAlone (validations t all any one negated) → holds (validations t all any one negated) v ≡ meets_branch v t
bounds_alone t all any one negated v h = rw (h.1, h.2, h.3, h.4) (and_true (meets_branch v t))

integer_test : (t : Constraints) (z : ℤ) → t.choices ≡ None → t.written ≡ None
    → meets_constraints t (tree.integer z) ≡ (not (is_below_minimum t.minimum t.exclusive_minimum (tree.integer z)) && not (is_above_maximum t.maximum t.exclusive_maximum (tree.integer z)))
integer_test t z none unwritten = rw (unwritten, none, and_true) refl

low_text : (min : Option ℤ) (e : Bool) (s : List ℕ) → is_below_minimum min e (tree.text s) ≡ false
low_text None e s = refl
low_text (Some m) e s = refl

high_text : (max : Option ℤ) (e : Bool) (s : List ℕ) → is_above_maximum max e (tree.text s) ≡ false
high_text None e s = refl
high_text (Some m) e s = refl

text_test : (t : Constraints) (s : List ℕ) → t.choices ≡ None → t.written ≡ None → meets_constraints t (tree.text s) ≡ (not (is_below t.lengths.least (length (chars s))) && not (is_above t.lengths.most (length (chars s))))
text_test t s none unwritten = rw (unwritten, none, low_text t.minimum t.exclusive_minimum s, high_text t.maximum t.exclusive_maximum s) refl

same_integer : (k : ScalarKind) (z w : ℤ) → accepts_scalar k (tree.integer z) ≡ accepts_scalar k (tree.integer w)
same_integer Boolean z w = refl
same_integer Integer z w = refl
same_integer String z w = refl
same_integer Number z w = refl
same_integer IntOrString z w = refl

same_text : (k : ScalarKind) (s t : List ℕ) → accepts_scalar k (tree.text s) ≡ accepts_scalar k (tree.text t)
same_text Boolean s t = refl
same_text Integer s t = refl
same_text String s t = refl
same_text Number s t = refl
same_text IntOrString s t = refl

-- ---- values that a scalar takes

taken_parts : (k : ScalarKind) (cs : Validations) (v : Data) → (accepts_scalar k v && holds cs v) ≡ true → (accepts_scalar k v ≡ true) × (holds cs v ≡ true)
taken_parts k cs v e = and_parts (accepts_scalar k v) (holds cs v) e

-- a value of the list that is taken there and is of the kind
record IsChoice (kind_of : ScalarKind) (raw : Data) (root : Node) (at : List ℕ) (N : Node) (v : Data) : Type 0 where
  pub value : Data
  pub alike : kind value ≡ kind v
  pub tree : IsTree value
  pub stored : IsStored N value
  pub listed : is_in value (leasts (listed_at kind_of raw root at)) ≡ true

stored_integer : StoredLaw → (n : Bool) (d : Option (List ℕ)) (k : ScalarKind) (cs : Validations) (z : ℤ) → takes (node n d (scalar k cs)) (tree.integer z) ≡ true → IsStored (node n d (scalar k cs)) (tree.integer z)
stored_integer law n d k cs z e = (law (node n d (scalar k cs)) (tree.integer z)).1 (taken_parts k cs (tree.integer z) e, tt)

stored_text : StoredLaw → (n : Bool) (d : Option (List ℕ)) (k : ScalarKind) (cs : Validations) (s : List ℕ) → takes (node n d (scalar k cs)) (tree.text s) ≡ true → IsStored (node n d (scalar k cs)) (tree.text s)
stored_text law n d k cs s e = (law (node n d (scalar k cs)) (tree.text s)).1 (taken_parts k cs (tree.text s) e, tt)

-- ---- the values that are chosen

in_more : (x : Data) (xs ys : List Data) → is_in x xs ≡ true → is_in x (xs ++ ys) ≡ true
in_more x [] ys e = absurd (cc)
in_more x (y ∷ xs) ys e = elim (bool_cases (is_same x y)) [
  | inl t ↦ rw t refl
  | inr f ↦ rw f (in_more x xs ys (rw f at e))
]

in_last : (x : Data) (xs : List Data) → is_in x (xs ++ x ∷ []) ≡ true
in_last x [] = let own : is_same x x ≡ true = ap is_eq (tied_itself tree_total x) in rw own refl
in_last x (y ∷ xs) = rw (in_last x xs) (or_true (is_same x y))

with_value_has : (n : ℕ) (xs : List Data) (y : Data) → length xs < n → is_in y (with_value n xs y) ≡ true
with_value_has n xs y lt =
    let room : nat_lt (length xs) n ≡ true = grind (arith, nat_tests) in
    elim (bool_cases (is_in y xs)) [
      | inl t ↦ rw (room, t) t
      | inr f ↦ rw (room, f) (in_last y xs)
    ]

with_value_keeps : (n : ℕ) (xs : List Data) (y x : Data) → is_in x xs ≡ true → is_in x (with_value n xs y) ≡ true
with_value_keeps n xs y x e = elim (bool_cases (nat_lt (length xs) n && not (is_in y xs))) [
  | inl t ↦ rw t (in_more x xs (y ∷ []) e)
  | inr f ↦ rw f e
]

with_value_length : (n : ℕ) (xs : List Data) (y : Data) → length (with_value n xs y) ≤ length xs + 1
with_value_length n xs y = elim (bool_cases (nat_lt (length xs) n && not (is_in y xs))) [
  | inl t ↦ rw t (omega (arith, length-append xs (y ∷ [])))
  | inr f ↦ rw f (omega arith)
]

chosen_keeps : (n : ℕ) (ys xs : List Data) (x : Data) → is_in x xs ≡ true → is_in x (fold (with_value n) xs ys) ≡ true
chosen_keeps n [] xs x e = e
chosen_keeps n (y ∷ ys) xs x e = chosen_keeps n ys (with_value n xs y) x (with_value_keeps n xs y x e)

chosen_has : (n : ℕ) (ys xs : List Data) (x : Data) → length xs + length ys ≤ n → Among ys x → is_in x (fold (with_value n) xs ys) ≡ true
chosen_has n [] xs x le a = absurd a
chosen_has n (y ∷ ys) xs x le (inl e) = chosen_keeps n ys (with_value n xs y) x (subst (λ z. is_in z (with_value n xs y) ≡ true) e (with_value_has n xs y (omega arith)))
chosen_has n (y ∷ ys) xs x le (inr a) = chosen_has n ys (with_value n xs y) x (omega (arith, with_value_length n xs y)) a

with_value_only : (n : ℕ) (xs : List Data) (y x : Data) → Among (with_value n xs y) x → Among xs x ⊎ (y ≡ x)
with_value_only n xs y x a = elim (bool_cases (nat_lt (length xs) n && not (is_in y xs))) [
  | inl t ↦ elim (among_parts xs (y ∷ []) x (rw t at a)) as (λ _. Among xs x ⊎ (y ≡ x)) [ inl b ↦ inl b | inr b ↦ elim b as (λ _. Among xs x ⊎ (y ≡ x)) [ inl e ↦ inr e | inr c ↦ absurd c ] ]
  | inr f ↦ inl (rw f at a)
]

chosen_only : (n : ℕ) (ys xs : List Data) (x : Data) → Among (fold (with_value n) xs ys) x → Among xs x ⊎ Among ys x
chosen_only n [] xs x a = inl a
chosen_only n (y ∷ ys) xs x a = elim (chosen_only n ys (with_value n xs y) x a) as (λ _. Among xs x ⊎ Among (y ∷ ys) x) [
  | inl b ↦ elim (with_value_only n xs y x b) as (λ _. Among xs x ⊎ Among (y ∷ ys) x) [ inl c ↦ inl c | inr e ↦ inr (inl e) ]
  | inr b ↦ inr (inr b)
]

kept_length : {X : Type 0} (p : X → Bool) (xs : List X) → length (filter p xs) ≤ length xs
kept_length p [] = omega arith
kept_length p (x ∷ xs) = elim (bool_cases (p x)) [
  | inl t ↦ rw t (omega (arith, kept_length p xs))
  | inr f ↦ rw f (omega (arith, kept_length p xs))
]

-- ---- what is hinted for a scalar

take_first : (n : ℕ) (x : Data) (xs : List Data) → 0 < n → Among (take n (x ∷ xs)) x
take_first zero x xs lt = absurd (omega arith)
take_first (suc n) x xs lt = inl refl

among_passing : (T : Data → Bool) (xs : List Data) (x : Data) → Among xs x → T x ≡ true → Among (filter T xs) x
among_passing T [] x a t = absurd a
among_passing T (y ∷ xs) x (inl e) t = let same : T y ≡ true = subst (λ z. T z ≡ true) (sym e) t in rw same (inl e)
among_passing T (y ∷ xs) x (inr a) t = elim (bool_cases (T y)) [
  | inl s ↦ rw s (inr (among_passing T xs x a t))
  | inr f ↦ rw f (among_passing T xs x a t)
]

-- one of the few that are taken of a pool, where one is taken
record IsTaken (T : Data → Bool) (pool : List Data) : Type 0 where
  pub value : Data
  pub few : Among (take few (filter T pool)) value
  pub among : Among pool value
  pub takes : T value ≡ true

first_taken : (T : Data → Bool) (pool xs : List Data) (x : Data) → filter T pool ≡ xs → Among xs x → IsTaken T pool
first_taken T pool [] x is a = absurd a
first_taken T pool (y ∷ ys) x is a =
    let h = among_kept T pool y (subst (λ zs. Among zs y) (sym is) (inl refl)) in
    record { value = y; few = subst (λ zs. Among (take few zs) y) (sym is) (take_first few y ys (omega arith)); among = h.0; takes = h.1 }

some_taken : (T : Data → Bool) (pool : List Data) (x : Data) → Among pool x → T x ≡ true → IsTaken T pool
some_taken T pool x a t = first_taken T pool (filter T pool) x refl (among_passing T pool x a t)

option_length : (o : Option Data) → length (option_to_list o) ≤ 1
option_length None = omega arith
option_length (Some v) = omega arith

bounds_length : (N : Node) (schema : Option Data) → length (other_bounds N schema) ≤ 2
bounds_length N schema =
    let least = other_number (option_and_then (λ s. under s (codes "minimum")) schema) in
    let most = other_number (option_and_then (λ s. under s (codes "maximum")) schema) in
    elim (bool_cases (takes_numbers N)) [
      | inl t ↦ rw t (omega (arith, length-append (option_to_list least) (option_to_list most), option_length least, option_length most))
      | inr f ↦ rw f (omega arith)
    ]

own_length : (N : Node) (default schema : Option Data) → length (own_values N default schema) ≤ 4
own_length N default schema =
    let example = option_and_then (λ s. under s (codes "example")) schema in
    let rest = option_to_list example ++ other_bounds N schema in
    omega (arith, kept_length (takes N) (option_to_list default ++ rest), length-append (option_to_list default) rest, length-append (option_to_list example) (other_bounds N schema), option_length default, option_length example, bounds_length N schema)

few_length : (T : Data → Bool) (pool : List Data) → length (take few (filter T pool)) ≤ 30
few_length T pool = omega (arith, length-take few (filter T pool))

hinted_has : (own general : List Data) (y : Data) → (hinted_from own [] general ≡ [] → ⊥) → Among general y → Among (hinted_from own [] general) y
hinted_has [] general y some a = absurd (some refl)
hinted_has (x ∷ own) general y some a = among_right (x ∷ own) general y a

hinted_length : (own general : List Data) → length (hinted_from own [] general) ≤ length own + length general
hinted_length [] general = omega arith
hinted_length (x ∷ own) general = omega (arith, length-append (x ∷ own) general)

hinted_only : (own texts general : List Data) (y : Data) → Among (hinted_from own texts general) y → Among own y ⊎ (Among texts y ⊎ Among general y)
hinted_only [] [] general y a = absurd a
hinted_only (x ∷ own) [] general y a = elim (among_parts (x ∷ own) general y a) [ inl b ↦ inl b | inr b ↦ inr (inr b) ]
hinted_only [] (t ∷ texts) general y a = inr (inl a)
hinted_only (x ∷ own) (t ∷ texts) general y a = elim (among_parts (x ∷ own) (t ∷ texts) y a) [ inl b ↦ inl b | inr b ↦ inr (inl b) ]

none_chosen : (n : ℕ) (xs : List Data) → xs ≡ [] → chosen_values n xs ≡ []
none_chosen n xs e = ap (chosen_values n) e

-- what is listed for the node at a path, where there is a list
record IsHinted (root N : Node) (ds : List Data) : Type 0 where
  pub default : Option Data
  pub schema : Option Data
  pub is : ds ≡ chosen_values 64 (hinted_values (general root) N default schema)
  pub some : ds ≡ [] → ⊥

abbrev OneText : Type 0
OneText = (p q : FieldPath) → path_text p ≡ path_text q → p ≡ q

list_found : OneText → (raw : Data) (root : Node) → IsNode root → (p : FieldPath) (N : Node) → node_at root (place_of p) ≡ Some N → (ds : List Data) → list_at (path_text p) (Pool raw root) ≡ Some ds → IsHinted root N ds
list_found one raw root ordered p N there ds found =
    let es = take standard.entries (lists_alone raw root) in
    let listed : option_and_then entries_in (member_at (path_text p) (members_from es)) ≡ Some ds =
    subst (λ ms. option_and_then entries_in (member_at (path_text p) ms) ≡ Some ds) (pool_paths standard root [] (said_alone raw root)) found in
    elim (option_cases (member_at (path_text p) (members_from es))) [
      | inl none ↦ absurd (none-some ds (rw none at listed))
      | inr m ↦
          let e = value_of_entry es (path_text p) m.0 m.1 in
          let values : ds ≡ e.entry.values = same_Some ds e.entry.values (sym (rw m.1 at listed) ∙ (ap entries_in (sym e.value) ∙ ap Some (listed_back e.entry.values))) in
          let l = lists_listed (general root) [] None (Some raw) [] root ordered e.entry (among_taken standard.entries (lists_alone raw root) e.entry e.among) in
          let path : l.leaf.path ≡ p = one l.leaf.path p (sym l.leaf.is ∙ e.is) in
          let same : l.leaf.node ≡ N = same_Some l.leaf.node N (sym (subst (λ q. node_at root (place_of q) ≡ Some l.leaf.node) path l.leaf.there) ∙ there) in
          record {
            default = l.default;
            schema = l.schema;
            is = values ∙ (l.values ∙ λ j. leaf_values (general root) (l.none refl j) l.default l.schema (same j));
            some = λ none. l.some (sym values ∙ none);
          }
    ]

-- a value of the pools that is taken is in the list, where no text of a format comes before
general_in : (root N : Node) (ds : List Data) (h : IsHinted root N ds) → lists_itself N ≡ false → takes_texts_alone N ≡ false → length (general_values (general root) N) ≤ 60 → (y : Data) → Among (general_values (general root) N) y → is_in y ds ≡ true
general_in root N ds h itself alone short y a =
    let G = general root in
    let own = own_values N h.default h.schema in
    let gen = general_values G N in
    let hinted : hinted_values G N h.default h.schema ≡ hinted_from own [] gen = rw (itself, alone) refl in
    let some : hinted_from own [] gen ≡ [] → ⊥ = λ e. h.some (h.is ∙ none_chosen 64 (hinted_values G N h.default h.schema) (hinted ∙ e)) in
    let among = hinted_has own gen y some a in
    subst (λ xs. is_in y xs ≡ true) (sym (h.is ∙ ap (chosen_values 64) hinted))
    (chosen_has 64 (hinted_from own [] gen) [] y (omega (arith, hinted_length own gen, own_length N h.default h.schema, short)) among)

hinted_taken : (G : General) (n : Bool) (d : Option (List ℕ)) (k : ScalarKind) (cs : Validations) (default schema : Option Data) (y : Data)
    → Among (hinted_values G (node n d (scalar k cs)) default schema) y → takes (node n d (scalar k cs)) y ≡ true
hinted_taken G n d k cs default schema y a =
    let N = node n d (scalar k cs) in
    let few_taken = λ (pool : List Data) (b : Among (take few (filter (takes N) pool)) y). (among_kept (takes N) pool y (among_taken few (filter (takes N) pool) y b)).1 in
    elim (bool_cases (lists_itself N)) [
      | inl t ↦ absurd (rw t at a)
      | inr f ↦ elim (hinted_only (own_values N default schema) (format_values N schema) (general_values G N) y (rw f at a)) [
        | inl b ↦ (among_kept (takes N) (option_to_list default ++ (option_to_list (option_and_then (λ s. under s (codes "example")) schema) ++ other_bounds N schema)) y b).1
        | inr (inl b) ↦ elim (bool_cases (takes_texts_alone N)) [
          | inl t ↦ (among_kept (takes N) (map (λ s. tree.text s) (texts_of_format (unwrap_or (option_and_then (λ s. text_under s (codes "format")) schema) []))) y (rw t at b)).1
          | inr g ↦ absurd (rw g at b)
        ]
        | inr (inr b) ↦ elim (among_parts (take few (filter (takes N) G.integers)) (take few (filter (takes N) (others_of G N))) y b) [ inl c ↦ few_taken G.integers c | inr c ↦ few_taken (others_of G N) c ]
      ]
    ]

-- ---- a choice

-- what is no number has no lesser one of its value
no_lesser : (v : Data) (ds : List Data) → is_number v ≡ false → is_in v ds ≡ true → is_in v (leasts ds) ≡ true
no_lesser v ds other there = least_in v ds there (none_lesser v ds other)

first_choice : (kind : ScalarKind) (raw : Data) (root : Node) (at : List ℕ) (ds : List Data) (v : Data) → is_number v ≡ false → list_at at (Pool raw root) ≡ Some ds → is_in v ds ≡ true
    → is_in v (leasts (listed_at kind raw root at)) ≡ true
first_choice kind raw root at ds v other e is = no_lesser v (listed_at kind raw root at) other (subst (λ xs. is_in v xs ≡ true) (sym (ap (λ o. unwrap_or o (scalars_for kind (Pool raw root))) e)) is)

pool_choice : (kind : ScalarKind) (raw : Data) (root : Node) (at : List ℕ) (v : Data) → is_number v ≡ false → list_at at (Pool raw root) ≡ None → is_in v (scalars_of (Pool raw root)) ≡ true
    → is_in v (leasts (listed_at kind raw root at)) ≡ true
pool_choice kind raw root at v other e is =
    no_lesser v (listed_at kind raw root at) other (subst (λ xs. is_in v xs ≡ true) (sym (ap (λ o. unwrap_or o (scalars_for kind (Pool raw root))) e)) (for_kind kind (Pool raw root) v is))

mapped : (P : Data → Type 0) {X : Type 0} (f : X → Data) (xs : List X) → ((x : X) → Among xs x → P (f x)) → (d : Data) → Among (map f xs) d → P d
mapped P f [] h d a = absurd a
mapped P f (x ∷ xs) h d (inl e) = subst P e (h x (inl refl))
mapped P f (x ∷ xs) h d (inr a) = mapped P f xs (λ y b. h y (inr b)) d a

record IsFitting (y : Data) : Type 0 where
  pub integer : ℤ
  pub fits : FitsSigned w64 integer
  pub is : tree.integer integer ≡ y

pool_fitting : (root : Node) (y : Data) → Among (suggested_integers root) y → IsFitting y
pool_fitting root y a = mapped IsFitting (λ z. tree.integer z) (take standard.entries (all_integers root))
    (λ z b. record { integer = z; fits = fits z (integer_fits root z (among_taken standard.entries (all_integers root) z b)); is = refl }) y a

record IsLettered (y : Data) : Type 0 where
  pub text : List ℕ
  pub is : tree.text text ≡ y

pool_lettered : (root : Node) (y : Data) → Among (suggested_strings root) y → IsLettered y
pool_lettered root y a = mapped IsLettered (λ n. tree.text (letters n)) (take standard.entries (all_lengths root)) (λ n b. record { text = letters n; is = refl }) y a

general_length : (root : Node) (n : Bool) (d : Option (List ℕ)) (k : ScalarKind) (cs : Validations) → length (general_values (general root) (node n d (scalar k cs))) ≤ 60
general_length root n d k cs =
    let T = takes (node n d (scalar k cs)) in
    let others = others_of (general root) (node n d (scalar k cs)) in
    omega (arith, length-append (take few (filter T (suggested_integers root))) (take few (filter T others)), few_length T (suggested_integers root), few_length T others)

integer_choice : StoredLaw → (raw : Data) (root : Node) (at : List ℕ) (n : Bool) (d : Option (List ℕ)) (k : ScalarKind) (cs : Validations) (ds : List Data) (z v : ℤ) → list_at at (Pool raw root) ≡ Some ds → IsHinted root (node n d (scalar k cs)) ds
    → lists_itself (node n d (scalar k cs)) ≡ false → takes_texts_alone (node n d (scalar k cs)) ≡ false → Among (suggested_integers root) (tree.integer z) → takes (node n d (scalar k cs)) (tree.integer z) ≡ true
    → IsChoice k raw root at (node n d (scalar k cs)) (tree.integer v)
integer_choice law raw root at n d k cs ds z v found h itself alone among taken =
    let N = node n d (scalar k cs) in
    let c = some_taken (takes N) (suggested_integers root) (tree.integer z) among taken in
    let f = pool_fitting root c.value c.among in
    let general_has = among_left (take few (filter (takes N) (suggested_integers root))) (take few (filter (takes N) (others_of (general root) N))) c.value c.few in
    record {
      value = tree.integer f.integer;
      alike = refl;
      tree = f.fits;
      stored = stored_integer law n d k cs f.integer (subst (λ y. takes N y ≡ true) (sym f.is) c.takes);
      listed = first_choice k raw root at ds (tree.integer f.integer) refl found (subst (λ y. is_in y ds ≡ true) (sym f.is) (general_in root N ds h itself alone (general_length root n d k cs) c.value general_has));
    }

text_choice : StoredLaw → (raw : Data) (root : Node) (at : List ℕ) (n : Bool) (d : Option (List ℕ)) (cs : Validations) (ds : List Data) (s v : List ℕ) → list_at at (Pool raw root) ≡ Some ds → IsHinted root (node n d (scalar IntOrString cs)) ds
    → lists_itself (node n d (scalar IntOrString cs)) ≡ false → takes_texts_alone (node n d (scalar IntOrString cs)) ≡ false → Among (suggested_strings root) (tree.text s) → takes (node n d (scalar IntOrString cs)) (tree.text s) ≡ true
    → IsChoice IntOrString raw root at (node n d (scalar IntOrString cs)) (tree.text v)
text_choice law raw root at n d cs ds s v found h itself alone among taken =
    let N = node n d (scalar IntOrString cs) in
    let c = some_taken (takes N) (suggested_strings root) (tree.text s) among taken in
    let f = pool_lettered root c.value c.among in
    let general_has = among_right (take few (filter (takes N) (suggested_integers root))) (take few (filter (takes N) (suggested_strings root))) c.value c.few in
    record {
      value = tree.text f.text;
      alike = refl;
      tree = tt;
      stored = stored_text law n d IntOrString cs f.text (subst (λ y. takes N y ≡ true) (sym f.is) c.takes);
      listed = first_choice IntOrString raw root at ds (tree.text f.text) refl found (subst (λ y. is_in y ds ≡ true) (sym f.is) (general_in root N ds h itself alone (general_length root n d IntOrString cs) c.value general_has));
    }

-- where texts alone are taken, each value of the list is a text
string_value : StoredLaw → (raw : Data) (root : Node) (at : List ℕ) (n : Bool) (d : Option (List ℕ)) (cs : Validations) (ds : List Data) (v : List ℕ) (y : Data) → list_at at (Pool raw root) ≡ Some ds → is_in y ds ≡ true
    → takes (node n d (scalar String cs)) y ≡ true → IsChoice String raw root at (node n d (scalar String cs)) (tree.text v)
string_value law raw root at n d cs ds v (tree.text s) found listed taken =
    record { value = tree.text s; alike = refl; tree = tt; stored = stored_text law n d String cs s taken; listed = first_choice String raw root at ds (tree.text s) refl found listed }
string_value law raw root at n d cs ds v tree.null found listed taken = absurd (cc)
string_value law raw root at n d cs ds v (tree.boolean b) found listed taken = absurd (cc)
string_value law raw root at n d cs ds v (tree.integer z) found listed taken = absurd (cc)
string_value law raw root at n d cs ds v (tree.number s) found listed taken = absurd (cc)
string_value law raw root at n d cs ds v (tree.list es) found listed taken = absurd (cc)
string_value law raw root at n d cs ds v (tree.object ms) found listed taken = absurd (cc)

string_choice : StoredLaw → (raw : Data) (root : Node) (at : List ℕ) (n : Bool) (d : Option (List ℕ)) (cs : Validations) (ds : List Data) (v : List ℕ) → list_at at (Pool raw root) ≡ Some ds → IsHinted root (node n d (scalar String cs)) ds
    → IsChoice String raw root at (node n d (scalar String cs)) (tree.text v)
string_choice law raw root at n d cs [] v found h = absurd (h.some refl)
string_choice law raw root at n d cs (y ∷ ys) v found h =
    let N = node n d (scalar String cs) in
    let among = subst (λ xs. Among xs y) h.is (inl refl) in
    let hinted : Among (hinted_values (general root) N h.default h.schema) y = elim (chosen_only 64 (hinted_values (general root) N h.default h.schema) [] y among) [ inl none ↦ absurd none | inr a ↦ a ] in
    string_value law raw root at n d cs (y ∷ ys) v y found (is_listed y (y ∷ ys) (inl refl)) (hinted_taken (general root) n d String cs h.default h.schema y hinted)

-- ---- a candidate

chosen_candidate : (raw : Data) (root : Node) (p : FieldPath) (n : Bool) (d : Option (List ℕ)) (k : ScalarKind) (t : Constraints) (all any one negated : Branches) (v : Data) → t.choices ≡ None
    → IsChoice k raw root (path_text p) (node n d (scalar k (validations t all any one negated))) v → HasCandidateLike raw root p (node n d (scalar k (validations t all any one negated))) v
chosen_candidate raw root p n d k t all any one negated v none c = record {
  candidate = c.value;
  alike = c.alike;
  part = record {
    tree = c.tree;
    stored = c.stored;
    over = subst (λ o. IsOver (Pool raw root) o (path_text p) (node n d (scalar k (validations t all any one negated))) c.value) (sym (fixed_none raw root (path_text p)))
        (over raw root n d k t all any one negated (path_text p) c.value none c.listed);
  };
}

module _ (law : StoredLaw) (one_text : OneText) (raw : Data) (root : Node) (ordered : IsNode root) (p : FieldPath) (n : Bool) (d : Option (List ℕ)) (t : Constraints) (all any one negated : Branches)
    (bounded : HasBoundsAlone (validations t all any one negated)) where
  abbrev cs : Validations
  cs = validations t all any one negated

  no_choices : is_some t.choices ≡ false
  no_choices = ap is_some bounded.0

  reach_boolean : (k : ScalarKind) (b : Bool) → node_at root (place_of p) ≡ Some (node n d (scalar k cs)) → accepts_scalar k (tree.boolean b) ≡ true → IsStored (node n d (scalar k cs)) (tree.boolean b) → IsChoice k raw root (path_text p) (node n d (scalar k cs)) (tree.boolean b)
  reach_boolean Integer b there accepted stored = absurd (cc)
  reach_boolean String b there accepted stored = absurd (cc)
  reach_boolean Number b there accepted stored = absurd (cc)
  reach_boolean IntOrString b there accepted stored = absurd (cc)
  reach_boolean Boolean b there accepted stored = elim (option_cases (list_at (path_text p) (Pool raw root))) [
    | inl none ↦ record { value = tree.boolean b; alike = refl; tree = tt; stored = stored; listed = pool_choice Boolean raw root (path_text p) (tree.boolean b) refl none (boolean_listed (Pool raw root) b) }
    | inr f ↦ let h = list_found one_text raw root ordered p (node n d (scalar Boolean cs)) there f.0 f.1 in absurd (h.some h.is)
  ]

  listed_integer : (k : ScalarKind) (z v : ℤ) → node_at root (place_of p) ≡ Some (node n d (scalar k cs)) → accepts_scalar k (tree.integer z) ≡ true → holds cs (tree.integer z) ≡ true → Among (suggested_integers root) (tree.integer z)
      → (ds : List Data) → list_at (path_text p) (Pool raw root) ≡ Some ds → IsChoice k raw root (path_text p) (node n d (scalar k cs)) (tree.integer v)
  listed_integer Boolean z v there accepted asked among ds found = absurd (cc)
  listed_integer String z v there accepted asked among ds found = absurd (cc)
  listed_integer Integer z v there accepted asked among ds found =
      integer_choice law raw root (path_text p) n d Integer cs ds z v found (list_found one_text raw root ordered p (node n d (scalar Integer cs)) there ds found) no_choices refl among (and_from _ _ accepted asked)
  listed_integer Number z v there accepted asked among ds found =
      integer_choice law raw root (path_text p) n d Number cs ds z v found (list_found one_text raw root ordered p (node n d (scalar Number cs)) there ds found) no_choices refl among (and_from _ _ accepted asked)
  listed_integer IntOrString z v there accepted asked among ds found =
      integer_choice law raw root (path_text p) n d IntOrString cs ds z v found (list_found one_text raw root ordered p (node n d (scalar IntOrString cs)) there ds found) no_choices refl among (and_from _ _ accepted asked)

  listed_text : (k : ScalarKind) (s v : List ℕ) → node_at root (place_of p) ≡ Some (node n d (scalar k cs)) → accepts_scalar k (tree.text s) ≡ true → holds cs (tree.text s) ≡ true → Among (suggested_strings root) (tree.text s)
      → (ds : List Data) → list_at (path_text p) (Pool raw root) ≡ Some ds → IsChoice k raw root (path_text p) (node n d (scalar k cs)) (tree.text v)
  listed_text Boolean s v there accepted asked among ds found = absurd (cc)
  listed_text Integer s v there accepted asked among ds found = absurd (cc)
  listed_text Number s v there accepted asked among ds found = absurd (cc)
  listed_text String s v there accepted asked among ds found =
      string_choice law raw root (path_text p) n d cs ds v found (list_found one_text raw root ordered p (node n d (scalar String cs)) there ds found)
  listed_text IntOrString s v there accepted asked among ds found =
      text_choice law raw root (path_text p) n d cs ds s v found (list_found one_text raw root ordered p (node n d (scalar IntOrString cs)) there ds found) no_choices refl among (and_from _ _ accepted asked)

  reach_value : (k : ScalarKind) (v : Data) → node_at root (place_of p) ≡ Some (node n d (scalar k cs)) → IsTree v → IsStored (node n d (scalar k cs)) v → IsWithinReach root v → IsChoice k raw root (path_text p) (node n d (scalar k cs)) v
  reach_value k tree.null there sound stored within = absurd within
  reach_value k (tree.number s) there sound stored within = absurd within
  reach_value k (tree.list ds) there sound stored within = absurd within
  reach_value k (tree.object ms) there sound stored within = absurd within
  reach_value k (tree.boolean b) there sound stored within = reach_boolean k b there ((law (node n d (scalar k cs)) (tree.boolean b)).0 stored).0.0 stored
  reach_value k (tree.integer z) there sound stored within =
      let N = node n d (scalar k cs) in
      let here = ((law N (tree.integer z)).0 stored).0 in
      let both = two_fail _ _ (sym (bounds_alone t all any one negated (tree.integer z) bounded ∙ integer_test t z bounded.0 bounded.5) ∙ here.1) in
      let r = integer_found t (in_scalars bounds_with_neighbours root) (λ w a. found bounds_with_neighbours root (place_of p) N w there (own_found bounds_with_neighbours t all any one negated w a)) z sound (record { low = both.0; high = both.1 }) in
      let asked : holds cs (tree.integer r.value) ≡ true = bounds_alone t all any one negated (tree.integer r.value) bounded ∙ (integer_test t r.value bounded.0 bounded.5 ∙ rw (r.allowed.low, r.allowed.high) refl) in
      let accepted : accepts_scalar k (tree.integer r.value) ≡ true = same_integer k r.value z ∙ here.0 in
      let taken : Among (take standard.entries (all_integers root)) r.value =
      subst (λ zs. Among zs r.value) (sym (take_all standard.entries (all_integers root) within)) (ascending_has int_cmp exact_signed (pos 0 ∷ pos 1 ∷ in_scalars bounds_with_neighbours root) r.value r.among) in
      let among = subst (λ zs. Among zs r.value) (sym (pool_integers standard root [] (said_alone raw root))) taken in
      elim (option_cases (list_at (path_text p) (Pool raw root))) [
        | inl none ↦ record {
          value = tree.integer r.value;
          alike = refl;
          tree = r.fits;
          stored = (law N (tree.integer r.value)).1 ((accepted, asked), tt);
          listed = pool_choice k raw root (path_text p) (tree.integer r.value) refl none (integer_listed (Pool raw root) r.value among);
        }
        | inr f ↦ listed_integer k r.value z there accepted asked (among_map (λ z. tree.integer z) (take standard.entries (all_integers root)) r.value taken) f.0 f.1
      ]
  reach_value k (tree.text s) there sound stored within =
      let N = node n d (scalar k cs) in
      let here = ((law N (tree.text s)).0 stored).0 in
      let both = two_fail _ _ (sym (bounds_alone t all any one negated (tree.text s) bounded ∙ text_test t s bounded.0 bounded.5) ∙ here.1) in
      let r = least_found t.lengths.least t.lengths.most (length (chars s)) within.0 both.0 both.1 in
      let w = letters r.0 in
      let asked : holds cs (tree.text w) ≡ true = bounds_alone t all any one negated (tree.text w) bounded ∙ (text_test t w bounded.0 bounded.5 ∙ rw (letters_count r.0, r.2, r.3) refl) in
      let accepted : accepts_scalar k (tree.text w) ≡ true = same_text k w s ∙ here.0 in
      let near = wider r.0 (short_lengths t) (in_scalars short_lengths root) (λ m a. found short_lengths root (place_of p) N m there (own_found short_lengths t all any one negated m a)) r.1 in
      let taken : Among (take standard.entries (all_lengths root)) r.0 =
      subst (λ ns. Among ns r.0) (sym (take_all standard.entries (all_lengths root) within.1)) (ascending_has nat_cmp exact_unsigned (1 ∷ in_scalars short_lengths root) r.0 near) in
      let among : Among (Pool raw root).strings w = subst (λ ts. Among ts w) (sym (pool_strings standard root [] (said_alone raw root))) (among_map letters (take standard.entries (all_lengths root)) r.0 taken) in
      elim (option_cases (list_at (path_text p) (Pool raw root))) [
        | inl none ↦ record {
          value = tree.text w;
          alike = refl;
          tree = tt;
          stored = (law N (tree.text w)).1 ((accepted, asked), tt);
          listed = pool_choice k raw root (path_text p) (tree.text w) refl none (text_listed (Pool raw root) w among);
        }
        | inr f ↦ listed_text k w s there accepted asked (among_map (λ n. tree.text (letters n)) (take standard.entries (all_lengths root)) r.0 taken) f.0 f.1
      ]

pub reach : StoredLaw → OneText → (raw : Data) (root : Node) (p : FieldPath) (N : Node) (v : Data) → IsNode root → node_at root (place_of p) ≡ Some N → IsBounded N → IsTree v → IsStored N v → IsWithinReach root v → HasCandidateLike raw root p N v
reach law one_text raw root p (node n d (scalar k (validations t all any one negated))) v ordered there bounded sound stored within =
    chosen_candidate raw root p n d k t all any one negated v bounded.0 (reach_value law one_text raw root ordered p n d t all any one negated bounded k v there sound stored within)
reach law one_text raw root p (node n d (object fs preserves type bounds cs)) v ordered there bounded sound stored within = absurd bounded
reach law one_text raw root p (node n d (map_node N type bounds)) v ordered there bounded sound stored within = absurd bounded
reach law one_text raw root p (node n d (list N type keys bounds)) v ordered there bounded sound stored within = absurd bounded
reach law one_text raw root p (node n d open_) v ordered there bounded sound stored within = absurd bounded
