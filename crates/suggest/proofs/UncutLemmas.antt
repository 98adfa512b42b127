-- What is chosen has all, where there is less of it than may be chosen.
use Rattle.std.proofs.Common.{◌≡◌, ◌≤◌, ◌<◌, ℕ, List, [], ◌∷◌, ◌++◌, Bool, true, false, ◌||◌, ◌&&◌, not, if◌then◌else◌, length, refl, ap, subst, inl, inr, arith, length-append}
use Rattle.std.specs.Prelude.{nat_lt}
use Rattle.std.specs.List.{fold}
use Rattle.std.specs.Str.{bytes_eq}
use Rattle.std.specs.Ordering.{is_eq}
use Rattle.std.proofs.lemmas.Bool.Decides.{nat_tests}
use Rattle.std.proofs.lemmas.Cmp.{tied_itself}
use Rattle.jtree.specs.Data.{Data}
use Rattle.jtree.specs.Internal.Lookups.{bool_cases, own_name}
use Rattle.jtree.specs.Internal.OrderLaws.{tree_total}
use Rattle.jtree.specs.Internal.Rising.{Among}
use Rattle.schema.specs.Document.Texts.{is_among}
use Rattle.stored.specs.Objects.Tests.{is_same}
use Rattle.plan.specs.Samples.Over.{is_in}
use Rattle.suggest.specs.Suggested.Chosen.{chosen_values, chosen_names}

-- one more, unless it is there or there are so many
abbrev with_one : {X : Type 0} → (X → List X → Bool) → ℕ → List X → X → List X
with_one test most xs x = if nat_lt (length xs) most && not (test x xs) then xs ++ x ∷ [] else xs

record IsTest {X : Type 0} (test : X → List X → Bool) : Type 0 where
  pub stays : (x y : X) (xs : List X) → test x xs ≡ true → test x (xs ++ y ∷ []) ≡ true
  pub own : (x : X) (xs : List X) → test x (xs ++ x ∷ []) ≡ true

one_stays : {X : Type 0} (test : X → List X → Bool) (most : ℕ) → IsTest test → (x y : X) (xs : List X) → test x xs ≡ true → test x (with_one test most xs y) ≡ true
one_stays test most is x y xs h = elim (bool_cases (nat_lt (length xs) most && not (test y xs))) [
  | inl adds ↦ rw adds (is.stays x y xs h)
  | inr keeps ↦ rw keeps h
]

all_stay : {X : Type 0} (test : X → List X → Bool) (most : ℕ) → IsTest test → (ys xs : List X) (x : X) → test x xs ≡ true → test x (fold (with_one test most) xs ys) ≡ true
all_stay test most is [] xs x h = h
all_stay test most is (y ∷ ys) xs x h = all_stay test most is ys (with_one test most xs y) x (one_stays test most is x y xs h)

one_grows : {X : Type 0} (test : X → List X → Bool) (most : ℕ) (y : X) (xs : List X) → length xs ≤ length (with_one test most xs y)
one_grows test most y xs = elim (bool_cases (nat_lt (length xs) most && not (test y xs))) [
  | inl adds ↦ rw adds (omega (arith, length-append xs (y ∷ [])))
  | inr keeps ↦ rw keeps (omega arith)
]

all_grow : {X : Type 0} (test : X → List X → Bool) (most : ℕ) (ys xs : List X) → length xs ≤ length (fold (with_one test most) xs ys)
all_grow test most [] xs = omega arith
all_grow test most (y ∷ ys) xs = omega (arith, one_grows test most y xs, all_grow test most ys (with_one test most xs y))

room : (n most : ℕ) → n < most → nat_lt n most ≡ true
room n most h = grind (arith, nat_tests)

one_there : {X : Type 0} (test : X → List X → Bool) (most : ℕ) → IsTest test → (y : X) (xs : List X) → length xs < most → test y (with_one test most xs y) ≡ true
one_there test most is y xs h = elim (bool_cases (test y xs)) [
  | inl there ↦ one_stays test most is y y xs there
  | inr absent ↦ let adds : (nat_lt (length xs) most && not (test y xs)) ≡ true = rw (room (length xs) most h, absent) refl in rw adds (is.own y xs)
]

uncut : {X : Type 0} (test : X → List X → Bool) (most : ℕ) → IsTest test → (ys xs : List X) (x : X) → Among ys x → length (fold (with_one test most) xs ys) < most
    → test x (fold (with_one test most) xs ys) ≡ true
uncut test most is [] xs x a short = absurd a
uncut test most is (y ∷ ys) xs x (inl e) short =
    let few : length xs < most = omega (arith, one_grows test most y xs, all_grow test most ys (with_one test most xs y)) in
    subst (λ z. test z (fold (with_one test most) (with_one test most xs y) ys) ≡ true) e (all_stay test most is ys (with_one test most xs y) y (one_there test most is y xs few))
uncut test most is (y ∷ ys) xs x (inr a) short = uncut test most is ys (with_one test most xs y) x a short

-- ---- values

or_true : (b : Bool) → (b || true) ≡ true
or_true true = refl
or_true false = refl

or_more : (a b c : Bool) → (b ≡ true → c ≡ true) → (a || b) ≡ true → (a || c) ≡ true
or_more true b c more e = refl
or_more false b c more e = more e

pub own_same : (v : Data) → is_same v v ≡ true
own_same v = ap is_eq (tied_itself tree_total v)

value_stays : (v u : Data) (vs : List Data) → is_in v vs ≡ true → is_in v (vs ++ u ∷ []) ≡ true
value_stays v u [] e = absurd (cc)
value_stays v u (d ∷ ds) e = or_more (is_same v d) (is_in v ds) (is_in v (ds ++ u ∷ [])) (value_stays v u ds) e

value_own : (v : Data) (vs : List Data) → is_in v (vs ++ v ∷ []) ≡ true
value_own v [] = rw (own_same v) refl
value_own v (d ∷ ds) = rw (value_own v ds) (or_true (is_same v d))

values_test : IsTest is_in
values_test = record { stays = value_stays; own = value_own }

pub values_uncut : (most : ℕ) (vs : List Data) (v : Data) → Among vs v → length (chosen_values most vs) < most → is_in v (chosen_values most vs) ≡ true
values_uncut most vs v a short = uncut is_in most values_test vs [] v a short

-- one at least is chosen
pub some_chosen : (most : ℕ) (v : Data) (vs : List Data) → 0 < most → 0 < length (chosen_values most (v ∷ vs))
some_chosen most v vs h =
    let first : with_one is_in most [] v ≡ v ∷ [] = rw (room 0 most h) refl in
    let grown : length (v ∷ []) ≤ length (chosen_values most (v ∷ vs)) = subst (λ xs. length xs ≤ length (chosen_values most (v ∷ vs))) first (all_grow is_in most vs (with_one is_in most [] v)) in
    omega arith

-- ---- names

name_stays : (k l : List ℕ) (ks : List (List ℕ)) → is_among k ks ≡ true → is_among k (ks ++ l ∷ []) ≡ true
name_stays k l [] e = absurd (cc)
name_stays k l (n ∷ ks) e = or_more (bytes_eq k n) (is_among k ks) (is_among k (ks ++ l ∷ [])) (name_stays k l ks) e

name_own : (k : List ℕ) (ks : List (List ℕ)) → is_among k (ks ++ k ∷ []) ≡ true
name_own k [] = rw (own_name k) refl
name_own k (n ∷ ks) = rw (name_own k ks) (or_true (bytes_eq k n))

names_test : IsTest is_among
names_test = record { stays = name_stays; own = name_own }

pub names_uncut : (most : ℕ) (ks : List (List ℕ)) (k : List ℕ) → Among ks k → length (chosen_names most ks) < most → is_among k (chosen_names most ks) ≡ true
names_uncut most ks k a short = uncut is_among most names_test ks [] k a short
