-- What is left where of numbers of one value the least alone stays.
use Rattle.std.specs.Prelude.{◌≡◌, List, [], ◌∷◌, Bool, true, false, ◌&&◌, ◌||◌, not, filter}
use Rattle.std.proofs.Common.{refl, sym, ap, subst, inl, inr}
use Rattle.std.specs.Ordering.{is_eq, is_lt}
use Rattle.std.specs.declared.cmp.Ordering.{Ordering}
use Rattle.std.specs.declared.cmp.Ordering.TheVariants.{Less, Equal, Greater}
use Rattle.std.proofs.lemmas.Bool.{or_cases, or_left, or_right}
use Rattle.std.proofs.lemmas.Cmp.{tied_itself}
use Rattle.jtree.specs.Data.{Data, null, boolean, integer, number, text, list, object}
use Rattle.jtree.specs.Order.{tree_cmp}
use Rattle.jtree.specs.Internal.Lookups.{bool_cases}
use Rattle.jtree.specs.Internal.OrderLaws.{tree_same, tree_total}
use Rattle.stored.specs.Objects.Tests.{is_same}
use Rattle.plan.specs.Samples.Leasts.{same_number, has_lesser, leasts}
use Rattle.plan.specs.Samples.Over.{is_in}

same_tree : (v d : Data) → is_same v d ≡ true → v ≡ d
same_tree v d same = tree_same v d (tied (tree_cmp v d) same) where
  tied : (o : Ordering) → is_eq o ≡ true → o ≡ Equal
  tied Less e = absurd (cc)
  tied Equal e = refl
  tied Greater e = absurd (cc)

own_same : (v : Data) → is_same v v ≡ true
own_same v = ap is_eq (tied_itself tree_total v)

-- ---- what is kept

kept_in : (test : Data → Bool) (v : Data) (ds : List Data) → is_in v ds ≡ true → test v ≡ true → is_in v (filter test ds) ≡ true
kept_in test v [] there passes = absurd (cc)
kept_in test v (d ∷ ds) there passes = elim (or_cases (is_same v d) (is_in v ds) there) [
  | inl here ↦
      let own : test d ≡ true = subst (λ u. test u ≡ true) (same_tree v d here) passes in
      rw own (or_left (is_same v d) (is_in v (filter test ds)) here)
  | inr later ↦
      let rest = kept_in test v ds later passes in
      elim (bool_cases (test d)) [
        | inl t ↦ rw t (or_right (is_same v d) (is_in v (filter test ds)) rest)
        | inr f ↦ rw f rest
      ]
]

in_kept : (test : Data → Bool) (v : Data) (ds : List Data) → is_in v (filter test ds) ≡ true → (is_in v ds ≡ true) × (test v ≡ true)
in_kept test v [] there = absurd (cc)
in_kept test v (d ∷ ds) there = elim (bool_cases (test d)) [
  | inl t ↦
      let either : (is_same v d || is_in v (filter test ds)) ≡ true = rw t at there in
      elim (or_cases (is_same v d) (is_in v (filter test ds)) either) [
        | inl here ↦ (or_left (is_same v d) (is_in v ds) here, subst (λ u. test u ≡ true) (sym (same_tree v d here)) t)
        | inr later ↦ let r = in_kept test v ds later in (or_right (is_same v d) (is_in v ds) r.0, r.1)
      ]
  | inr f ↦ let r = in_kept test v ds (rw f at there) in (or_right (is_same v d) (is_in v ds) r.0, r.1)
]

not_true : (b : Bool) → not b ≡ true → b ≡ false
not_true true e = cc
not_true false e = refl

pub least_in : (v : Data) (ds : List Data) → is_in v ds ≡ true → has_lesser v ds ≡ false → is_in v (leasts ds) ≡ true
least_in v ds there least = kept_in (λ u. not (has_lesser u ds)) v ds there (ap not least)

pub in_leasts : (v : Data) (ds : List Data) → is_in v (leasts ds) ≡ true → (is_in v ds ≡ true) × (has_lesser v ds ≡ false)
in_leasts v ds there = let r = in_kept (λ u. not (has_lesser u ds)) v ds there in (r.0, not_true (has_lesser v ds) r.1)

-- ---- a lesser number

abbrev pub is_lesser : Data → Data → Bool
is_lesser d v = same_number d v && is_lt (tree_cmp d v)

pub lesser_found : (v : Data) (ds : List Data) → has_lesser v ds ≡ true → (d : Data) × (is_in d ds ≡ true) × (is_lesser d v ≡ true)
lesser_found v [] has = absurd (cc)
lesser_found v (d ∷ ds) has = elim (or_cases (is_lesser d v) (has_lesser v ds) has) [
  | inl here ↦ (d, or_left (is_same d d) (is_in d ds) (own_same d), here)
  | inr later ↦ let r = lesser_found v ds later in (r.0, or_right (is_same r.0 d) (is_in r.0 ds) r.1, r.2)
]

pub lesser_from : (v d : Data) (ds : List Data) → is_in d ds ≡ true → is_lesser d v ≡ true → has_lesser v ds ≡ true
lesser_from v d [] there less = absurd (cc)
lesser_from v d (e ∷ ds) there less = elim (or_cases (is_same d e) (is_in d ds) there) [
  | inl here ↦ or_left (is_lesser e v) (has_lesser v ds) (subst (λ u. is_lesser u v ≡ true) (same_tree d e here) less)
  | inr later ↦ or_right (is_lesser e v) (has_lesser v ds) (lesser_from v d ds later less)
]

-- with all of them among others, and the least there, it is the least of them
pub least_of_fewer : (v : Data) (ds es : List Data) → ((d : Data) → is_in d ds ≡ true → is_in d es ≡ true) → has_lesser v es ≡ false → has_lesser v ds ≡ false
least_of_fewer v ds es more least = elim (bool_cases (has_lesser v ds)) [
  | inl has ↦ let r = lesser_found v ds has in let no = lesser_from v r.0 es (more r.0 r.1) r.2 in cc
  | inr none ↦ none
]

none_less : (v : Data) → is_lt (tree_cmp v v) ≡ false
none_less v = rw (tied_itself tree_total v) refl

and_false : (a b : Bool) → b ≡ false → (a && b) ≡ false
and_false true b e = e
and_false false b e = refl

pub leasts_one : (v : Data) → leasts (v ∷ []) ≡ v ∷ []
leasts_one v = rw (and_false (same_number v v) (is_lt (tree_cmp v v)) (none_less v)) refl

-- ---- of what is no number

abbrev pub is_number : Data → Bool
is_number (number s) = true
is_number _ = false

pub two_numbers : (d v : Data) → is_lesser d v ≡ true → (is_number d ≡ true) × (is_number v ≡ true)
two_numbers (number s) (number t) less = (refl, refl)
two_numbers (number s) null less = absurd (cc)
two_numbers (number s) (boolean b) less = absurd (cc)
two_numbers (number s) (integer z) less = absurd (cc)
two_numbers (number s) (text t) less = absurd (cc)
two_numbers (number s) (list ds) less = absurd (cc)
two_numbers (number s) (object ms) less = absurd (cc)
two_numbers null v less = absurd (cc)
two_numbers (boolean b) v less = absurd (cc)
two_numbers (integer z) v less = absurd (cc)
two_numbers (text t) v less = absurd (cc)
two_numbers (list ds) v less = absurd (cc)
two_numbers (object ms) v less = absurd (cc)

pub none_lesser : (v : Data) (ds : List Data) → is_number v ≡ false → has_lesser v ds ≡ false
none_lesser v ds other = elim (bool_cases (has_lesser v ds)) [
  | inl has ↦ let r = lesser_found v ds has in let both = two_numbers r.0 v r.2 in cc
  | inr none ↦ none
]
