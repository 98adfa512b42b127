-- The least numbers of each value, as lists in order have them.
use Rattle.std.specs.Prelude.{◌≡◌, ◌⊎◌, ◌↔◌, ℕ, List, [], ◌∷◌, true, false}
use Rattle.std.proofs.Common.{refl, sym, ap, subst, ◌∙◌, inl, inr}
use Rattle.std.specs.Cmp.{IsTotalOrder, Equal-is}
use Rattle.std.specs.List.{dedup, dedup_from}
use Rattle.std.specs.Ordering.{is_lt, ordering_then, ordering_reverse}
use Rattle.std.specs.declared.cmp.Ordering.{Ordering}
use Rattle.std.specs.declared.cmp.Ordering.TheVariants.{Less, Equal, Greater}
use Rattle.std.proofs.lemmas.Bool.{and_from, and_parts, or_cases, or_left, or_right, false_from_ne_true}
use Rattle.std.proofs.lemmas.Cmp.{on_total, tied_itself}
use Rattle.std.proofs.lemmas.Float.{nan_last}
use Rattle.jtree.specs.Data.{Data, number}
use Rattle.jtree.specs.NumberOrder.{number_value, value_cmp, number_cmp}
use Rattle.jtree.specs.Order.{kind, text_cmp, rank_cmp, content_cmp, tree_cmp}
use Rattle.jtree.specs.Internal.Lookups.{bool_cases}
use Rattle.jtree.specs.Internal.OrderLaws.{rank_tied, rank_total, tree_same, tree_total}
use Rattle.jtree.specs.Internal.Rising.{Among, Rising, contains, contained}
use Rattle.jtree.specs.OnlyIntegers.{HasOnlyIntegers}
use Rattle.stored.specs.Objects.Tests.{is_same}
use Rattle.plan.specs.Samples.Leasts.{same_number, has_lesser, leasts, KeepsIntegers}
use Rattle.plan.specs.Samples.Over.{is_in}
use Rattle.plan.specs.Internal.LeastLaws.{is_lesser, is_number, least_in, in_leasts, lesser_found, lesser_from, two_numbers, none_lesser}

-- ---- what is among a list

in_among : (v : Data) (ds : List Data) → is_in v ds ≡ true → Among ds v
in_among v [] h = absurd (cc)
in_among v (d ∷ ds) h = elim (or_cases (is_same v d) (is_in v ds) h) [
  | inl here ↦ inl (sym (tree_same v d ((Equal-is (tree_cmp v d)).0 here)))
  | inr later ↦ inr (in_among v ds later)
]

same_itself : (v : Data) → is_same v v ≡ true
same_itself v = (Equal-is (tree_cmp v v)).1 (tied_itself tree_total v)

among_in : (v : Data) (ds : List Data) → Among ds v → is_in v ds ≡ true
among_in v [] a = absurd a
among_in v (d ∷ ds) (inl e) = or_left (is_same v d) (is_in v ds) (subst (λ u. is_same v u ≡ true) (sym e) (same_itself v))
among_in v (d ∷ ds) (inr a) = or_right (is_same v d) (is_in v ds) (among_in v ds a)

-- ---- lesser numbers

abbrev HasNoLesser : List Data → Data → Type 0
HasNoLesser ds v = (d : Data) → Among ds d → is_lesser d v ≡ true → ⊥

no_lesser : (v : Data) (ds : List Data) → has_lesser v ds ≡ false → HasNoLesser ds v
no_lesser v ds h d a l = let both : true ≡ false = sym (lesser_from v d ds (among_in d ds a) l) ∙ h in cc

lesser_none : (v : Data) (ds : List Data) → HasNoLesser ds v → has_lesser v ds ≡ false
lesser_none v ds h = false_from_ne_true (has_lesser v ds) (λ t. let r = lesser_found v ds t in h r.0 (in_among r.0 ds r.1) r.2)

least_among : (ds : List Data) (v : Data) → Among (leasts ds) v → Among ds v × (has_lesser v ds ≡ false)
least_among ds v a = let r = in_leasts v ds (among_in v (leasts ds) a) in (in_among v ds r.0, r.1)

among_least : (ds : List Data) (v : Data) → Among ds v → has_lesser v ds ≡ false → Among (leasts ds) v
among_least ds v a none = in_among v (leasts ds) (least_in v ds (among_in v ds a) none)

never_before : (v : Data) → is_lesser v v ≡ true → ⊥
never_before v h = let less = (and_parts (same_number v v) (is_lt (tree_cmp v v)) h).1 in let no : is_lt Equal ≡ true = rw (tied_itself tree_total v) at less in cc

-- ---- numbers of one value

value_total : IsTotalOrder value_cmp
value_total = on_total number_value nan_last

turned_number : (u v : Data) → same_number u v ≡ true → same_number v u ≡ true
turned_number (number s) (number t) h =
    let e : value_cmp s t ≡ Equal = (Equal-is (value_cmp s t)).0 h in
    let f : value_cmp t s ≡ Equal = value_total.antisymm t s ∙ ap ordering_reverse e in
    (Equal-is (value_cmp t s)).1 f
turned_number (number s) _ h = absurd (cc)
turned_number _ v h = absurd (cc)

joined_numbers : (u v w : Data) → same_number u v ≡ true → same_number v w ≡ true → same_number u w ≡ true
joined_numbers (number s) (number t) (number r) p q =
    let e : value_cmp s t ≡ Equal = (Equal-is (value_cmp s t)).0 p in
    let f : value_cmp t r ≡ Equal = (Equal-is (value_cmp t r)).0 q in
    (Equal-is (value_cmp s r)).1 (value_total.congr s t r e ∙ f)
joined_numbers (number s) (number t) _ p q = absurd (cc)
joined_numbers (number s) _ w p q = absurd (cc)
joined_numbers _ v w p q = absurd (cc)

less_first : (a b : Ordering) → ordering_then a b ≡ Less → (a ≡ Less) ⊎ (a ≡ Equal)
less_first Less b h = inl refl
less_first Equal b h = inr refl
less_first Greater b h = absurd (cc)

greater_first : (a b : Ordering) → a ≡ Greater → ordering_then a b ≡ Less → ⊥
greater_first a b e h = let no : Greater ≡ Less = rw e at h in cc

-- between two numbers there are numbers alone
number_between : (s t : List ℕ) (x : Data) → tree_cmp (number s) x ≡ Less → tree_cmp x (number t) ≡ Less → kind x ≡ 3
number_between s t x p q = elim (less_first (rank_cmp (number s) x) (content_cmp (number s) x) p) [
  | inl less ↦ absurd (greater_first (rank_cmp x (number t)) (content_cmp x (number t)) (rank_total.antisymm x (number s) ∙ ap ordering_reverse less) q)
  | inr tied ↦ sym (rank_tied (number s) x tied).1
]

value_between : (s c t : List ℕ) → value_cmp s t ≡ Equal → number_cmp s c ≡ Less → number_cmp c t ≡ Less → value_cmp c s ≡ Equal
value_between s c t same p q = elim (less_first (value_cmp s c) (text_cmp s c) p) [
  | inl less ↦ absurd (greater_first (value_cmp c t) (text_cmp c t) (value_total.antisymm c t ∙ ap ordering_reverse (sym (value_total.congr s t c same) ∙ less)) q)
  | inr tied ↦ value_total.antisymm c s ∙ ap ordering_reverse tied
]

number_at : (x : Data) → kind x ≡ 3 → (c : List ℕ) × (x ≡ number c)
number_at (number c) e = (c, refl)
number_at _ e = absurd (cc)

-- what is between numbers of one value is of this value
same_between : (u x v : Data) → same_number u v ≡ true → tree_cmp u x ≡ Less → tree_cmp x v ≡ Less → same_number x u ≡ true
same_between (number s) x (number t) h p q =
    let c = number_at x (number_between s t x p q) in
    let same : value_cmp s t ≡ Equal = (Equal-is (value_cmp s t)).0 h in
    let first : number_cmp s c.0 ≡ Less = subst (λ y. tree_cmp (number s) y ≡ Less) c.1 p in
    let last : number_cmp c.0 t ≡ Less = subst (λ y. tree_cmp y (number t) ≡ Less) c.1 q in
    subst (λ y. same_number y (number s) ≡ true) (sym c.1) ((Equal-is (value_cmp c.0 s)).1 (value_between s c.0 t same first last))
same_between (number s) x _ h p q = absurd (cc)
same_between _ x v h p q = absurd (cc)

-- ---- in order, the first of neighbours of one value are the least

abbrev Before : Data → Data → Type 0
Before u v = tree_cmp u v ≡ Less

not_both : (u v : Data) → Before u v → Before v u → ⊥
not_both u v p q = let no : Less ≡ Greater = sym q ∙ (tree_total.antisymm v u ∙ ap ordering_reverse p) in cc

less_before : (d v : Data) → is_lesser d v ≡ true → (same_number d v ≡ true) × Before d v
less_before d v h =
    let r = and_parts (same_number d v) (is_lt (tree_cmp d v)) h in
    (r.0, is_less (tree_cmp d v) r.1)
  where
    is_less : (o : Ordering) → is_lt o ≡ true → o ≡ Less
    is_less Less e = refl
    is_less Equal e = absurd (cc)
    is_less Greater e = absurd (cc)

before_less : (d v : Data) → same_number d v ≡ true → Before d v → is_lesser d v ≡ true
before_less d v same before = and_from (same_number d v) (is_lt (tree_cmp d v)) same (ap is_lt before)

abbrev IsLeast : List Data → Data → Type 0
IsLeast ds v = Among ds v × HasNoLesser ds v

kept_from : (k : Data) (xs : List Data) → Rising Before (k ∷ xs) → (v : Data) → Among (dedup_from same_number k xs) v ↔ IsLeast (k ∷ xs) v
kept_from k [] up v = (
  (λ a. (
    a,
    λ d b l. elim a [
      | inl here ↦ elim b [
        | inl there ↦ never_before v (subst (λ u. is_lesser u v ≡ true) (sym there ∙ here) l)
        | inr none ↦ none
      ]
      | inr none ↦ none
    ],
  )),
  λ h. h.0,
)
kept_from k (x ∷ xs) up v = elim (bool_cases (same_number x k)) [
  | inl same ↦
      let rest : Rising Before (k ∷ xs) = ((λ w a. up.0 w (inr a)), up.1.1) in
      let r = kept_from k xs rest v in
      let first : Before k x = up.0 x (inl refl) in
      let to : Among (dedup_from same_number k xs) v → IsLeast (k ∷ x ∷ xs) v = λ a.
      let h = r.0 a in (
        elim h.0 as (λ _. Among (k ∷ x ∷ xs) v) [ inl e ↦ inl e | inr b ↦ inr (inr b) ],
        λ d b l. elim b [
          | inl e ↦ h.1 d (inl e) l
          | inr (inr c) ↦ h.1 d (inr c) l
          | inr (inl e) ↦
              let at : is_lesser x v ≡ true = subst (λ u. is_lesser u v ≡ true) (sym e) l in
              let s = less_before x v at in
              elim h.0 [
                | inl here ↦ not_both k x first (subst (λ u. Before x u) (sym here) s.1)
                | inr later ↦ h.1 k (inl refl) (before_less k v (joined_numbers k x v (turned_number x k same) s.0) (up.0 v (inr later)))
              ]
        ],
      ) in
      let from : IsLeast (k ∷ x ∷ xs) v → Among (dedup_from same_number k xs) v = λ h.
      let fewer : HasNoLesser (k ∷ xs) v = λ d b l. elim b [ inl e ↦ h.1 d (inl e) l | inr c ↦ h.1 d (inr (inr c)) l ] in
      elim h.0 as (λ _. Among (dedup_from same_number k xs) v) [
        | inl e ↦ r.1 (inl e, fewer)
        | inr (inr c) ↦ r.1 (inr c, fewer)
        | inr (inl e) ↦ absurd (h.1 k (inl refl) (subst (λ u. is_lesser k u ≡ true) e (before_less k x (turned_number x k same) first)))
      ] in
      rw same (to, from)
  | inr other ↦
      let r = kept_from x xs up.1 v in
      let apart : same_number k x ≡ true → ⊥ = λ h. let both : true ≡ false = sym (turned_number k x h) ∙ other in cc in
      let to : Among (k ∷ dedup_from same_number x xs) v → IsLeast (k ∷ x ∷ xs) v = λ a. elim a as (λ _. IsLeast (k ∷ x ∷ xs) v) [
        | inl here ↦ (
          inl here,
          λ d b l. let s = less_before d v l in elim b [
            | inl e ↦ never_before v (subst (λ u. is_lesser u v ≡ true) (sym e ∙ here) l)
            | inr c ↦ not_both k d (up.0 d c) (subst (λ u. Before d u) (sym here) s.1)
          ],
        )
        | inr b ↦ let h = r.0 b in (
          inr h.0,
          λ d c l. elim c [
            | inr e ↦ h.1 d e l
            | inl e ↦
                let s = less_before k v (subst (λ u. is_lesser u v ≡ true) (sym e) l) in
                elim h.0 [
                  | inl here ↦ apart (subst (λ u. same_number k u ≡ true) (sym here) s.0)
                  | inr later ↦ let both : true ≡ false = sym (same_between k x v s.0 (up.0 x (inl refl)) (up.1.0 v later)) ∙ other in cc
                ]
          ],
        )
      ] in
      let from : IsLeast (k ∷ x ∷ xs) v → Among (k ∷ dedup_from same_number x xs) v = λ h. elim h.0 as (λ _. Among (k ∷ dedup_from same_number x xs) v) [
        | inl e ↦ inl e
        | inr a ↦ inr (r.1 (a, λ d b l. h.1 d (inr b) l))
      ] in
      rw other (to, from)
]

up_from : (k : Data) (xs : List Data) → Rising Before (k ∷ xs) → Rising Before (dedup_from same_number k xs)
up_from k [] up = up
up_from k (x ∷ xs) up = elim (bool_cases (same_number x k)) [
  | inl same ↦ rw same (up_from k xs ((λ w a. up.0 w (inr a)), up.1.1))
  | inr other ↦ rw other ((λ w a. up.0 w ((kept_from x xs up.1 w).0 a).0), up_from x xs up.1)
]

pub deduped : (ds : List Data) → Rising Before ds → (v : Data) → Among (dedup same_number ds) v ↔ Among (leasts ds) v
deduped [] up v = ((λ a. a), λ a. a)
deduped (k ∷ xs) up v =
    let r = kept_from k xs up v in (
      (λ a. let h = r.0 a in among_least (k ∷ xs) v h.0 (lesser_none v (k ∷ xs) h.1)),
      λ a. let h = least_among (k ∷ xs) v a in r.1 (h.0, no_lesser v (k ∷ xs) h.1),
    )

pub deduped_rises : (ds : List Data) → Rising Before ds → Rising Before (dedup same_number ds)
deduped_rises [] up = tt
deduped_rises (k ∷ xs) up = up_from k xs up

-- ---- the least ones of lists with the same elements, and of one element more

pub least_same : (ds es : List Data) → ((v : Data) → Among ds v ↔ Among es v) → (v : Data) → Among (leasts ds) v → Among (leasts es) v
least_same ds es same v a =
    let h = least_among ds v a in
    among_least es v ((same v).0 h.0) (lesser_none v es (λ d b l. no_lesser v ds h.1 d ((same d).1 b) l))

-- what is no number beside them
pub least_beside : (d : Data) (ds : List Data) → is_number d ≡ false → (v : Data) → Among (leasts (d ∷ ds)) v ↔ Among (d ∷ leasts ds) v
least_beside d ds other v = (
  (λ a.
      let h = least_among (d ∷ ds) v a in
      elim h.0 as (λ _. Among (d ∷ leasts ds) v) [
        | inl e ↦ inl e
        | inr b ↦ inr (among_least ds v b (lesser_none v ds (λ u c l. no_lesser v (d ∷ ds) h.1 u (inr c) l)))
      ]),
  λ a. elim a as (λ _. Among (leasts (d ∷ ds)) v) [
    | inl e ↦ among_least (d ∷ ds) v (inl e) (subst (λ u. has_lesser u (d ∷ ds) ≡ false) e (none_lesser d (d ∷ ds) other))
    | inr b ↦
        let h = least_among ds v b in
        among_least (d ∷ ds) v (inr h.0) (lesser_none v (d ∷ ds) (λ u c l. elim c [
          | inl e ↦ let both : false ≡ true = sym other ∙ subst (λ w. is_number w ≡ true) (sym e) (two_numbers u v l).0 in cc
          | inr m ↦ no_lesser v ds h.1 u m l
        ]))
  ],
)

-- ---- no two of them are numbers of one value

one_by : (ds : List Data) (s t : List ℕ) (o : Ordering) → tree_cmp (number s) (number t) ≡ o → is_in (number s) (leasts ds) ≡ true → is_in (number t) (leasts ds) ≡ true
    → same_number (number s) (number t) ≡ true → number s ≡ number t
one_by ds s t Equal is p q same = tree_same (number s) (number t) is
one_by ds s t Less is p q same =
    let none = no_lesser (number t) ds (in_leasts (number t) ds q).1 in
    absurd (none (number s) (in_among (number s) ds (in_leasts (number s) ds p).0) (before_less (number s) (number t) same is))
one_by ds s t Greater is p q same =
    let none = no_lesser (number s) ds (in_leasts (number s) ds p).1 in
    let turned : tree_cmp (number t) (number s) ≡ Less = tree_total.antisymm (number t) (number s) ∙ ap ordering_reverse is in
    absurd (none (number t) (in_among (number t) ds (in_leasts (number t) ds q).0) (before_less (number t) (number s) (turned_number (number s) (number t) same) turned))

pub one_number : (ds : List Data) (s t : List ℕ) → is_in (number s) (leasts ds) ≡ true → is_in (number t) (leasts ds) ≡ true → same_number (number s) (number t) ≡ true → number s ≡ number t
one_number ds s t p q same = one_by ds s t (tree_cmp (number s) (number t)) refl p q same

-- ---- what has integers alone

no_number : (v : Data) → HasOnlyIntegers v → is_number v ≡ false
no_number (number s) h = absurd h
no_number _ h = refl

pub keeps_integers : KeepsIntegers
keeps_integers ds v only c = contains (leasts ds) v (among_least ds v (contained ds v c) (none_lesser v ds (no_number v only)))
