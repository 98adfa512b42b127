-- A question has one page past a place with a count; and what is past its last sample at a larger limit.
use Rattle.std.proofs.Common.{◌≡◌, ◌⊎◌, ◌↔◌, ℕ, ◌-◌, ◌<◌, ◌≤◌, List, [], ◌∷◌, ◌++◌, length, Bool, Option, Some, refl, sym, ap, ◌∙◌, subst, inl, inr, arith, length-append, append-nil}
use Rattle.std.specs.Prelude.{All, Contains}
use Rattle.std.proofs.lemmas.Bool.{cases_lt}
use Rattle.std.proofs.lemmas.List.Elements.{All-contains}
use Rattle.jtree.specs.Data.{Data}
use Rattle.jtree.specs.Nodes.{nodes}
use Rattle.jtree.specs.Order.{tree_cmp}
use Rattle.jtree.specs.Internal.Lookups.{bool_cases}
use Rattle.jtree.specs.Internal.Rising.{Among, Rising, contained, contains, rising}
use Rattle.plan.specs.Samples.Question.{Question}
use Rattle.enumerate.specs.Limit.{at_limit, IsLastSample}
use Rattle.enumerate.specs.Page.{Precedes, IsPastSample, IsSampleOf, IsPage}
use Rattle.enumerate.proofs.walks.Least.{by_nodes, tree_order, tree_turned, not_itself}
use Rattle.enumerate.specs.Live.{IsNextSample, LendsPart}
use Rattle.enumerate.proofs.pages.Lemmas.{IsListed, IsLent, one_listed}

-- the first ones of what meets C, in order, `count` of them or all
record IsPrefix (C : Data → Type 0) (count : ℕ) (xs : List Data) : Type 0 where
  each : (v : Data) → Among xs v → C v
  ascending : Rising Precedes xs
  short : length xs ≤ count
  rest : (v : Data) → C v → Among xs v ⊎ ((u : Data) → Among xs u → Precedes u v)
  full : ((v : Data) → C v → Among xs v) ⊎ (length xs ≡ count)

page_front : (q : Question) (after : Option Data) (count : ℕ) (xs : List Data) (end : Bool) → IsPage q after count xs end → IsPrefix (IsPastSample q after) count xs
page_front q after count xs end p = record {
  each = λ v a. All-contains (IsPastSample q after) xs v p.samples (contains xs v a);
  ascending = rising Precedes xs p.ascending;
  short = p.short;
  rest = λ v c. elim (p.rest v c) [
    | inl found ↦ inl (contained xs v found)
    | inr all ↦ inr (λ u a. All-contains (λ w. Precedes w v) xs u all (contains xs u a))
  ];
  full = elim (bool_cases end) [
    | inl t ↦ inl (λ v c. contained xs v (p.exact_end.0 t v c))
    | inr f ↦ inr (p.full f)
  ];
}

front_tail : (C : Data → Type 0) (count : ℕ) (x : Data) (xs : List Data) → IsPrefix C count (x ∷ xs) → IsPrefix (λ v. C v × Precedes x v) (count - 1) xs
front_tail C count x xs f =
    let later : (v : Data) → C v × Precedes x v → (x ≡ v) ⊎ Among xs v → Among xs v =
    λ v c here. elim here [ inl same ↦ absurd (not_itself tree_cmp tree_order x v same c.1) | inr a ↦ a ] in
    record {
      each = λ v a. (f.each v (inr a), f.ascending.0 v a);
      ascending = f.ascending.1;
      short = omega (arith, f.short);
      rest = λ v c. elim (f.rest v c.0) [
        | inl here ↦ inl (later v c here)
        | inr all ↦ inr (λ u a. all u (inr a))
      ];
      full = elim f.full [
        | inl all ↦ inl (λ v c. later v c (all v c.0))
        | inr is ↦ inr (omega (arith, is))
      ];
    }

-- the first of one front is the first of the other, or after it
first_after : (C : Data → Type 0) (count : ℕ) (x y : Data) (ys : List Data) → C x → IsPrefix C count (y ∷ ys) → (y ≡ x) ⊎ Precedes y x
first_after C count x y ys c f = elim (f.rest x c) [
  | inl here ↦ elim here [ inl same ↦ inl same | inr later ↦ inr (f.ascending.0 x later) ]
  | inr all ↦ inr (all y (inl refl))
]

same_first : (C : Data → Type 0) (m n : ℕ) (x y : Data) (xs ys : List Data) → IsPrefix C m (x ∷ xs) → IsPrefix C n (y ∷ ys) → x ≡ y
same_first C m n x y xs ys f g = elim (first_after C n x y ys (f.each x (inl refl)) g) [
  | inl same ↦ sym same
  | inr before ↦ elim (first_after C m y x xs (g.each y (inl refl)) f) [
    | inl same ↦ same
    | inr after ↦ absurd (tree_turned x y after before)
  ]
]

-- where a front with no less room is empty, there is nothing for the other
none_left : (C : Data → Type 0) (m n : ℕ) (x : Data) (xs : List Data) → m ≤ n → IsPrefix C m (x ∷ xs) → IsPrefix C n [] → ⊥
none_left C m n x xs le f g = elim g.full [
  | inl all ↦ all x (f.each x (inl refl))
  | inr none ↦ omega (arith, none, le, f.short)
]

-- a front begins as each one with less room does
front_begins : (C : Data → Type 0) (m n : ℕ) (xs ys : List Data) → m ≤ n → IsPrefix C m xs → IsPrefix C n ys → (zs : List Data) × (ys ≡ xs ++ zs)
front_begins C m n [] ys le f g = (ys, refl)
front_begins C m n (x ∷ xs) [] le f g = absurd (none_left C m n x xs le f g)
front_begins C m n (x ∷ xs) (y ∷ ys) le f g =
    let same = same_first C m n x y xs ys f g in
    let back : IsPrefix C n (x ∷ ys) = subst (λ t. IsPrefix C n (t ∷ ys)) (sym same) g in
    let rest = front_begins (λ v. C v × Precedes x v) (m - 1) (n - 1) xs ys (omega (arith, le)) (front_tail C m x xs f) (front_tail C n x ys back) in
    (rest.0, λ i. sym same i ∷ rest.1 i)

nothing_joined : (xs ys zs : List Data) → ys ≡ xs ++ zs → length zs ≡ 0 → xs ≡ ys
nothing_joined xs ys [] there none = sym (there ∙ append-nil xs)
nothing_joined xs ys (z ∷ zs) there none = absurd (omega (arith, none))

same_front : (C : Data → Type 0) (count : ℕ) (xs ys : List Data) → IsPrefix C count xs → IsPrefix C count ys → xs ≡ ys
same_front C count xs ys f g =
    let (zs, there) = front_begins C count count xs ys (omega arith) f g in
    let (us, here) = front_begins C count count ys xs (omega arith) g f in
    nothing_joined xs ys zs there (omega (arith, ap length there, ap length here, length-append xs zs, length-append ys us))

-- what was listed so far is a beginning of each page with as much room
listed_begins : (q : Question) (after : Option Data) (count : ℕ) (items whole : List Data) (end : Bool) → IsListed q after count items → IsPage q after count whole end → (rest : List Data) × (whole ≡ items ++ rest)
listed_begins q after count items whole end s p =
    front_begins (IsPastSample q after) (length items) count items whole s.short front (page_front q after count whole end p)
  where
    listed : (v : Data) → Contains items v ⊎ All (λ u. Precedes u v) items → Among items v ⊎ ((u : Data) → Among items u → Precedes u v)
    listed v (inl found) = inl (contained items v found)
    listed v (inr all) = inr (λ u a. All-contains (λ w. Precedes w v) items u all (contains items u a))

    front : IsPrefix (IsPastSample q after) (length items) items
    front = record {
      each = λ v a. All-contains (IsPastSample q after) items v s.samples (contains items v a);
      ascending = rising Precedes items s.ascending;
      short = omega arith;
      rest = λ v c. listed v (s.rest v c);
      full = inr refl;
    }

pub same_items : (q : Question) (after : Option Data) (count : ℕ) (xs ys : List Data) (d e : Bool) → IsPage q after count xs d → IsPage q after count ys e → xs ≡ ys
same_items q after count xs ys d e p r = same_front (IsPastSample q after) count xs ys (page_front q after count xs d p) (page_front q after count ys e r)

pub same_end : (q : Question) (after : Option Data) (count : ℕ) (xs ys : List Data) (d e : Bool) → IsPage q after count xs d → IsPage q after count ys e → d ≡ e
same_end q after count xs ys d e p r =
    let same = same_items q after count xs ys d e p r in
    elim (bool_cases d) [
      | inl t ↦ t ∙ sym (r.exact_end.1 (subst (λ us. (v : Data) → IsPastSample q after v → Contains us v) same (p.exact_end.0 t)))
      | inr f ↦ elim (bool_cases e) [
        | inl t ↦ let d_too = p.exact_end.1 (subst (λ us. (v : Data) → IsPastSample q after v → Contains us v) (sym same) (r.exact_end.0 t)) in cc
        | inr g ↦ f ∙ sym g
      ]
    ]

-- what was lent is a beginning of the page
module _ (q : Question) (first after : Option Data) (count lent : ℕ) (start : IsNextSample q after first) where
  pub lends_part : (at : Option Data) (old new : List Data → Type 0) → ((ds : List Data) → old ds → new ds) → IsLent q first count lent old at → LendsPart q after count new
  lends_part at old new keeps l = record {
    items = l.items;
    taken = keeps l.items l.taken;
    part = λ whole end p. listed_begins q after count l.items whole end (l.page after start).listed p;
  }

  -- the same with the sample at which the enumeration was, where it could not move on
  pub lends_part_with : (old new : List Data → Type 0) (v : Data) → ((ds : List Data) → old ds → new (ds ++ v ∷ [])) → lent < count → IsLent q first count lent old (Some v) → LendsPart q after count new
  lends_part_with old new v takes room l = record {
    items = l.items ++ v ∷ [];
    taken = takes l.items l.taken;
    part = λ whole end p. listed_begins q after count (l.items ++ v ∷ []) whole end (one_listed q after count l.items v (l.page after start) (omega (arith, room, l.counted))) p;
  }

-- ---- larger limits

pub larger_sample : (q : Question) (larger : ℕ) (v : Data) → q.limit ≤ larger → IsSampleOf q v → IsSampleOf (at_limit q larger) v
larger_sample q larger v le s = record { part = s.part; within = omega (arith, le, s.within) }

pub past_last_sample : (q : Question) (larger : ℕ) (last v : Data) → IsLastSample q last
    → IsPastSample (at_limit q larger) (Some last) v ↔ (IsSampleOf (at_limit q larger) v × (q.limit < nodes v))
past_last_sample q larger last v end = (
  λ p. (
    p.sample,
    elim (cases_lt q.limit (nodes v)) [
      | inl more ↦ more
      | inr within ↦ absurd (end.none_past v (record { sample = record { part = p.sample.part; within = within }; past = p.past }))
    ],
  ),
  λ s. record { sample = s.0; past = by_nodes last v (omega (arith, end.sample.within, s.1)) },
)
