-- What follows for walks from one page past each place: the first items of a page are a page, and a page after a page is one.
use Rattle.std.proofs.Common.{◌≡◌, ℕ, zero, suc, ◌+◌, ◌<◌, ◌≤◌, List, [], ◌∷◌, ◌++◌, length, drop, Bool, false, Option, Some, None, refl, sym, ap, ◌∙◌, subst, inl, inr, arith, length-append, append-nil, append_assoc}
use Rattle.std.specs.Prelude.{All, slice_get}
use Rattle.std.proofs.lemmas.Bool.{cases_lt}
use Rattle.std.proofs.lemmas.Cmp.{tied_itself}
use Rattle.std.proofs.lemmas.List.Elements.{All-append, All-contains, Contains-append_left, Contains-append_right, Contains-append_cases}
use Rattle.jtree.specs.Data.{Data}
use Rattle.jtree.specs.Internal.OrderLaws.{tree_total}
use Rattle.jtree.specs.Internal.Rising.{Among, Rising, contained, contains, each_of, rising, all_pairs, among_left, among_right, among_parts, rising_join}
use Rattle.plan.specs.Samples.Question.{Question}
use Rattle.enumerate.specs.Page.{Precedes, IsPast, IsPastSample, IsPage}

-- what `enumerate` says of two pages of a question past the same place with the same count
abbrev ItemsAgree : Type 0
ItemsAgree = (q : Question) (after : Option Data) (count : ℕ) (xs ys : List Data) (d e : Bool) → IsPage q after count xs d → IsPage q after count ys e → xs ≡ ys

abbrev EndsAgree : Type 0
EndsAgree = (q : Question) (after : Option Data) (count : ℕ) (xs ys : List Data) (d e : Bool) → IsPage q after count xs d → IsPage q after count ys e → d ≡ e

abbrev pub PagesAgree : Type 0
PagesAgree = ItemsAgree × EndsAgree

pub not_before_itself : (u v : Data) → u ≡ v → Precedes u v → ⊥
not_before_itself u v e h = let tied = tied_itself tree_total v in let less = subst (λ t. Precedes t v) e h in cc

pub pass : (after : Option Data) (l v : Data) → IsPast after l → Precedes l v → IsPast after v
pass None l v past h = tt
pass (Some a) l v past h = tree_total.trans a l v past h

-- ---- parts of a list that ascends

pub rising_left : (xs ys : List Data) → Rising Precedes (xs ++ ys) → Rising Precedes xs
rising_left [] ys r = tt
rising_left (x ∷ xs) ys r = (λ v a. r.0 v (among_left xs ys v a), rising_left xs ys r.1)

pub rising_across : (xs ys : List Data) → Rising Precedes (xs ++ ys) → (u v : Data) → Among xs u → Among ys v → Precedes u v
rising_across [] ys r u v a b = elim a [ ]
rising_across (x ∷ xs) ys r u v (inl e) b = subst (λ t. Precedes t v) e (r.0 v (among_right xs ys v b))
rising_across (x ∷ xs) ys r u v (inr a) b = rising_across xs ys r.1 u v a b

-- a list at an index: what is before, what is there, and what comes after
pub record IsSplit (xs : List Data) (n : ℕ) : Type 0 where
  pub front : List Data
  pub at : Data
  pub more : List Data
  pub whole : xs ≡ (front ++ at ∷ []) ++ more
  pub counted : length front ≡ n
  pub after : drop (suc n) xs ≡ more
  pub there : slice_get xs n ≡ Some at

pub split : (xs : List Data) (n : ℕ) → n < length xs → IsSplit xs n
split [] n lt = absurd (omega arith)
split (x ∷ xs) zero lt = record { front = []; at = x; more = xs; whole = refl; counted = refl; after = refl; there = refl }
split (x ∷ xs) (suc n) lt =
    let s = split xs n (omega arith) in
    record {
      front = x ∷ s.front;
      at = s.at;
      more = s.more;
      whole = ap (λ ys. x ∷ ys) s.whole;
      counted = omega (arith, s.counted);
      after = s.after;
      there = s.there;
    }

-- the room of a page can be counted by its items
pub page_counted : (q : Question) (after : Option Data) (count : ℕ) (items : List Data) (end : Bool) → IsPage q after count items end → IsPage q after (length items) items end
page_counted q after count us end p = record {
  samples = p.samples;
  ascending = p.ascending;
  short = omega arith;
  rest = p.rest;
  exact_end = p.exact_end;
  full = λ f. refl;
}

-- a page that is full, or past which nothing is left, is one with all the room
pub page_of_total : (q : Question) (after : Option Data) (count total : ℕ) (items : List Data) (end : Bool) → IsPage q after count items end → length items ≤ total → (end ≡ false → length items ≡ total)
    → IsPage q after total items end
page_of_total q after count total us end p short full = record {
  samples = p.samples;
  ascending = p.ascending;
  short = short;
  rest = p.rest;
  exact_end = p.exact_end;
  full = full;
}

-- ---- the first items of a page

-- where more items come after them, they are a page without an end
page_front : (q : Question) (after : Option Data) (count : ℕ) (front : List Data) (x : Data) (more : List Data) (end : Bool) → IsPage q after count (front ++ x ∷ more) end → IsPage q after (length front) front false
page_front q after count front x more end p =
    let whole : List Data = front ++ x ∷ more in
    let rises : Rising Precedes whole = rising Precedes whole p.ascending in
    let sample : (v : Data) → Among whole v → IsPastSample q after v = λ v a. All-contains (IsPastSample q after) whole v p.samples (contains whole v a) in
    record {
      samples = each_of (IsPastSample q after) front (λ v a. sample v (among_left front (x ∷ more) v a));
      ascending = all_pairs Precedes front (rising_left front (x ∷ more) rises);
      short = omega arith;
      rest = λ v c. elim (p.rest v c) [
        | inl found ↦ elim (among_parts front (x ∷ more) v (contained whole v found)) [
          | inl early ↦ inl (contains front v early)
          | inr late ↦ inr (each_of (λ u. Precedes u v) front (λ u a. rising_across front (x ∷ more) rises u v a late))
        ]
        | inr all ↦ inr (each_of (λ u. Precedes u v) front (λ u a. All-contains (λ w. Precedes w v) whole u all (contains whole u (among_left front (x ∷ more) u a))))
      ];
      exact_end = (
        λ t. cc,
        λ all. absurd (not_before_itself x x refl (rising_across front (x ∷ more) rises x x (contained front x (all x (sample x (among_right front (x ∷ more) x (inl refl))))) (inl refl))),
      );
      full = λ f. refl;
    }

module _ (law : PagesAgree) (q : Question) (after : Option Data) (m count : ℕ) (xs ys : List Data) where
  -- a page begins as each page with less room does
  pub begins : (d e : Bool) → IsPage q after m xs d → IsPage q after count ys e → m ≤ count → (zs : List Data) × (ys ≡ xs ++ zs)
  begins d e p r le = elim (cases_lt m (length ys)) [
    | inl more ↦
        let s = split ys m more in
        let whole : ys ≡ s.front ++ s.at ∷ s.more = s.whole ∙ append_assoc s.front (s.at ∷ []) s.more in
        let front = page_front q after count s.front s.at s.more e (subst (λ us. IsPage q after count us e) whole r) in
        let same = law.0 q after m xs s.front d false p (subst (λ k. IsPage q after k s.front false) s.counted front) in
        (s.at ∷ s.more, whole ∙ ap (λ us. us ++ s.at ∷ s.more) (sym same))
    | inr short ↦
        let same = law.0 q after m xs ys d e p (page_of_total q after count m ys e r short (λ f. omega (arith, r.full f, short, le))) in
        ([], sym same ∙ sym (append-nil xs))
  ]

  -- where more is left, a page with more room is longer
  pub longer : (e : Bool) → IsPage q after m xs false → IsPage q after count ys e → m < count → length xs < length ys
  longer e p r lt = elim (cases_lt (length xs) (length ys)) [
    | inl more ↦ more
    | inr le ↦
        let ends = law.1 q after m xs ys false e p (page_of_total q after count m ys e r (omega (arith, le, p.short)) (λ f. omega (arith, r.full f, le, p.short, lt))) in
        absurd (omega (arith, r.full (sym ends), le, p.short, lt))
  ]

-- ---- a page, and the page past its last item

module _ (q : Question) (after : Option Data) (n k : ℕ) (front : List Data) (l : Data) (more : List Data) (d end : Bool) (p : IsPage q after n (front ++ l ∷ []) d) (r : IsPage q (Some l) k more end) where
  abbrev items : List Data
  items = front ++ l ∷ []

  past_last : (u v : Data) → Among items u → Precedes l v → Precedes u v
  past_last u v a h = elim (among_parts front (l ∷ []) u a) [
    | inl early ↦ tree_total.trans u l v (rising_across front (l ∷ []) (rising Precedes items p.ascending) u l early (inl refl)) h
    | inr here ↦ elim here [ inl same ↦ subst (λ t. Precedes t v) same h | inr none ↦ elim none [ ] ]
  ]

  past_after : (v : Data) → Precedes l v → IsPast after v
  past_after v h = pass after l v (All-contains (IsPastSample q after) items l p.samples (contains items l (among_right front (l ∷ []) l (inl refl)))).past h

  later_sample : (v : Data) → IsPastSample q (Some l) v → IsPastSample q after v
  later_sample v c = record { sample = c.sample; past = past_after v c.past }

  -- past the last item
  after_last : (v : Data) → IsPastSample q after v → All (λ u. Precedes u v) items → IsPastSample q (Some l) v
  after_last v c all = record { sample = c.sample; past = All-contains (λ u. Precedes u v) items l all (contains items l (among_right front (l ∷ []) l (inl refl))) }

  pub page_after : IsPage q after (length items + k) (items ++ more) end
  page_after = record {
    samples = each_of (IsPastSample q after) (items ++ more) (λ v a. elim (among_parts items more v a) [
      | inl early ↦ All-contains (IsPastSample q after) items v p.samples (contains items v early)
      | inr late ↦ later_sample v (All-contains (IsPastSample q (Some l)) more v r.samples (contains more v late))
    ]);
    ascending = all_pairs Precedes (items ++ more) (rising_join Precedes items more (rising Precedes items p.ascending) (rising Precedes more r.ascending)
        (λ v w a b. past_last v w a (All-contains (IsPastSample q (Some l)) more w r.samples (contains more w b)).past));
    short = omega (arith, length-append items more, r.short);
    rest = λ v c. elim (p.rest v c) [
      | inl found ↦ inl (Contains-append_left items more v found)
      | inr all ↦ elim (r.rest v (after_last v c all)) [
        | inl found ↦ inl (Contains-append_right items more v found)
        | inr later ↦ inr (All-append (λ u. Precedes u v) items more all later)
      ]
    ];
    exact_end = (
      λ t v c. elim (p.rest v c) [
        | inl found ↦ Contains-append_left items more v found
        | inr all ↦ Contains-append_right items more v (r.exact_end.0 t v (after_last v c all))
      ],
      λ all. r.exact_end.1 (λ v c. elim (Contains-append_cases items more v (all v (later_sample v c))) [
        | inl early ↦ absurd (not_before_itself v v refl (past_last v v (contained items v early) c.past))
        | inr found ↦ found
      ]),
    );
    full = λ f. omega (arith, length-append items more, r.full f);
  }
