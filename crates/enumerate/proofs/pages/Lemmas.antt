-- A page, built of one sample after the other.
use Rattle.std.proofs.Common.{◌≡◌, ◌⊎◌, ◌<◌, ◌≤◌, ◌+◌, ◌*◌, ℕ, List, [], ◌∷◌, ◌++◌, length, true, false, Option, Some, None, refl, sym, ◌∙◌, subst, inl, inr, arith, length-append}
use Rattle.std.specs.Prelude.{All, AllPairs, Contains}
use Rattle.std.proofs.lemmas.List.Elements.{All-push, All-weaker, All-contains, Contains-append_left, Contains-push}
use Rattle.std.proofs.lemmas.List.Quantifiers.{all_pairs_push}
use Rattle.jtree.specs.Data.{Data}
use Rattle.jtree.specs.Internal.Lookups.{ordering_cases}
use Rattle.jtree.specs.Internal.OrderLaws.{tree_total, tree_same}
use Rattle.jtree.specs.Order.{tree_cmp}
use Rattle.plan.specs.Samples.Candidates.{IsWidth}
use Rattle.plan.specs.Samples.Question.{Question}
use Rattle.plan.specs.Samples.Steps.{delay}
use Rattle.enumerate.specs.Least.{IsLeast}
use Rattle.enumerate.specs.Live.{Enumeration, IsNextSample, IsStarted, place_after, LendsPage}
use Rattle.enumerate.specs.Page.{Precedes, IsPast, IsPastSample, IsPage}
use Rattle.enumerate.proofs.walks.Least.{tree_order, not_itself}

-- a sample past the place, and after all items
pub record IsAfterItems (q : Question) (after : Option Data) (items : List Data) (v : Data) : Type 0 where
  pub past : IsPastSample q after v
  pub precede : All (λ u. Precedes u v) items

-- the least of those after the items; or there is none
abbrev pub IsNextAfterItems : Question → Option Data → List Data → Option Data → Type 0
IsNextAfterItems q after items (Some v) = IsLeast tree_cmp (IsAfterItems q after items) v
IsNextAfterItems q after items None = (v : Data) → IsAfterItems q after items v → ⊥

-- the first items of a page
pub record IsListed (q : Question) (after : Option Data) (count : ℕ) (items : List Data) : Type 0 where
  pub samples : All (IsPastSample q after) items
  pub ascending : AllPairs Precedes items
  pub short : length items ≤ count
  pub rest : (v : Data) → IsPastSample q after v → Contains items v ⊎ All (λ u. Precedes u v) items

-- they, and the sample that comes next
pub record IsSoFar (q : Question) (after : Option Data) (count : ℕ) (items : List Data) (at : Option Data) : Type 0 where
  pub listed : IsListed q after count items
  pub next : IsNextAfterItems q after items at

abbrev no_items : List Data
no_items = []

none_in : (P : Data → Type 0) → All P no_items
none_in P = λ k d lt. absurd (omega arith)

first_next : (q : Question) (after at : Option Data) → IsNextSample q after at → IsNextAfterItems q after [] at
first_next q after (Some v) h = record { is = record { past = h.is; precede = none_in (λ u. Precedes u v) }; least = λ u b. h.least u b.past }
first_next q after None h = λ v b. h v b.past

pub none_so_far : (q : Question) (after : Option Data) (count : ℕ) (at : Option Data) → IsNextSample q after at → IsSoFar q after count [] at
none_so_far q after count at h = record {
  listed = record {
    samples = none_in (IsPastSample q after);
    ascending = λ i j d lt within. absurd (omega (arith, lt, within));
    short = omega arith;
    rest = λ v p. inr (none_in (λ u. Precedes u v));
  };
  next = first_next q after at h;
}

-- an enumeration that was started is at the next sample
pub started_next : (q : Question) (after : Option Data) (live : Enumeration) → IsStarted q after (Some live) → IsNextSample live.question after live.at
started_next q after live start = subst (IsNextSample live.question after) (sym start.1.1.0) (subst (λ r. IsNextSample r after (Some start.1.0)) (sym start.0) start.1.1.1)

pub goes_past : (after : Option Data) (u v : Data) → IsPast after u → Precedes u v → IsPast after v
goes_past None u v p h = tt
goes_past (Some a) u v p h = tree_total.trans a u v p h

module _ (q : Question) (after : Option Data) (count : ℕ) (items : List Data) (w : Data) (s : IsSoFar q after count items (Some w)) where
  -- what is after the items is the next one, or after it too
  from_next : (v : Data) → IsAfterItems q after items v → (w ≡ v) ⊎ Precedes w v
  from_next v b = elim (ordering_cases (tree_cmp v w)) [
    | inl less ↦ absurd (s.next.least v b less)
    | inr (inl equal) ↦ inl (sym (tree_same v w equal))
    | inr (inr greater) ↦ inr (tree_total.antisymm w v ∙ rw greater refl)
  ]

  all_before : (v : Data) → Precedes w v → All (λ u. Precedes u v) (items ++ w ∷ [])
  all_before v h = All-push (λ u. Precedes u v) items w (All-weaker (λ u. Precedes u w) (λ u. Precedes u v) (λ u p. tree_total.trans u w v p h) items s.next.is.precede) h

  before_all : (v : Data) → All (λ u. Precedes u v) (items ++ w ∷ []) → Precedes w v
  before_all v all = All-contains (λ u. Precedes u v) (items ++ w ∷ []) w all (Contains-push items w)

  past_next : (v : Data) → IsAfterItems q after (items ++ w ∷ []) v → IsPastSample q (Some w) v
  past_next v b = record { sample = b.past.sample; past = before_all v b.precede }

  next_past : (v : Data) → IsPastSample q (Some w) v → IsAfterItems q after (items ++ w ∷ []) v
  next_past v p = record { past = record { sample = p.sample; past = goes_past after w v s.next.is.past.past p.past }; precede = all_before v p.past }

  next_after : (at : Option Data) → IsNextSample q (Some w) at → IsNextAfterItems q after (items ++ w ∷ []) at
  next_after (Some v) h = record { is = next_past v h.is; least = λ u b. h.least u (past_next u b) }
  next_after None h = λ v b. h v (past_next v b)

  -- the next one is one more item
  pub one_listed : length items < count → IsListed q after count (items ++ w ∷ [])
  one_listed room = record {
    samples = All-push (IsPastSample q after) items w s.listed.samples s.next.is.past;
    ascending = all_pairs_push Precedes items w s.listed.ascending s.next.is.precede;
    short = omega (arith, room, length-append items (w ∷ []));
    rest = λ v p. elim (s.listed.rest v p) [
      | inl listed ↦ inl (Contains-append_left items (w ∷ []) v listed)
      | inr precede ↦ elim (from_next v (record { past = p; precede = precede })) [
        | inl same ↦ inl (subst (Contains (items ++ w ∷ [])) same (Contains-push items w))
        | inr later ↦ inr (all_before v later)
      ]
    ];
  }

  pub one_more : (at : Option Data) → length items < count → IsNextSample q (Some w) at → IsSoFar q after count (items ++ w ∷ []) at
  one_more at room h = record { listed = one_listed room; next = next_after at h }

  -- where there is a next one, a full page has no end
  pub full_page : count ≤ length items → IsPage q after count items false
  full_page full = record {
    samples = s.listed.samples;
    ascending = s.listed.ascending;
    short = s.listed.short;
    rest = s.listed.rest;
    exact_end = (λ t. cc, λ all. absurd (let at = all w s.next.is.past in let before = All-contains (λ u. Precedes u w) items w s.next.is.precede at in not_itself tree_cmp tree_order w w refl before));
    full = λ f. omega (arith, full, s.listed.short);
  }

pub last_page : (q : Question) (after : Option Data) (count : ℕ) (items : List Data) → IsSoFar q after count items None → IsPage q after count items true
last_page q after count items s = record {
  samples = s.listed.samples;
  ascending = s.listed.ascending;
  short = s.listed.short;
  rest = s.listed.rest;
  exact_end = (λ t v p. elim (s.listed.rest v p) [ inl listed ↦ listed | inr precede ↦ absurd (s.next v (record { past = p; precede = precede })) ], λ all. refl);
  full = λ f. cc;
}

-- ---- what is lent of a page

-- So many samples were lent and taken, from the one on at which the enumeration was first; it is at the next one now.
pub record IsLent (q : Question) (first : Option Data) (count lent : ℕ) (has_taken : List Data → Type 0) (at : Option Data) : Type 0 where
  pub items : List Data
  pub taken : has_taken items
  pub counted : length items ≡ lent
  pub page : (after : Option Data) → IsNextSample q after first → IsSoFar q after count items at
  pub next : (after : Option Data) → IsNextSample q after first → IsNextSample q (place_after after items) at

pub lent_nothing : (q : Question) (first : Option Data) (count : ℕ) (has_taken : List Data → Type 0) → has_taken [] → IsLent q first count 0 has_taken first
lent_nothing q first count has_taken none = record {
  items = [];
  taken = none;
  counted = refl;
  page = λ after h. none_so_far q after count first h;
  next = λ after h. h;
}

after_more : (after : Option Data) (items : List Data) (v : Data) → place_after after (items ++ v ∷ []) ≡ Some v
after_more after [] v = refl
after_more after (u ∷ items) v = after_more (Some u) items v

module _ (q : Question) (first : Option Data) (count lent : ℕ) where
  -- the sample at which the enumeration was is one more, and it moved on
  pub lent_more : (old new : List Data → Type 0) (v : Data) (at : Option Data) → ((ds : List Data) → old ds → new (ds ++ v ∷ [])) → lent < count → IsNextSample q (Some v) at → IsLent q first count lent old (Some v) → IsLent q first count (lent + 1) new at
  lent_more old new v at takes room later l = record {
    items = l.items ++ v ∷ [];
    taken = takes l.items l.taken;
    counted = omega (arith, l.counted, length-append l.items (v ∷ []));
    page = λ after h. one_more q after count l.items v (l.page after h) at (omega (arith, room, l.counted)) later;
    next = λ after h. subst (λ o. IsNextSample q o at) (sym (after_more after l.items v)) later;
  }

  module _ (has_taken : List Data → Type 0) (steps_before steps_now : ℕ) (costs : (w : ℕ) → IsWidth q w → steps_now ≤ steps_before + lent * delay q.limit w) where
    within : (items : List Data) → length items ≡ lent → (w : ℕ) → IsWidth q w → steps_now ≤ steps_before + length items * delay q.limit w
    within items counted w wide = subst (λ n. steps_now ≤ steps_before + n * delay q.limit w) (sym counted) (costs w wide)

    -- the page is full, and there is a next sample
    pub lends_full : (v : Data) → lent ≡ count → IsLent q first count lent has_taken (Some v) → (after : Option Data) → IsNextSample q after first → LendsPage q after count false has_taken (Some v) steps_before steps_now
    lends_full v full l after h = record {
      items = l.items;
      taken = l.taken;
      page = full_page q after count l.items v (l.page after h) (omega (arith, full, l.counted));
      next = l.next after h;
      steps = within l.items l.counted;
    }

    -- there is none
    pub lends_last : IsLent q first count lent has_taken None → (after : Option Data) → IsNextSample q after first → LendsPage q after count true has_taken None steps_before steps_now
    lends_last l after h = record {
      items = l.items;
      taken = l.taken;
      page = last_page q after count l.items (l.page after h);
      next = l.next after h;
      steps = within l.items l.counted;
    }
