-- A page from which the first items are taken is the page past the last of these: so a walk that stopped can go on.
use Rattle.std.proofs.Common.{◌≡◌, ◌⊎◌, ℕ, zero, suc, ◌-◌, ◌<◌, ◌≤◌, List, [], ◌∷◌, ◌++◌, length, Bool, Option, Some, refl, sym, ap, subst, inl, inr, arith, length-append}
use Rattle.std.proofs.lemmas.List.Elements.{All-contains, Contains-append_right}
use Rattle.std.proofs.lemmas.Option.{slice_get_within}
use Rattle.jtree.specs.Data.{Data}
use Rattle.jtree.specs.Internal.OrderLaws.{tree_total}
use Rattle.jtree.specs.Internal.Rising.{Among, Rising, contained, contains, each_of, rising, all_pairs, among_left, among_right, among_parts}
use Rattle.plan.specs.Samples.Question.{Question}
use Rattle.enumerate.specs.Page.{Precedes, IsPastSample, IsPage}
use Rattle.crdx.specs.Output.PartialOutput.{IsMissing, CanGoOn, IsPartialOutput}
use Rattle.crdx.specs.declared.walk.line.Envelope.{Envelope}
use Rattle.crdx.specs.declared.walk.fault.WFault.{WFault}
use Rattle.crdx.specs.declared.walk.fault.WFault.TheVariants.{NotASample, NoMemory, Write}
use Rattle.crdx.proofs.PageLemmas.{not_before_itself, pass, rising_left, rising_across, split}

rising_right : (xs ys : List Data) → Rising Precedes (xs ++ ys) → Rising Precedes ys
rising_right [] ys r = r
rising_right (x ∷ xs) ys r = rising_right xs ys r.1

module _ (q : Question) (after : Option Data) (count : ℕ) (front : List Data) (l : Data) (more : List Data) (end : Bool) (p : IsPage q after count ((front ++ l ∷ []) ++ more) end) where
  abbrev early : List Data
  early = front ++ l ∷ []

  abbrev whole : List Data
  whole = early ++ more

  last_early : Among early l
  last_early = among_right front (l ∷ []) l (inl refl)

  last_among : Among whole l
  last_among = among_left early more l last_early

  rises : Rising Precedes whole
  rises = rising Precedes whole p.ascending

  past_sample : (v : Data) → Among whole v → IsPastSample q after v
  past_sample v a = All-contains (IsPastSample q after) whole v p.samples (contains whole v a)

  later : (v : Data) → IsPastSample q (Some l) v → IsPastSample q after v
  later v c = record { sample = c.sample; past = pass after l v (past_sample l last_among).past c.past }

  -- what is past the last early item is none of them
  not_early : (v : Data) → Precedes l v → Among early v → ⊥
  not_early v past a = elim (among_parts front (l ∷ []) v a) [
    | inl before ↦ not_before_itself v v refl (tree_total.trans v l v (rising_across front (l ∷ []) (rising_left early more rises) v l before (inl refl)) past)
    | inr here ↦ elim here [ inl same ↦ not_before_itself l v same past | inr none ↦ elim none [ ] ]
  ]

  among_more : (v : Data) → Precedes l v → Among whole v → Among more v
  among_more v past a = elim (among_parts early more v a) [ inl e ↦ absurd (not_early v past e) | inr m ↦ m ]

  pub page_past : IsPage q (Some l) (count - length early) more end
  page_past = record {
    samples = each_of (IsPastSample q (Some l)) more (λ v a. record { sample = (past_sample v (among_right early more v a)).sample; past = rising_across early more rises l v last_early a });
    ascending = all_pairs Precedes more (rising_right early more rises);
    short = omega (arith, p.short, length-append early more);
    rest = λ v c. elim (p.rest v (later v c)) [
      | inl found ↦ inl (contains more v (among_more v c.past (contained whole v found)))
      | inr all ↦ inr (each_of (λ u. Precedes u v) more (λ u a. All-contains (λ w. Precedes w v) whole u all (contains whole u (among_right early more u a))))
    ];
    exact_end = (
      λ t v c. contains more v (among_more v c.past (contained whole v (p.exact_end.0 t v (later v c)))),
      λ all. p.exact_end.1 (λ v c. elim (p.rest v c) [
        | inl found ↦ found
        | inr before ↦ Contains-append_right early more v (all v (record { sample = c.sample; past = All-contains (λ u. Precedes u v) whole l before (contains whole l last_among) }))
      ]),
    );
    full = λ f. omega (arith, p.full f, length-append early more);
  }

-- ---- at any place

missing : (q : Question) (after : Option Data) (total : ℕ) (items : List Data) (end : Bool) (n : ℕ) → n < total → (n ≡ 0) ⊎ (n ≤ length items) → IsPage q after total items end → IsMissing q after total items end n
missing q after total items end zero left some p =
    let room : total ≡ total - 0 = omega arith in
    record { left = left; place = after; place_is = refl; page = subst (λ k. IsPage q after k items end) room p }
missing q after total items end (suc n) left some p =
    let within : n < length items = elim some [ inl none ↦ absurd (omega (arith, none)) | inr le ↦ omega (arith, le) ] in
    let s = split items n within in
    let rest = page_past q after total s.front s.at s.more end (subst (λ us. IsPage q after total us end) s.whole p) in
    let room : total - length (s.front ++ s.at ∷ []) ≡ total - suc n = ap (λ k. total - k) (omega (arith, length-append s.front (s.at ∷ []), s.counted)) in
    record {
      left = left;
      place = Some s.at;
      place_is = sym s.there;
      page = subst (λ us. IsPage q (Some s.at) (total - suc n) us end) (sym s.after) (subst (λ k. IsPage q (Some s.at) k s.more end) room rest);
    }

-- what a walk that stopped has left out is a page
pub can_go_on : (q : Question) (after : Option Data) (total : ℕ) (e : Option Envelope) (old new : Option (List ℕ)) (before now : ℕ) (fault : WFault) → 1 ≤ total
    → IsPartialOutput q after total e old new before now fault → CanGoOn q after total fault
can_go_on q after total e old new before now NotASample room cut = tt
can_go_on q after total e old new before now (NoMemory n) room cut = λ items end p. elim cut.1 [
  | inl nothing ↦ missing q after total items end n (omega (arith, nothing.0)) (inl nothing.0) p
  | inr some ↦ let c = some.1 items end p in missing q after total items end n (omega (arith, c.fewer, p.short)) (inr (omega (arith, c.fewer))) p
]
can_go_on q after total e old new before now (Write n) room cut = λ items end p.
    let c = cut.2 items end p in
    let fewer = slice_get_within items n c.next c.is in
    missing q after total items end n (omega (arith, fewer, p.short)) (inr (omega (arith, fewer))) p
