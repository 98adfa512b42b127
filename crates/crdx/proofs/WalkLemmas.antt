-- What one page after the other says of a walk.
use Rattle.std.specs.Prelude.{IfSome, IsSome, IsSomeAnd, All, Contains, option_map}
use Rattle.std.proofs.Common.{◌≡◌, ◌⊎◌, ℕ, suc, ◌+◌, ◌-◌, ◌*◌, if◌then◌else◌, ◌<◌, ◌≤◌, List, [], ◌∷◌, ◌++◌, length, take, Bool, true, false, Option, Some, None, refl, sym, ap, ◌∙◌, subst, inl, inr, arith, length-append, append_assoc}
use Rattle.std.specs.Io.KnownBytes.{Appends, Keeps}
use Rattle.std.proofs.KnownBytes.{Appends-trans, Appends-kept, Appends-nil}
use Rattle.std.proofs.Math.Seq.{take-append_seam}
use Rattle.jtree.specs.Data.{Data}
use Rattle.jtree.specs.View.{data_of}
use Rattle.jtree.specs.declared.value.Tree.{Tree}
use Rattle.std.specs.Borrow.{Bor}
use Rattle.std.specs.Option.{option_copied}
use Rattle.enumerate.specs.View.{resume_point}
use Rattle.enumerate.specs.Live.{Enumeration, IsStarted, IsNextSample, place_after}
use Rattle.jtree.specs.Internal.Rising.{contained}
use Rattle.plan.specs.Samples.Question.{Question}
use Rattle.enumerate.specs.Page.{Precedes, IsPast, IsPastSample, IsPage, IsSampleOf}
use Rattle.crdx.specs.Output.Line.{lines}
use Rattle.crdx.specs.Output.Walk.{WritesPage}
use Rattle.crdx.specs.Output.PartialOutput.{IsCutBetweenLines, IsCutWithinLine, IsPartialOutput}
use Rattle.crdx.specs.Internal.PartialLines.{ArePartialLines}
use Rattle.crdx.specs.Internal.Progress.{AddsBlock, IsPartialBlock, IsSoFar}
use Rattle.crdx.specs.declared.walk.line.Envelope.{Envelope}
use Rattle.crdx.specs.declared.walk.fault.WFault.{WFault}
use Rattle.crdx.specs.declared.walk.fault.WFault.TheVariants.{NotASample, NoMemory, Write}
use Rattle.crdx.proofs.PageLemmas.{PagesAgree, begins, longer, page_after, page_counted, page_of_total}
use Rattle.crdx.proofs.WrittenLemmas.{lines-append, lines_front, cut_within, cut_before_line}
use Rattle.jtree.specs.Failures.{HasFailed}

module _ (law : PagesAgree) (q : Question) (after : Option Data) (total : ℕ) (e : Option Envelope) (old mid new : Option (List ℕ)) (unfailed failed : ℕ) where
  -- a page was written in part after others: so it is with the items of any page with all the room
  pub partial_output_of_lines : (front more : List Data) (count n : ℕ) (end : Bool) (fault : WFault) → IfSome after (IsSampleOf q) → n ≡ length front
      → IsPage q after count (front ++ more) end → count ≤ total → Appends old mid (lines e front)
      → ArePartialLines e more n mid new unfailed failed fault → IsPartialOutput q after total e old new unfailed failed fault
  partial_output_of_lines front more count n end NotASample sample place p le before s = absurd s
  partial_output_of_lines front more count n end (NoMemory m) sample place p le before s = (
    s.0,
    inr (
      sample,
      λ us d r.
          let k = s.1.0 in
          let rest = begins law q after count total (front ++ more) us end d p r le in
          let is : us ≡ front ++ (more ++ rest.0) = rest.1 ∙ append_assoc front more rest.0 in
          let at : m ≡ length front + k = s.1.1 ∙ ap (λ i. i + k) place in
          let text : lines e front ++ lines e (take k more) ≡ lines e (take m us) =
          sym (lines_front e front more rest.0 k (omega (arith, s.1.2))) ∙ (λ i. lines e (take (sym at i) (sym is i))) in
          record {
            out = subst (Appends old new) text (Appends-trans old mid new (lines e front) (lines e (take k more)) before s.1.3);
            fewer = omega (arith, at, s.1.2, ap length is, length-append front (more ++ rest.0), length-append more rest.0);
          },
    ),
  )
  partial_output_of_lines front more count n end (Write m) sample place p le before s = (
    s.0,
    sample,
    λ us d r.
        let k = s.1.0 in
        let rest = begins law q after count total (front ++ more) us end d p r le in
        let is : us ≡ front ++ (more ++ rest.0) = rest.1 ∙ append_assoc front more rest.0 in
        let at : m ≡ length front + k = s.1.1 ∙ ap (λ i. i + k) place in
        let there = cut_within e front more rest.0 k old mid new before s.1.2 in
        subst (λ us. IsCutWithinLine e us m old new) (sym is) (subst (λ i. IsCutWithinLine e (front ++ (more ++ rest.0)) i old new) (sym at) there),
  )

-- out of memory after pages with more to come
pub partial_output_of_pages : (law : PagesAgree) (q : Question) (after : Option Data) (total : ℕ) (e : Option Envelope) (old new : Option (List ℕ)) (items us : List Data) (end : Bool)
    → IsPage q after (length items) items false → length items < total → Appends old new (lines e items) → IsPage q after total us end → IsCutBetweenLines e us (length items) old new
partial_output_of_pages law q after total e old new items us end p lt out r =
    let rest = begins law q after (length items) total items us false end p r (omega (arith, lt)) in
    let front : take (length items) us ≡ items = ap (λ vs. take (length items) vs) rest.1 ∙ take-append_seam items rest.0 in
    record {
      out = subst (λ vs. Appends old new (lines e vs)) (sym front) out;
      fewer = longer law q after (length items) total items us end p r lt;
    }

-- ---- the page past the last item, joined on

-- some items have a last one, or there are none
last_or_none : (items : List Data) → (items ≡ []) ⊎ ((front : List Data) × (l : Data) × (items ≡ front ++ l ∷ []))
last_or_none [] = inl refl
last_or_none (v ∷ items) = elim (last_or_none items) [
  | inl none ↦ inr ([], v, ap (λ us. v ∷ us) none)
  | inr (front, l, is) ↦ inr (v ∷ front, l, ap (λ us. v ∷ us) is)
]

after_last : (after : Option Data) (front : List Data) (l : Data) → place_after after (front ++ l ∷ []) ≡ Some l
after_last after [] l = refl
after_last after (v ∷ front) l = after_last (Some v) front l

place_onto : (after : Option Data) (items more : List Data) → place_after after (items ++ more) ≡ place_after (place_after after items) more
place_onto after [] more = refl
place_onto after (v ∷ items) more = place_onto (Some v) items more

page_onto : (q : Question) (after : Option Data) (k : ℕ) (items more : List Data) (end : Bool) → IsPage q after (length items) items false → IsPage q (place_after after items) k more end → IsPage q after (length items + k) (items ++ more) end
page_onto q after k items more end p r = elim (last_or_none items) [
  | inl none ↦
      let first = subst (λ us. IsPage q (place_after after us) k more end) none r in
      subst (λ us. IsPage q after (length us + k) (us ++ more) end) (sym none) (subst (λ n. IsPage q after n more end) (omega arith) first)
  | inr (front, l, is) ↦
      let place = ap (place_after after) is ∙ after_last after front l in
      subst (λ us. IsPage q after (length us + k) (us ++ more) end) (sym is)
      (page_after q after (length items) k front l more false end (subst (λ us. IsPage q after (length items) us false) is p) (subst (λ o. IsPage q o k more end) place r))
]

-- where there is a sample past the place, none of them is a page without an end
nothing_listed : (q : Question) (after : Option Data) (v : Data) → IsNextSample q after (Some v) → IsPage q after 0 [] false
nothing_listed q after v h = record {
  samples = λ k d lt. absurd (omega (arith, lt));
  ascending = λ i j d lt within. absurd (omega (arith, lt, within));
  short = omega arith;
  rest = λ u p. inr (λ k d lt. absurd (omega (arith, lt)));
  exact_end = (λ t. cc, λ all. absurd (contained [] v (all v h.is)));
  full = λ f. refl;
}

-- and where there is none, a page with one
pub nothing_left : (q : Question) (after : Option Data) (total : ℕ) → IsNextSample q after None → IsPage q after total [] true
nothing_left q after total h = record {
  samples = λ k d lt. absurd (omega (arith, lt));
  ascending = λ i j d lt within. absurd (omega (arith, lt, within));
  short = omega arith;
  rest = λ u p. absurd (h u p);
  exact_end = (λ t v p. absurd (h v p), λ all. refl);
  full = λ f. cc;
}

-- an enumeration that was started is at the next sample past the place
started_next : (q : Question) (after : Option Data) (live : Enumeration) → IsStarted q after (Some live) → IsNextSample q after live.at
started_next q after live s = subst (IsNextSample q after) (sym s.1.1.0) s.1.1.1

-- bytes that stay as they were grow by nothing
pub Appends-nothing : (old new : Option (List ℕ)) → Keeps old new → Appends old new []
Appends-nothing old new keeps = Appends-kept old old new [] (Appends-nil old) keeps

module _ (q : Question) (after : Option Data) (total : ℕ) (e : Option Envelope) where
  pub begun : (live : Enumeration) (out : Option (List ℕ)) → IsStarted q after (Some live) → IsSoFar q after total e 0 false live.at out out
  begun live out s = record {
    items = [];
    page = nothing_listed q after s.1.0 s.1.1.1;
    counted = refl;
    short = omega arith;
    next = started_next q after live s;
    written = Appends-nil out;
  }

  pub gone_on : (k lines_then lines_now : ℕ) (at next : Option Data) (goes end : Bool) (old mid new : Option (List ℕ)) → goes ≡ false → lines_then + k ≤ total → IsSoFar q after total e lines_then goes at old mid
      → ((place : Option Data) → IsNextSample q place at → AddsBlock q place k e lines_then lines_now end next mid new) → IsSoFar q after total e lines_now end next old new
  gone_on k lines_then lines_now at next goes end old mid new not_yet le s adds =
      let a = adds (place_after after s.items) s.next in
      let whole = page_onto q after k s.items a.items end (subst (IsPage q after (length s.items) s.items) not_yet s.page) a.page in
      record {
        items = s.items ++ a.items;
        page = page_counted q after (length s.items + k) (s.items ++ a.items) end whole;
        counted = omega (arith, a.counted, s.counted, length-append s.items a.items);
        short = omega (arith, whole.short, s.counted, le);
        next = subst (λ o. IsNextSample q o next) (sym (place_onto after s.items a.items)) a.next;
        written = subst (Appends old new) (sym (lines-append e s.items a.items)) (Appends-trans old mid new (lines e s.items) (lines e a.items) s.written a.written);
      }

  -- a block leaves less to do
  pub less_left : (k lines_then lines_now : ℕ) (at next : Option Data) (goes end : Bool) (old mid new : Option (List ℕ)) → goes ≡ false → 1 ≤ k → lines_then < total → IsSoFar q after total e lines_then goes at old mid
      → ((place : Option Data) → IsNextSample q place at → AddsBlock q place k e lines_then lines_now end next mid new)
      → (if end then 0 else 1) + (total - lines_now) < (if goes then 0 else 1) + (total - lines_then)
  less_left k lines_then lines_now at next true end old mid new not_yet some lt s adds = cc
  less_left k lines_then lines_now at next false true old mid new not_yet some lt s adds = let a = adds (place_after after s.items) s.next in omega (arith, a.counted, lt)
  less_left k lines_then lines_now at next false false old mid new not_yet some lt s adds = let a = adds (place_after after s.items) s.next in omega (arith, a.counted, a.page.full refl, some, lt)

  pub all_written : (lines_now : ℕ) (end : Bool) (at : Option Data) (old new : Option (List ℕ)) → (end ≡ false → total ≤ lines_now) → IsSoFar q after total e lines_now end at old new
      → WritesPage q after total e lines_now end old new
  all_written lines_now end at old new full s = record {
    items = s.items;
    page = page_of_total q after (length s.items) total s.items end s.page s.short (λ f. omega (arith, full f, s.short, s.counted));
    counted = s.counted;
    written = s.written;
  }

  -- a block was not written whole
  pub cut_block : PagesAgree → (k lines_then : ℕ) (at : Option Data) (goes : Bool) (old mid new : Option (List ℕ)) (unfailed failed : ℕ) (fault : WFault)
      → IfSome after (IsSampleOf q) → goes ≡ false → 1 ≤ k → lines_then + k ≤ total
      → IsSoFar q after total e lines_then goes at old mid → ((place : Option Data) → IsNextSample q place at → IsPartialBlock q place k e lines_then mid new unfailed failed fault)
      → IsPartialOutput q after total e old new unfailed failed fault
  cut_block law k lines_then at goes old mid new unfailed failed fault sample not_yet some le s part = elim (part (place_after after s.items) s.next) [
    | inl (is, keeps, same) ↦
        let page = subst (IsPage q after (length s.items) s.items) not_yet s.page in
        let out = Appends-kept old mid new (lines e s.items) s.written keeps in
        rw (is, s.counted) (same, inr (sample, λ us d r. partial_output_of_pages law q after total e old new s.items us d page (omega (arith, s.counted, some, le)) out r))
    | inr (items, end, page, stopped) ↦
        partial_output_of_lines law q after total e old mid new unfailed failed s.items items (length s.items + k) lines_then end fault sample s.counted
        (page_onto q after k s.items items end (subst (IsPage q after (length s.items) s.items) not_yet s.page) page) (omega (arith, s.counted, le)) s.written stopped
  ]

  -- a flush takes nothing
  pub still_so_far : (lines_now : ℕ) (at : Option Data) (goes : Bool) (old mid new : Option (List ℕ)) → Keeps mid new → IsSoFar q after total e lines_now goes at old mid → IsSoFar q after total e lines_now goes at old new
  still_so_far lines_now at goes old mid new keeps s = record {
    items = s.items;
    page = s.page;
    counted = s.counted;
    short = s.short;
    next = s.next;
    written = Appends-kept old mid new (lines e s.items) s.written keeps;
  }

  -- the flush of the lines so far failed, and more are to come
  pub cut_flush : PagesAgree → (lines_now : ℕ) (at : Option Data) (goes : Bool) (old mid new : Option (List ℕ)) (unfailed failed : ℕ) → IfSome after (IsSampleOf q) → goes ≡ false → lines_now < total
      → IsSoFar q after total e lines_now goes at old mid → Keeps mid new → HasFailed unfailed failed → IsPartialOutput q after total e old new unfailed failed (Write lines_now)
  cut_flush law lines_now at goes old mid new unfailed failed sample not_yet lt s keeps has =
      let page = subst (IsPage q after (length s.items) s.items) not_yet s.page in
      let out = Appends-kept old mid new (lines e s.items) s.written keeps in
      rw (s.counted) (
        has,
        sample,
        λ us d r. cut_before_line e us (length s.items) old new (partial_output_of_pages law q after total e old new s.items us d page (omega (arith, s.counted, lt)) out r),
      )

-- the steps of some lines, after others
pub within_lines : (before items lines delay old new : ℕ) → items ≡ lines → new ≤ old + items * delay → new + before * delay ≤ old + (before + lines) * delay
within_lines before items lines delay old new same h = let spent = subst (λ n. new ≤ old + n * delay) same h in omega (arith, spent)

past_items : (after : Option Data) (items : List Data) (v : Data) → IsPast after v → All (λ u. Precedes u v) items → IsPast (place_after after items) v
past_items after [] v past all = past
past_items after (u ∷ items) v past all = past_items (Some u) items v (all 0 u (omega arith)) (λ k d lt. all (suc k) d (omega (arith, lt)))

-- where a page has no end, the enumeration is at a sample past it
at_sample : (q : Question) (after : Option Data) (items : List Data) (end : Bool) (at : Option Data) → IsPage q after (length items) items end → IsNextSample q (place_after after items) at → end ≡ false → IsSome at
at_sample q after items end (Some v) page next more = refl
at_sample q after items end None page next more =
    let listed : (v : Data) → IsPastSample q after v → Contains items v = λ v p. elim (page.rest v p) [
      | inl found ↦ found
      | inr all ↦ absurd (next v (record { sample = p.sample; past = past_items after items v p.past all }))
    ] in
    let ended = page.exact_end.1 listed in
    cc

pub not_ended_at : (q : Question) (after : Option Data) (total : ℕ) (e : Option Envelope) (lines_now : ℕ) (end : Bool) (at : Option Data) (old new : Option (List ℕ)) → IsSoFar q after total e lines_now end at old new → end ≡ false → IsSome at
not_ended_at q after total e lines_now end at old new s more = at_sample q after s.items end at s.page s.next more

-- a tree that is lent, as the place to go on from
pub resumed : (r : Option (Bor Tree)) → resume_point r ≡ option_map data_of (option_copied r)
resumed None = refl
resumed (Some t) = refl

-- a walk past a sample, or past nothing, is not refused
pub not_refused : (q : Question) (after : Option Data) → IfSome after (IsSampleOf q) → IsSomeAnd after (λ a. IsSampleOf q a → ⊥) → ⊥
not_refused q None sample none = none
not_refused q (Some a) sample none = none sample
