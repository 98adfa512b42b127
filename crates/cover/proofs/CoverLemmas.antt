-- The law `lines_cover`: what a cover is by itself.
use Rattle.std.specs.Prelude.{◌∷◌, [], ◌++◌, ◌⊎◌, List, All, Contains}
use Rattle.std.proofs.Common.{inl, inr, arith}
use Rattle.std.proofs.lemmas.List.Elements.{All-push, All-weaker, Contains-append_left, Contains-push}
use Rattle.std.proofs.lemmas.List.Quantifiers.{all_pairs_push}
use Rattle.jtree.specs.Data.{Data}
use Rattle.jtree.specs.Order.{tree_cmp}
use Rattle.plan.specs.Samples.Question.{Question}
use Rattle.enumerate.specs.Least.{IsLeast}
use Rattle.cover.specs.Wanted.{Wanted}
use Rattle.cover.specs.Cover.{Line, Covered, Has, IsHadBy, Adds, had, never, first, AreCovered, none, more, IsCover}

-- it is had by the object of a line, or is missed
abbrev IsSettled : Question → Covered → Wanted → Type 0
IsSettled q c p = IsHadBy q p c.lines ⊎ Contains c.missed p

with_line : (q : Question) (c : Covered) (l : Line) (p : Wanted) → IsSettled q c p → IsSettled q (record { lines = c.lines ++ l ∷ []; missed = c.missed }) p
with_line q c l p (inl h) = inl (h.0, (Contains-append_left c.lines (l ∷ []) h.0 h.1.0, h.1.1))
with_line q c l p (inr m) = inr m

with_missed : (q : Question) (c : Covered) (w p : Wanted) → IsSettled q c p → IsSettled q (record { lines = c.lines; missed = c.missed ++ w ∷ [] }) p
with_missed q c w p (inl h) = inl h
with_missed q c w p (inr m) = inr (Contains-append_left c.missed (w ∷ []) p m)

one_more : (q : Question) (wanted : List Wanted) (before : Covered) (w : Wanted) (after : Covered) → IsCover q wanted before → Adds q w before after → IsCover q (wanted ++ w ∷ []) after
one_more q wanted before w after c (had h) = record { firsts = c.firsts; new = c.new; all = All-push (IsSettled q before) wanted w c.all (inl h); missed = c.missed }
one_more q wanted before w after c (first new v least) =
    let l : Line = record { wanted = w; object = v } in
    let now : Covered = record { lines = before.lines ++ l ∷ []; missed = before.missed } in
    record {
      firsts = All-push (λ l. IsLeast tree_cmp (Has q l.wanted) l.object) before.lines l c.firsts least;
      new = all_pairs_push (λ l m. ¬ Has q m.wanted l.object) before.lines l c.new new;
      all = All-push (IsSettled q now) wanted w (All-weaker (IsSettled q before) (IsSettled q now) (with_line q before l) wanted c.all) (inl (l, (Contains-push before.lines l, least.is)));
      missed = c.missed;
    }
one_more q wanted before w after c (never none_has) =
    let now : Covered = record { lines = before.lines; missed = before.missed ++ w ∷ [] } in
    record {
      firsts = c.firsts;
      new = c.new;
      all = All-push (IsSettled q now) wanted w (All-weaker (IsSettled q before) (IsSettled q now) (with_missed q before w) wanted c.all) (inr (Contains-push before.missed w));
      missed = All-push (λ p. (v : Data) → ¬ Has q p v) before.missed w c.missed none_has;
    }

pub is_cover : (q : Question) (wanted : List Wanted) (c : Covered) → AreCovered q wanted c → IsCover q wanted c
is_cover q wanted c none = record { firsts = λ k d lt. absurd (omega (arith, lt)); new = λ i j d lt within. absurd (omega (arith, within)); all = λ k d lt. absurd (omega (arith, lt)); missed = λ k d lt. absurd (omega (arith, lt)) }
is_cover q wanted c (more ps before w after old adds) = one_more q ps before w after (is_cover q ps before old) adds

-- each line has a sample
pub lines_samples : (q : Question) (wanted : List Wanted) (c : Covered) → AreCovered q wanted c → All (λ l. Has q l.wanted l.object) c.lines
lines_samples q wanted c a = All-weaker (λ l. IsLeast tree_cmp (Has q l.wanted) l.object) (λ l. Has q l.wanted l.object) (λ l h. h.is) c.lines (is_cover q wanted c a).firsts
