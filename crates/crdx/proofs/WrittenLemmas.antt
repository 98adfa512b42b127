-- Lines in blocks, and what is out of them where a sink stops.
use Rattle.std.proofs.Common.{◌≡◌, ℕ, zero, suc, ◌+◌, ◌-◌, ◌^◌, ◌<◌, ◌≤◌, min, Bool, List, [], ◌∷◌, ◌++◌, length, take, drop, get_or, Option, Some, None, refl, sym, ap, ◌∙◌, subst, inl, inr, arith, length-append, drop-cons, length-take, length-drop, add-one, Ok, append_assoc, append-nil}
use Rattle.std.specs.Prelude.{slice_get, IfSome}
use Rattle.std.specs.Io.KnownBytes.{Appends}
use Rattle.std.proofs.KnownBytes.{Appends-trans}
use Rattle.std.proofs.Math.Seq.{take-append-add, take-add}
use Rattle.std.proofs.lemmas.Bool.{cases_lt}
use Rattle.std.proofs.lemmas.Bool.Decides.{nat_tests}
use Rattle.std.proofs.lemmas.Grind.{flat_map-append}
use Rattle.std.proofs.lemmas.List.{same_from_push, take_more, take_all, take-append-drop, take_rest, take-append-le, get_or_append_left, get_or-append-add}
use Rattle.std.proofs.lemmas.Option.{slice_get_cases, slice_get-get_or, get_or_from_slice_get}
use Rattle.jtree.specs.Data.{Data}
use Rattle.crdx.specs.Output.Line.{newline, printed, line, lines}
use Rattle.jtree.specs.Text.{compact}
use Rattle.jtree.specs.Last.{last_depth, with_last}
use Rattle.jtree.specs.PartText.{front_text}
use Rattle.crdx.specs.Output.Sink.{failures_after}
use Rattle.crdx.specs.Output.PartialOutput.{IsCutBetweenLines, IsCutWithinLine}
use Rattle.crdx.specs.Internal.Block.{HasEnds, Holds, IsFrontOf, IsLineOf, TakesLines, IsCountOfEnds}
use Rattle.crdx.specs.declared.walk.blocks.Front.{Front}
use Rattle.crdx.specs.declared.walk.line.Envelope.{Envelope}

below : (items : List Data) (n : ℕ) (next : Data) → slice_get items n ≡ Some next → n < length items
below items n next is = elim (slice_get_cases items n).1 [ inl found ↦ found.1 | inr past ↦ let none = past.1 in cc ]

module _ (e : Option Envelope) where
  pub lines-append : (xs ys : List Data) → lines e (xs ++ ys) ≡ lines e xs ++ lines e ys
  lines-append xs ys = flat_map-append (line e) xs ys

  pub lines_more : (xs : List Data) (v : Data) → lines e (xs ++ v ∷ []) ≡ lines e xs ++ line e v
  lines_more xs v = lines-append xs (v ∷ []) ∙ ap (λ l. lines e xs ++ l) (append-nil (line e v))

  -- one line more, and its end
  pub ends_more : (items : List Data) (v : Data) (ends : List ℕ) (n : ℕ) → HasEnds e items ends → n ≡ length (lines e (items ++ v ∷ [])) → HasEnds e (items ++ v ∷ []) (ends ++ n ∷ [])
  ends_more items v ends n h is =
      let more : length (ends ++ n ∷ []) ≡ length (items ++ v ∷ []) = omega (arith, length-append ends (n ∷ []), length-append items (v ∷ []), h.each) in
      record {
        each = more;
        at = λ k lt. elim (cases_lt k (length items)) [
          | inl before ↦ get_or_append_left ends (n ∷ []) 0 k (omega (arith, before, h.each))
              ∙ (h.at k before ∙ ap (λ us. length (lines e us)) (sym (take-append-le (k + 1) items (v ∷ []) (omega (arith, before)))))
          | inr past ↦
              let last : k ≡ length ends + 0 = omega (arith, past, lt, length-append items (v ∷ []), h.each) in
              ap (λ i. get_or (ends ++ n ∷ []) i 0) last ∙ (get_or-append-add ends (n ∷ []) 0 0
              ∙ (is ∙ ap (λ us. length (lines e us)) (sym (take_all (k + 1) (items ++ v ∷ []) (omega (arith, past, length-append items (v ∷ [])))))))
        ];
      }

  -- the lines whose ends lie within what is taken are taken
  reached : (items : List Data) (ends : List ℕ) (taken n : ℕ) → HasEnds e items ends → ((k : ℕ) → k < n → get_or ends k 0 ≤ taken) → n ≤ length items → length (lines e (take n items)) ≤ taken
  reached items ends taken zero h whole le = omega arith
  reached items ends taken (suc k) h whole le =
      let is : get_or ends k 0 ≡ length (lines e (take (suc k) items)) = rw add-one at (h.at k (omega arith)) in
      subst (λ n. n ≤ taken) is (whole k (omega arith))

  -- a cut within the second of three pieces
  cut : (A B C : List ℕ) (t : ℕ) → length A ≤ t → t < length A + length B → take t (A ++ (B ++ C)) ≡ A ++ take (t - length A) B
  cut A B C t low high =
      let is : t ≡ length A + (t - length A) = omega arith in
      ap (λ n. take n (A ++ (B ++ C))) is ∙ (take-append-add A (B ++ C) (t - length A)
      ∙ ap (λ l. A ++ l) (take-append-le (t - length A) B C (omega (arith, low, high))))

  -- what is taken of lines ends within the one after the whole ones
  pub cut_lines : (items : List Data) (ends : List ℕ) (taken n : ℕ) (old new : Option (List ℕ)) → HasEnds e items ends → IsCountOfEnds ends taken n → taken < length (lines e items)
      → Appends old new (take taken (lines e items)) → IsCutWithinLine e items n old new
  cut_lines items ends taken n old new h c lt out =
      let low : length (lines e (take n items)) ≤ taken = reached items ends taken n h c.whole (omega (arith, c.within, h.each)) in
      elim (slice_get_cases items n).1 [
        | inl found ↦
            let next = found.0 in
            let A = lines e (take n items) in
            let C = lines e (drop (suc n) items) in
            let tail : drop n items ≡ next ∷ drop (suc n) items = drop-cons items n next found.1 ∙ ap (λ u. u ∷ drop (suc n) items) found.3 in
            let parts : items ≡ take n items ++ (next ∷ drop (suc n) items) = sym (take-append-drop n items) ∙ ap (λ r. take n items ++ r) tail in
            let whole : lines e items ≡ A ++ (line e next ++ C) = ap (lines e) parts ∙ lines-append (take n items) (next ∷ drop (suc n) items) in
            let more : take (n + 1) items ≡ take n items ++ next ∷ [] = take_more items n next found.1 ∙ ap (λ u. take n items ++ u ∷ []) found.3 in
            let size : get_or ends n 0 ≡ length A + length (line e next) =
            h.at n found.1 ∙ (ap (λ us. length (lines e us)) more ∙ (ap (λ l. length l) (lines_more (take n items) next) ∙ length-append A (line e next))) in
            let high : taken < length A + length (line e next) = subst (λ m. taken < m) size (c.next (omega (arith, h.each, found.1))) in
            record {
              next = next;
              is = found.2;
              part = take (taken - length A) (line e next);
              beginning = (taken - length A, omega (arith, low, high), refl);
              out = subst (Appends old new) (ap (λ l. take taken l) whole ∙ cut A (line e next) C taken low high) out;
            }
        | inr past ↦
            let all : take n items ≡ items = take_all n items past.0 in
            let full : length (lines e items) ≤ taken = subst (λ us. length (lines e us) ≤ taken) all low in
            absurd (omega (arith, full, lt))
      ]

  -- where not all lines are out, nothing of the next one is
  pub cut_before_line : (items : List Data) (n : ℕ) (old new : Option (List ℕ)) → IsCutBetweenLines e items n old new → IsCutWithinLine e items n old new
  cut_before_line items n old new b = elim (slice_get_cases items n).1 [
    | inl found ↦ record {
      next = found.0;
      is = found.2;
      part = [];
      beginning = (0, omega (arith, length-append (compact (printed e found.0)) (newline ∷ [])), refl);
      out = subst (Appends old new) (sym (append-nil (lines e (take n items)))) b.out;
    }
    | inr past ↦ absurd (omega (arith, past.0, b.fewer))
  ]

  -- the lines of one item more
  pub takes_more : (e_then e_now : Option Envelope) (items : List Data) (v : Data) (bytes ends mid_bytes mid_ends new_bytes new_ends : List ℕ) (n : ℕ) (known_then known : Bool) (line_then l : List ℕ) (front_then f : Option Front) → e_now ≡ e_then
      → TakesLines e e_then items bytes ends mid_bytes mid_ends known_then line_then front_then → IsLineOf e_then v l f → new_bytes ≡ mid_bytes ++ l → new_ends ≡ mid_ends ++ n ∷ [] → n ≡ length new_bytes
      → TakesLines e e_now (items ++ v ∷ []) bytes ends new_bytes new_ends known l f
  takes_more e_then e_now items v bytes ends mid_bytes mid_ends new_bytes new_ends n known_then known line_then l front_then f stays t is_line more ended is =
      let mine : l ≡ line e v = is_line.0 ∙ ap (λ f. line f v) t.same in
      record {
        same = stays ∙ t.same;
        holds = λ before h.
            let held = t.holds before h in
            let joined = append_assoc before items (v ∷ []) in
            let written : new_bytes ≡ lines e ((before ++ items) ++ v ∷ []) = more ∙ (ap (λ m. m ++ l) held.written ∙ (ap (λ m. lines e (before ++ items) ++ m) mine ∙ sym (lines_more (before ++ items) v))) in
            let there = ends_more (before ++ items) v mid_ends n held.ended (is ∙ ap (λ m. length m) written) in
            subst (λ us. Holds e us new_bytes new_ends) joined (record { written = written; ended = subst (HasEnds e ((before ++ items) ++ v ∷ [])) (sym ended) there });
        last = λ yes before u same. let is = (same_from_push items before v u same).1 in (mine ∙ ap (line e) is, subst (λ d. IsFrontOf d f) is is_line.1);
      }

  -- lines in front of some more, of which the first ones are taken
  pub lines_front : (front items rest : List Data) (n : ℕ) → n ≤ length items → lines e (take (length front + n) (front ++ (items ++ rest))) ≡ lines e front ++ lines e (take n items)
  lines_front front items rest n le =
      ap (lines e) (take-append-add front (items ++ rest) n ∙ ap (λ us. front ++ us) (take-append-le n items rest le)) ∙ lines-append front (take n items)

  -- what is cut within a line is so between lines that are out and lines to come
  pub cut_within : (front items rest : List Data) (n : ℕ) (old mid new : Option (List ℕ)) → Appends old mid (lines e front) → IsCutWithinLine e items n mid new
      → IsCutWithinLine e (front ++ (items ++ rest)) (length front + n) old new
  cut_within front items rest n old mid new before c =
      let joined = front ++ (items ++ rest) in
      let within = below items n c.next c.is in
      let moved : get_or joined (length front + n) c.next ≡ c.next =
      get_or-append-add front (items ++ rest) n c.next ∙ (get_or_append_left items rest c.next n within ∙ get_or_from_slice_get items n c.next c.next c.is) in
      let inside : length front + n < length joined = omega (arith, length-append front (items ++ rest), length-append items rest, within) in
      let text : lines e front ++ (lines e (take n items) ++ c.part) ≡ lines e (take (length front + n) joined) ++ c.part =
      sym (append_assoc (lines e front) (lines e (take n items)) c.part) ∙ ap (λ l. l ++ c.part) (sym (lines_front front items rest n (omega (arith, within)))) in
      record {
        next = c.next;
        is = slice_get-get_or joined (length front + n) c.next inside ∙ ap (λ u. Some u) moved;
        part = c.part;
        beginning = c.beginning;
        out = subst (Appends old new) text (Appends-trans old mid new (lines e front) (lines e (take n items) ++ c.part) before c.out);
      }

-- a sink that took something has not failed
pub took_some : (E : Type 0) (old new n : ℕ) (bytes : List ℕ) → (n ≡ 0 → ⊥) → new ≡ failures_after {E = E} old (Ok n) bytes → new ≡ old
took_some E old new n bytes some is = grind (arith, nat_tests)

module _ (bytes : List ℕ) (at n : ℕ) where
  pub put_within : at ≤ length bytes → n ≤ length (take (length bytes - at) (drop at bytes)) → at + n ≤ length bytes
  put_within le within = omega (arith, le, within, length-take (length bytes - at) (drop at bytes), length-drop at bytes)

  pub put_more : (old mid new : Option (List ℕ)) → Appends old mid (take at bytes) → Appends mid new (take n (take (length bytes - at) (drop at bytes))) → Appends old new (take (at + n) bytes)
  put_more old mid new before after =
      subst (Appends old new) (sym (take-add at n bytes)) (Appends-trans old mid new (take at bytes) (take n (drop at bytes)) before
      (subst (λ l. Appends mid new (take n l)) (take_rest bytes at) after))

-- ---- a line that is overwritten

regroup : (front node rest end : List ℕ) → (front ++ (node ++ rest)) ++ end ≡ front ++ (node ++ (rest ++ end))
regroup front node rest end = simp append_assoc

-- without an envelope: around the last node's text
pub split_line : (w u : Data) (old front rest : List ℕ) → old ≡ line None w → compact w ≡ front ++ (compact u ++ rest) → old ≡ front ++ (compact u ++ (rest ++ newline ∷ []))
split_line w u old front rest is text = is ∙ (ap (λ l. l ++ newline ∷ []) text ∙ regroup front (compact u) rest (newline ∷ []))

-- and joined again
pub joined_line : (v w u : Data) (new front rest : List ℕ) → w ≡ v → compact w ≡ front ++ (compact u ++ rest) → new ≡ front ++ (compact u ++ (rest ++ newline ∷ [])) → new ≡ line None v
joined_line v w u new front rest own text is = is ∙ (sym (regroup front (compact u) rest (newline ∷ [])) ∙ (ap (λ l. l ++ newline ∷ []) (sym text) ∙ ap (λ d. line None d) own))

-- how many bytes are after it
pub after_node : (old front node rest : List ℕ) (deep depth after : ℕ) → old ≡ front ++ (node ++ (rest ++ newline ∷ [])) → length old < 2 ^ 64 → length rest ≡ deep → depth ≡ min deep (2 ^ 64 - 1) → after ≡ min (depth + 1) (2 ^ 64 - 1)
    → length (rest ++ newline ∷ []) ≡ after
after_node old front node rest deep depth after is small size known next =
    omega (arith, ap (λ l. length l) is, length-append front (node ++ (rest ++ newline ∷ [])), length-append node (rest ++ newline ∷ []), length-append rest (newline ∷ []), small, size, known, next)

-- ---- a line that is written anew from a part on

-- where the part begins, with another last node that is at least as deep
pub kept : (then now : Option Front) (depth : ℕ) (v w : Data) → IfSome now (λ f. (then ≡ Some f) × (f.depth ≤ depth)) → depth ≤ last_depth v → ((n : ℕ) (d u : Data) → n ≤ last_depth d → front_text n (with_last d u) ≡ front_text n d)
    → IsFrontOf (with_last v w) then → IsFrontOf v now
kept then None depth v w is deep law begins = tt
kept then (Some f) depth v w is deep law begins =
    let there : f.bytes ≡ length (front_text f.depth (with_last v w)) = subst (IsFrontOf (with_last v w)) is.0 begins in
    there ∙ ap (λ l. length l) (law f.depth v w (omega (arith, is.1, deep)))
