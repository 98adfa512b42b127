-- The lines of a cover that are out.
use Rattle.std.proofs.Common.{◌≡◌, ◌++◌, ◌+◌, ◌≤◌, ℕ, List, [], ◌∷◌, Bool, Option, refl, sym, ap, subst, ◌∙◌, inr, arith, map, length, take, drop}
use Rattle.std.specs.Io.KnownBytes.{Appends}
use Rattle.std.proofs.KnownBytes.{Appends-kept, Appends-trans}
use Rattle.std.proofs.Math.Seq.{drop-append_seam, take-append-add}
use Rattle.std.proofs.lemmas.Grind.{flat_map-append}
use Rattle.std.proofs.lemmas.List.{drop-map, length-append, length-map, map-append, take_all}
use Rattle.jtree.specs.Data.{Data}
use Rattle.jtree.specs.Failures.{HasFailed}
use Rattle.jtree.specs.View.{data_of}
use Rattle.plan.specs.Samples.Question.{Question}
use Rattle.cover.specs.Cover.{Covered, Line, IsCoverBegun, IsWholeCover, objects_of}
use Rattle.cover.specs.View.{covered_of, line_of, lines_of}
use Rattle.cover.specs.Wanted.{AreWanted}
use Rattle.cover.specs.declared.covering.Covered.{Covered as CodeCovered}
use Rattle.cover.specs.declared.covering.Line.{Line as CodeLine}
use Rattle.crdx.specs.Internal.Cause.{IsCoveringCause, IsCutText}
use Rattle.crdx.specs.Output.Line.{line, lines}
use Rattle.crdx.specs.declared.running.causes.Cause.{Cause}
use Rattle.crdx.specs.declared.running.causes.Cause.TheVariants.{Write, NoMemory}
use Rattle.crdx.specs.declared.walk.line.Envelope.{Envelope}

objects_are : (ls : List CodeLine) → map (λ l. l.object) (lines_of ls) ≡ map (λ l. data_of l.tree) ls
objects_are [] = refl
objects_are (l ∷ ls) = ap (λ ds. data_of l.tree ∷ ds) (objects_are ls)

-- where the first lines are those of a cover, the others have its other objects
pub other_objects : (code : CodeCovered) (c d : Covered) (more : List Line) (n : ℕ) → covered_of code ≡ d → d.lines ≡ c.lines ++ more → n ≡ length c.lines
    → objects_of d ≡ objects_of c ++ map (λ l. data_of l.tree) (drop n code.lines.items)
other_objects code c d more n same grown long =
    let others = map (λ l. l.object) more in
    let all : objects_of d ≡ map (λ l. data_of l.tree) code.lines.items = sym (ap objects_of same) ∙ objects_are code.lines.items in
    let split : objects_of d ≡ objects_of c ++ others = ap (map (λ l. l.object)) grown ∙ map-append (λ l. l.object) c.lines more in
    let first : n ≡ length (objects_of c) = long ∙ sym (length-map c.lines (λ l. l.object)) in
    let rest : map (λ l. data_of l.tree) (drop n code.lines.items) ≡ others =
    sym (drop-map (λ l. data_of l.tree) n code.lines.items)
    ∙ (ap (drop n) (sym all ∙ split) ∙ (ap (λ k. drop k (objects_of c ++ others)) first ∙ drop-append_seam (objects_of c) others)) in
    split ∙ ap (λ xs. objects_of c ++ xs) (sym rest)

module _ (e : Option Envelope) (old mid new : Option (List ℕ)) (xs ys zs : List Data) (split : zs ≡ xs ++ ys) (before : Appends old mid (lines e xs)) where
  both : lines e zs ≡ lines e xs ++ lines e ys
  both = ap (lines e) split ∙ flat_map-append (line e) xs ys

  pub more_out : Appends mid new (lines e ys) → Appends old new (lines e zs)
  more_out after = subst (Appends old new) (sym both) (Appends-trans old mid new (lines e xs) (lines e ys) before after)

  -- a beginning of the others is out
  pub beginning_out : (m : ℕ) → Appends mid new (take m (lines e ys)) → (n : ℕ) × Appends old new (take n (lines e zs))
  beginning_out m after =
      let n = length (lines e xs) + m in
      let part : take n (lines e zs) ≡ lines e xs ++ take m (lines e ys) = ap (take n) both ∙ take-append-add (lines e xs) (lines e ys) m in
      (n, subst (Appends old new) (sym part) (Appends-trans old mid new (lines e xs) (take m (lines e ys)) before after))

-- where the first lines are those of a cover, there are at least as many
pub within_lines : (code : CodeCovered) (c d : Covered) (more : List Line) (n : ℕ) → covered_of code ≡ d → d.lines ≡ c.lines ++ more → n ≡ length c.lines → n ≤ length code.lines.items
within_lines code c d more n same grown long =
    let all : length code.lines.items ≡ length c.lines + length more =
    sym (length-map code.lines.items line_of) ∙ (ap (λ x. length x.lines) same ∙ (ap length grown ∙ length-append c.lines more)) in
    omega (arith, all, long)

-- ---- why a cover ended early

module _ (values : Bool) (q : Question) (e : Option Envelope) (old mid new : Option (List ℕ)) (before between now : ℕ) where
  -- lines of a cover were out, and those of the next path are not, or not whole
  pub cut_cause : (n m : ℕ) (c d : Covered) (ys : List Data) → IsCoverBegun values q n c → IsCoverBegun values q m d → objects_of d ≡ objects_of c ++ ys → Appends old mid (lines e (objects_of c)) → between ≡ before
      → (cause : Cause) → IsCutText (lines e ys) mid new between now cause → IsCoveringCause values q e old new before now cause
  cut_cause n m c d ys begun next split out same (Write k) why =
      let o = beginning_out e old mid new (objects_of c) ys (objects_of d) split out why.1 why.2 in
      (subst (λ b. HasFailed b now) same why.0, (m, d, next, o.0, o.1))
  cut_cause n m c d ys begun next split out same NoMemory why = (why.0 ∙ same, inr (n, c, begun, Appends-kept old mid new (lines e (objects_of c)) out why.1))
  cut_cause n m c d ys begun next split out same _ why = absurd why

-- a whole cover is the cover of as many paths as there are
pub all_begun : (values : Bool) (q : Question) (c : Covered) → IsWholeCover values q c → (n : ℕ) × IsCoverBegun values q n c
all_begun values q c (fields, whole) =
    let paths = map (λ f. f.path) fields in
    let all : take (length paths) paths ≡ paths = take_all (length paths) paths (omega arith) in (
      length paths,
      (fields, record { are_fields = whole.are_fields; wanted = whole.wanted; are_wanted = subst (λ ps. AreWanted values q ps whole.wanted) (sym all) whole.are_wanted; covered = whole.covered }),
    )
