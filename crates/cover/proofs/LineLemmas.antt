-- What a path adds to the lines.
use Rattle.std.proofs.Common.{append_assoc, ◌≡◌, ◌+◌, ◌<◌, ℕ, List, [], ◌∷◌, ◌++◌, true, false, Some, None, refl, sym, ap, subst, ◌∙◌, arith, All, Contains, map, length, get_or, take}
use Rattle.std.proofs.lemmas.List.{get_or-map, map-append, length-map, take_more}
use Rattle.std.proofs.lemmas.List.Elements.{All-map, All-weaker, All-contains}
use Rattle.jtree.specs.Data.{Data}
use Rattle.jtree.specs.View.{data_of}
use Rattle.jtree.specs.declared.value.Tree.{Tree}
use Rattle.schema.specs.Nodes.Node.{Node}
use Rattle.explain.specs.Fields.Declared.{IsDeclared, AreFields}
use Rattle.explain.specs.Fields.PathFault.{IsTextOf}
use Rattle.explain.specs.Fields.Field.{Field, field_at, described}
use Rattle.explain.specs.Fields.View.{field_of}
use Rattle.explain.specs.declared.field.Field.{Field as CodeField}
use Rattle.explain.specs.Paths.FieldPath.{FieldPath}
use Rattle.explain.specs.Paths.PathText.{path_text}
use Rattle.plan.specs.Samples.Question.{Question}
use Rattle.enumerate.specs.Page.{IsSampleOf}
use Rattle.cover.specs.There.{is_there}
use Rattle.cover.specs.Wanted.{Wanted, with_any, with_value}
use Rattle.cover.specs.Cover.{Line, Covered, Has, Adds, had, never, first, AreCovered, more}
use Rattle.cover.specs.View.{wanted_of, line_of, lines_of, covered_of}
use Rattle.cover.specs.Internal.First.{IsFirstSample}
use Rattle.cover.specs.declared.covering.Line.{Line as CodeLine}
use Rattle.cover.specs.declared.covering.Covered.{Covered as CodeCovered}
use Rattle.cover.specs.declared.covering.Wanted.{Wanted as CodeWanted}
use Rattle.cover.proofs.CoverLemmas.{is_cover, lines_samples}
use Rattle.cover.proofs.PathLemmas.{OneText}
use Rattle.cover.proofs.ThereLemmas.{there_before}
use Rattle.cover.proofs.SampleLemmas.{has_text, text_there, first_has}

-- ---- lines

contains_map : {A B : Type 0} (f : A → B) (xs : List A) (x : A) → Contains xs x → Contains (map f xs) (f x)
contains_map f xs x h = let long = length-map xs f in let lt = h.1 in (h.0, omega arith, get_or-map f xs h.0 x (f x) h.1 ∙ ap f h.2)

pub had_line : (q : Question) (w : Wanted) (p : FieldPath) → path_text p ≡ w.path → (c : CodeCovered) → All (λ l. IsSampleOf q l.object) (lines_of c.lines.items)
    → (l : CodeLine) → Contains c.lines.items l → is_there w.value p (data_of l.tree) ≡ true → Adds q w (covered_of c) (covered_of c)
had_line q w p e c samples l has there =
    let line = contains_map line_of c.lines.items l has in
    had (line_of l, (line, has_text q w p (data_of l.tree) e (All-contains (λ l. IsSampleOf q l.object) (lines_of c.lines.items) (line_of l) samples line) there))

new_lines : OneText → (q : Question) (w : Wanted) (p : FieldPath) → path_text p ≡ w.path → (ls : List CodeLine) → All (λ l. is_there w.value p (data_of l.tree) ≡ false) ls → All (λ l. ¬ Has q w l.object) (lines_of ls)
new_lines one q w p e ls new = All-map (λ l. ¬ Has q w l.object) line_of ls
    (All-weaker (λ l. is_there w.value p (data_of l.tree) ≡ false) (λ l. ¬ Has q w (data_of l.tree)) (λ l f h. let t = text_there one q w p (data_of l.tree) e h in cc) ls new)

first_line : OneText → (q : Question) (w : Wanted) (p : FieldPath) → path_text p ≡ w.path → (c d : CodeCovered) (l : CodeLine)
    → All (λ l. is_there w.value p (data_of l.tree) ≡ false) c.lines.items → IsFirstSample q w.value p (Some (data_of l.tree)) → wanted_of l.wanted ≡ w
    → d.lines.items ≡ c.lines.items ++ l ∷ [] → d.missed.items ≡ c.missed.items → Adds q w (covered_of c) (covered_of d)
first_line one q w p e c d l new least named pushed kept =
    let after : covered_of d ≡ record { lines = lines_of c.lines.items ++ record { wanted = w; object = data_of l.tree } ∷ []; missed = map wanted_of c.missed.items } =
    rw (pushed, kept, map-append line_of c.lines.items (l ∷ []), named) refl in
    subst (λ x. Adds q w (covered_of c) x) (sym after)
    (first (new_lines one q w p e c.lines.items new) (data_of l.tree) (first_has one q w p (data_of l.tree) e least))

missed_more : (q : Question) (w : Wanted) (c d : CodeCovered) (x : CodeWanted) → d.lines.items ≡ c.lines.items → d.missed.items ≡ c.missed.items ++ x ∷ [] → wanted_of x ≡ w
    → ((v : Data) → ¬ Has q w v) → Adds q w (covered_of c) (covered_of d)
missed_more q w c d x kept pushed named none =
    let after : covered_of d ≡ record { lines = lines_of c.lines.items; missed = map wanted_of c.missed.items ++ w ∷ [] } =
    rw (kept, pushed, map-append wanted_of c.missed.items (x ∷ []), named) refl in
    subst (λ y. Adds q w (covered_of c) y) (sym after) (never none)

-- ---- declared paths

declared_text : (root : Node) (p : FieldPath) (f : Field) → IsDeclared root p → field_at root p ≡ Some f → IsTextOf (IsDeclared root) f.path
declared_text root p f declared e =
    let here : Some (described root p declared.1.0) ≡ Some f = rw declared.1.1 at e in
    let same : path_text p ≡ f.path = cc in
    (p, same, declared)

pub declared_path : (root : Node) (fs : List Field) → AreFields root fs → (i : ℕ) (d : Field) → i < length fs → IsTextOf (IsDeclared root) (get_or fs i d).path
declared_path root fs a i d lt =
    let ps = a.0 in
    let long : length ps ≡ length fs = sym (length-map ps (field_at root)) ∙ (ap length a.2 ∙ length-map fs Some) in
    let within : i < length ps = omega arith in
    let same : field_at root (get_or ps i []) ≡ Some (get_or fs i d) =
    sym (get_or-map (field_at root) ps i [] None within) ∙ (ap (λ xs. get_or xs i None) a.2 ∙ get_or-map Some fs i d None lt) in
    declared_text root (get_or ps i []) (get_or fs i d) (a.1.each i [] within) same

-- the steps that were found are those of the declared path
pub steps_declared : OneText → (root : Node) (p : FieldPath) (text : List ℕ) → path_text p ≡ text → IsTextOf (IsDeclared root) text → IsDeclared root p
steps_declared one root p text e d = subst (IsDeclared root) (one d.0 p (d.1 ∙ sym e)) d.2

-- ---- the loop over the fields

abbrev pub text_of : CodeField → List ℕ
text_of f = (field_of f).path

pub declared_field : (root : Node) (listing : List Field) (fs : List CodeField) (i : ℕ) (f : CodeField) → AreFields root listing → map field_of fs ≡ listing → i < length fs → f ≡ get_or fs i f
    → IsTextOf (IsDeclared root) (text_of f)
declared_field root listing fs i f a same lt is =
    let long = length-map fs field_of in
    let all : AreFields root (map field_of fs) = subst (AreFields root) (sym same) a in
    let within : i < length (map field_of fs) = omega arith in
    subst (λ g. IsTextOf (IsDeclared root) g.path) (get_or-map field_of fs i f (field_of f) lt ∙ ap field_of (sym is)) (declared_path root (map field_of fs) all i (field_of f) within)

-- ---- the values of a path

pub more_values : (wanted : List Wanted) (path : List ℕ) (xs : List Tree) (i : ℕ) (x : Tree) → i < length xs → x ≡ get_or xs i x
    → (wanted ++ map (with_value path) (map (λ v. data_of v) (take i xs))) ++ with_value path (data_of x) ∷ [] ≡ wanted ++ map (with_value path) (map (λ v. data_of v) (take (i + 1) xs))
more_values wanted path xs i x lt is =
    let step : take (i + 1) xs ≡ take i xs ++ x ∷ [] = take_more xs i x lt ∙ ap (λ y. take i xs ++ y ∷ []) (sym is) in
    let all : map (with_value path) (map (λ v. data_of v) (take (i + 1) xs)) ≡ map (with_value path) (map (λ v. data_of v) (take i xs)) ++ with_value path (data_of x) ∷ [] =
    ap (λ ys. map (with_value path) (map (λ v. data_of v) ys)) step ∙ (ap (map (with_value path)) (map-append (λ v. data_of v) (take i xs) (x ∷ []))
    ∙ map-append (with_value path) (map (λ v. data_of v) (take i xs)) (data_of x ∷ [])) in
    append_assoc wanted (map (with_value path) (map (λ v. data_of v) (take i xs))) (with_value path (data_of x) ∷ []) ∙ ap (λ ys. wanted ++ ys) (sym all)

-- ---- one wanted thing

abbrev AreSamples : Question → List Line → Type 0
AreSamples q ls = All (λ l. IsSampleOf q l.object) ls

samples_of : (q : Question) (wanted : List Wanted) (c : Covered) → AreCovered q wanted c → AreSamples q c.lines
samples_of q wanted c a = All-weaker (λ l. Has q l.wanted l.object) (λ l. IsSampleOf q l.object) (λ l x. x.0) c.lines (lines_samples q wanted c a)

-- what one more adds
pub added_had : (q : Question) (wanted : List Wanted) (w : Wanted) (p : FieldPath) → path_text p ≡ w.path → (c : CodeCovered) → AreCovered q wanted (covered_of c)
    → (l : CodeLine) → Contains c.lines.items l → is_there w.value p (data_of l.tree) ≡ true → AreCovered q (wanted ++ w ∷ []) (covered_of c)
added_had q wanted w p e c a l has there = more wanted (covered_of c) w (covered_of c) a (had_line q w p e c (samples_of q wanted (covered_of c) a) l has there)

pub added_line : OneText → (q : Question) (wanted : List Wanted) (w : Wanted) (p : FieldPath) → path_text p ≡ w.path → (c d : CodeCovered) (l : CodeLine) → AreCovered q wanted (covered_of c)
    → All (λ l. is_there w.value p (data_of l.tree) ≡ false) c.lines.items → IsFirstSample q w.value p (Some (data_of l.tree)) → wanted_of l.wanted ≡ w
    → d.lines.items ≡ c.lines.items ++ l ∷ [] → d.missed.items ≡ c.missed.items → AreCovered q (wanted ++ w ∷ []) (covered_of d)
added_line one q wanted w p e c d l a new least named pushed kept = more wanted (covered_of c) w (covered_of d) a (first_line one q w p e c d l new least named pushed kept)

pub added_missed : OneText → (q : Question) (wanted : List Wanted) (w : Wanted) (p : FieldPath) → path_text p ≡ w.path → (c d : CodeCovered) (x : CodeWanted) → AreCovered q wanted (covered_of c)
    → IsFirstSample q w.value p None → wanted_of x ≡ w → d.lines.items ≡ c.lines.items → d.missed.items ≡ c.missed.items ++ x ∷ [] → AreCovered q (wanted ++ w ∷ []) (covered_of d)
added_missed one q wanted w p e c d x a none named kept pushed = more wanted (covered_of c) w (covered_of d) a
    (missed_more q w c d x kept pushed named (λ v h. none v (h.0, text_there one q w p v e h)))

-- a beginning of its path is missed
pub added_below : OneText → (q : Question) (wanted : List Wanted) (w : Wanted) (p a b : FieldPath) → path_text p ≡ w.path → p ≡ a ++ b
    → (c d : CodeCovered) (x : CodeWanted) → AreCovered q wanted (covered_of c) → Contains (map wanted_of c.missed.items) (with_any (path_text a)) → wanted_of x ≡ w → d.lines.items ≡ c.lines.items
    → d.missed.items ≡ c.missed.items ++ x ∷ [] → AreCovered q (wanted ++ w ∷ []) (covered_of d)
added_below one q wanted w p a b e split c d x covered has named kept pushed =
    let nowhere = All-contains (λ t. (v : Data) → ¬ Has q t v) (map wanted_of c.missed.items) (with_any (path_text a)) (is_cover q wanted (covered_of c) covered).missed has in
    more wanted (covered_of c) w (covered_of d) covered (missed_more q w c d x kept pushed named
    (λ v h. nowhere v (has_text q (with_any (path_text a)) a v refl h.0 (there_before w.value a b v (subst (λ x. is_there w.value x v ≡ true) split (text_there one q w p v e h))))))
