-- Covers of the first declared paths.
use Rattle.std.proofs.Common.{◌≡◌, ◌++◌, ◌∷◌, [], ◌≤◌, ◌<◌, ◌+◌, ℕ, List, Bool, refl, sym, ap, subst, ◌∙◌, arith, append-nil, length, take, get_or, map}
use Rattle.std.proofs.lemmas.List.{get_or-map, length-map, map-append, take_more, take_all}
use Rattle.jtree.specs.Data.{Data}
use Rattle.explain.specs.Fields.Declared.{AreFields}
use Rattle.explain.specs.Fields.Field.{Field}
use Rattle.explain.specs.Fields.View.{field_of}
use Rattle.explain.specs.declared.field.Field.{Field as CodeField}
use Rattle.plan.specs.Samples.Question.{Question}
use Rattle.cover.specs.Cover.{Covered, AreCovered, none, IsCoverOf}
use Rattle.cover.specs.Wanted.{Wanted, AreValuesOf, AreWanted, with_any, with_value}
use Rattle.cover.specs.Wanted as wanted
use Rattle.cover.specs.Covering.{Covering, IsAdvanced}
use Rattle.cover.specs.View.{covered_of, line_of, lines_of}
use Rattle.cover.specs.Internal.Known.{AreKnown, IsCovering, IsGrown}
use Rattle.cover.specs.declared.covering.Covered.{Covered as CodeCovered}
use Rattle.cover.specs.declared.known.Front.{Front}

-- what the path of this text adds, and what it adds with each of its values
abbrev pub AddsPath : Bool → Question → List ℕ → Covered → Covered → Type 0
AddsPath values q path c d = (wanted : List Wanted) → AreCovered q wanted c
    → (vs : List Data) × AreValuesOf values q path vs × AreCovered q (wanted ++ with_any path ∷ map (with_value path) vs) d

pub none_covered : (values : Bool) (q : Question) (fields : List Field) → AreFields q.root fields → IsCoverOf values q (λ paths. take 0 paths) fields (record { lines = []; missed = [] })
none_covered values q fields are = record { are_fields = are; wanted = []; are_wanted = wanted.none; covered = none }

pub next_covered : (values : Bool) (q : Question) (fields : List Field) (n : ℕ) (f : Field) (c d : Covered) → n < length fields → f ≡ get_or fields n f → AddsPath values q f.path c d
    → IsCoverOf values q (λ paths. take n paths) fields c → IsCoverOf values q (λ paths. take (n + 1) paths) fields d
next_covered values q fields n f c d lt is adds so_far =
    let paths = map (λ f. f.path) fields in
    let long : length paths ≡ length fields = length-map fields (λ f. f.path) in
    let path : get_or paths n f.path ≡ f.path = get_or-map (λ f. f.path) fields n f f.path lt ∙ ap (λ g. g.path) (sym is) in
    let next : take n paths ++ f.path ∷ [] ≡ take (n + 1) paths = ap (λ p. take n paths ++ p ∷ []) (sym path) ∙ sym (take_more paths n f.path (omega (arith, lt, long))) in
    let more = adds so_far.wanted so_far.covered in
    let all = so_far.wanted ++ with_any f.path ∷ map (with_value f.path) more.0 in
    record {
      are_fields = so_far.are_fields;
      wanted = all;
      are_wanted = subst (λ ps. AreWanted values q ps all) next (wanted.more (take n paths) so_far.wanted f.path more.0 so_far.are_wanted more.1);
      covered = more.2;
    }

pub all_covered : (values : Bool) (q : Question) (fields : List Field) (n : ℕ) (c : Covered) → length fields ≤ n → IsCoverOf values q (λ paths. take n paths) fields c → IsCoverOf values q (λ paths. paths) fields c
all_covered values q fields n c long so_far =
    let paths = map (λ f. f.path) fields in
    let within : length paths ≡ length fields = length-map fields (λ f. f.path) in
    record {
      are_fields = so_far.are_fields;
      wanted = so_far.wanted;
      are_wanted = subst (λ ps. AreWanted values q ps so_far.wanted) (take_all n paths (omega (arith, long, within))) so_far.are_wanted;
      covered = so_far.covered;
    }

-- ---- covers in the code

pub found_field : (fs : List CodeField) (listing : List Field) (n : ℕ) (f : CodeField) → map field_of fs ≡ listing → n < length fs → f ≡ get_or fs n f
    → (n < length listing) × (field_of f ≡ get_or listing n (field_of f))
found_field fs listing n f same lt is =
    let long = length-map fs field_of in
    let within : n < length (map field_of fs) = omega (arith, lt, long) in
    let at : field_of f ≡ get_or (map field_of fs) n (field_of f) = ap field_of is ∙ sym (get_or-map field_of fs n f (field_of f) lt) in
    (subst (λ l. n < length l) same within, subst (λ l. field_of f ≡ get_or l n (field_of f)) same at)

pub no_field : (fs : List CodeField) (listing : List Field) (n : ℕ) → map field_of fs ≡ listing → length fs ≤ n → length listing ≤ n
no_field fs listing n same long = let l = length-map fs field_of in subst (λ l. length l ≤ n) same (omega (arith, l, long))

pub next_covering : (q r : Question) (values : Bool) (listing : List Field) (n : ℕ) (f : Field) (path : List ℕ) (c d : CodeCovered) (before after : List Front) → n < length listing → f ≡ get_or listing n f → path ≡ f.path
    → IsCovering q values listing n c before → r ≡ q → ((x : Question) (wanted : List Wanted) → x ≡ q → AreCovered x wanted (covered_of c)
    → (vs : List Data) × AreValuesOf values x path vs × AreCovered x (wanted ++ with_any path ∷ map (with_value path) vs) (covered_of d))
    → AreKnown d after → IsCovering r values listing (n + 1) d after
next_covering q r values listing n f path c d before after lt is named now same adds known =
    let more = subst (λ p. AddsPath values q p (covered_of c) (covered_of d)) named (λ wanted are. adds q wanted refl are) in
    subst (λ x. IsCovering x values listing (n + 1) d after) (sym same)
    (record { paths = now.paths; cover = next_covered values q listing n f (covered_of c) (covered_of d) lt is more now.cover; known = known })

module _ (q : Question) (values : Bool) (listing : List Field) (n : ℕ) (c : CodeCovered) where
  abbrev so_far : Covering
  so_far = record { question = q; values = values; fields = listing; count = n; covered = covered_of c }

  pub next_advanced : (r : Question) (d : CodeCovered) → r ≡ q → IsGrown c d → IsCoverOf values r (λ paths. take (n + 1) paths) listing (covered_of d)
      → IsAdvanced so_far (record { question = r; values = values; fields = listing; count = n + 1; covered = covered_of d })
  next_advanced r d same grown cover = record {
    question = same;
    values = refl;
    fields = refl;
    count = λ _. refl;
    lines = (map line_of grown.lines.0, ap (map line_of) grown.lines.1 ∙ map-append line_of c.lines.items grown.lines.0);
    cover = cover;
  }

  pub at_end : length listing ≤ n → IsCoverOf values q (λ paths. take n paths) listing (covered_of c) → IsAdvanced so_far so_far
  at_end long cover = record {
    question = refl;
    values = refl;
    fields = refl;
    count = λ lt. absurd (omega (arith, lt, long));
    lines = ([], sym (append-nil (lines_of c.lines.items)));
    cover = cover;
  }
