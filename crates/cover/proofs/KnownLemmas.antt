-- What is known of paths in a cover under way: it stays where the cover grows, and holds of the paths that continue them.
use Rattle.std.proofs.Common.{◌≡◌, ◌++◌, ◌∷◌, [], ◌≤◌, ◌+◌, List, true, false, Option, None, refl, sym, ap, subst, ◌∙◌, inl, inr, arith, append_assoc, append-nil, All, Contains, length, take, map}
use Rattle.std.proofs.lemmas.List.{map-append, take-append-le, length-append}
use Rattle.std.proofs.lemmas.List.Elements.{All-weaker, Contains-append_left, Contains-push}
use Rattle.jtree.specs.Data.{Data}
use Rattle.jtree.specs.View.{data_of}
use Rattle.jtree.specs.Internal.Lookups.{bool_cases}
use Rattle.explain.specs.Paths.FieldPath.{FieldPath}
use Rattle.explain.specs.Paths.PathText.{path_text}
use Rattle.cover.specs.There.{is_there}
use Rattle.cover.specs.View.{wanted_of}
use Rattle.cover.specs.Wanted.{with_any}
use Rattle.cover.specs.Internal.Known.{IsKnown, IsKnownAbove, AreKnown, IsGrown}
use Rattle.cover.specs.Internal.Ways.{path_of}
use Rattle.cover.specs.declared.covering.Covered.{Covered}
use Rattle.cover.specs.declared.covering.Line.{Line}
use Rattle.cover.specs.declared.covering.Wanted.{Wanted}
use Rattle.cover.specs.declared.known.Front.{Front}
use Rattle.cover.specs.declared.known.Known.{Known}
use Rattle.cover.proofs.ThereLemmas.{there_before}

-- ---- covers that grow

pub grown_same : (c : Covered) → IsGrown c c
grown_same c = record { lines = ([], sym (append-nil c.lines.items)); missed = ([], sym (append-nil c.missed.items)) }

pub grown_on : (c d e : Covered) → IsGrown c d → IsGrown d e → IsGrown c e
grown_on c d e first second = record {
  lines = (first.lines.0 ++ second.lines.0, second.lines.1 ∙ (ap (λ ls. ls ++ second.lines.0) first.lines.1 ∙ append_assoc c.lines.items first.lines.0 second.lines.0));
  missed = (first.missed.0 ++ second.missed.0, second.missed.1 ∙ (ap (λ ws. ws ++ second.missed.0) first.missed.1 ∙ append_assoc c.missed.items first.missed.0 second.missed.0));
}

pub known_on : (c d : Covered) (p : FieldPath) (k : Known) → IsGrown c d → IsKnown c p k → IsKnown d p k
known_on c d p k grown known =
    let long : length d.lines.items ≡ length c.lines.items + length grown.lines.0 = ap length grown.lines.1 ∙ length-append c.lines.items grown.lines.0 in
    let first : take k.lacking c.lines.items ≡ take k.lacking d.lines.items =
    sym (ap (take k.lacking) grown.lines.1 ∙ take-append-le k.lacking c.lines.items grown.lines.0 known.within) in
    let more : map wanted_of d.missed.items ≡ map wanted_of c.missed.items ++ map wanted_of grown.missed.0 = ap (map wanted_of) grown.missed.1 ∙ map-append wanted_of c.missed.items grown.missed.0 in
    record {
      within = let w = known.within in omega (arith, w, long);
      lacking = subst (λ ls. All (λ l. is_there None p (data_of l.tree) ≡ false) ls) first known.lacking;
      missed = λ is. subst (λ ws. Contains ws (with_any (path_text p))) (sym more)
          (Contains-append_left (map wanted_of c.missed.items) (map wanted_of grown.missed.0) (with_any (path_text p)) (known.missed is));
    }

pub are_known_on : (c d : Covered) (fs : List Front) → IsGrown c d → AreKnown c fs → AreKnown d fs
are_known_on c d fs grown are = All-weaker (λ f. IsKnown c (path_of f.steps.items) f.known) (λ f. IsKnown d (path_of f.steps.items) f.known) (λ f k. known_on c d (path_of f.steps.items) f.known grown k) fs are

-- ---- what is known of a path

-- nothing is known of the root
pub of_root : (c : Covered) (p : FieldPath) (k : Known) → k.lacking ≡ 0 → k.missed ≡ false → IsKnownAbove c p k
of_root c p k none not = record {
  front = [];
  rest = p;
  whole = refl;
  known = record {
    within = omega (arith, none);
    lacking = rw none (λ i d lt. absurd (omega (arith, lt)));
    missed = λ is. cc;
  };
}

pub of_itself : (c : Covered) (p : FieldPath) (k : Known) → IsKnown c p k → IsKnownAbove c p k
of_itself c p k known = record { front = p; rest = []; whole = sym (append-nil p); known = known }

lacks : (o : Option Data) (a b p : FieldPath) (v : Data) → p ≡ a ++ b → is_there None a v ≡ false → is_there o p v ≡ false
lacks o a b p v whole lack = elim (bool_cases (is_there o p v)) [
  | inl there ↦ absurd (let t = there_before o a b v (subst (λ q. is_there o q v ≡ true) whole there) in cc)
  | inr not ↦ not
]

-- the first lines that do not have a path do not have those that continue it
pub lacking_below : (o : Option Data) (c : Covered) (p : FieldPath) (k : Known) → IsKnownAbove c p k → All (λ l. is_there o p (data_of l.tree) ≡ false) (take k.lacking c.lines.items)
lacking_below o c p k above = All-weaker (λ l. is_there None above.front (data_of l.tree) ≡ false) (λ l. is_there o p (data_of l.tree) ≡ false)
    (λ l lack. lacks o above.front above.rest p (data_of l.tree) above.whole lack) (take k.lacking c.lines.items) above.known.lacking

-- ---- what one wanted thing adds

pub with_line : (c d : Covered) (l : Line) → d.lines.items ≡ c.lines.items ++ l ∷ [] → d.missed.items ≡ c.missed.items → IsGrown c d
with_line c d l pushed kept = record { lines = (l ∷ [], pushed); missed = ([], kept ∙ sym (append-nil c.missed.items)) }

pub with_missed : (c d : Covered) (w : Wanted) → d.lines.items ≡ c.lines.items → d.missed.items ≡ c.missed.items ++ w ∷ [] → IsGrown c d
with_missed c d w kept pushed = record { lines = ([], kept ∙ sym (append-nil c.lines.items)); missed = (w ∷ [], pushed) }

-- no line has the path, and it is missed now, or the next line has it
pub known_missed : (c d : Covered) (p : FieldPath) (k : Known) (w : Wanted) → IsGrown c d → k.lacking ≤ length c.lines.items → All (λ l. is_there None p (data_of l.tree) ≡ false) (take k.lacking c.lines.items)
    → d.missed.items ≡ c.missed.items ++ w ∷ [] → wanted_of w ≡ with_any (path_text p) → IsKnown d p k
known_missed c d p k w grown within lack pushed named =
    let so_far : IsKnown c p (record { lacking = k.lacking; missed = false }) = record { within = within; lacking = lack; missed = λ is. cc } in
    let on = known_on c d p (record { lacking = k.lacking; missed = false }) grown so_far in
    let all : map wanted_of d.missed.items ≡ map wanted_of c.missed.items ++ with_any (path_text p) ∷ [] =
    ap (map wanted_of) pushed ∙ (map-append wanted_of c.missed.items (w ∷ []) ∙ ap (λ x. map wanted_of c.missed.items ++ x ∷ []) named) in
    record {
      within = on.within;
      lacking = on.lacking;
      missed = λ is. subst (λ ws. Contains ws (with_any (path_text p))) (sym all) (Contains-push (map wanted_of c.missed.items) (with_any (path_text p)));
    }

pub known_found : (c d : Covered) (p : FieldPath) (k : Known) → IsGrown c d → k.lacking ≤ length c.lines.items → All (λ l. is_there None p (data_of l.tree) ≡ false) (take k.lacking c.lines.items)
    → k.missed ≡ false → IsKnown d p k
known_found c d p k grown within lack not = known_on c d p k grown (record { within = within; lacking = lack; missed = λ is. cc })
