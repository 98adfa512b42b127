-- The field at a path, in a list of all fields.
use Rattle.std.proofs.Common.{◌≡◌, ◌≢◌, ◌<◌, ℕ, List, [], ◌∷◌, Some, length, get_or, map, refl, sym, ap, subst, ◌∙◌, inl, inr}
use Rattle.std.specs.Prelude.{All}
use Rattle.std.proofs.lemmas.Option.{same_Some}
use Rattle.jtree.specs.Internal.Lookups.{option_cases}
use Rattle.jtree.specs.Internal.Rising.{Among, index_of, contained}
use Rattle.schema.specs.Nodes.Node.{Node}
use Rattle.schema.specs.Nodes.ByPlace.{node_at}
use Rattle.explain.specs.Paths.FieldPath.{FieldPath, place_of}
use Rattle.explain.specs.Paths.PathText.{path_text}
use Rattle.explain.specs.Fields.Field.{Field, field_at, described}
use Rattle.explain.specs.Fields.Declared.{IsDeclared, AreFields}
use Rattle.explain.specs.Fields.PathFault.{IsTextOf}
use Rattle.explain.specs.Fields.View.{field_of}
use Rattle.explain.specs.Internal.Reading.{IsPathText}
use Rattle.explain.specs.declared.field.Field.{Field as CodeField}
use Rattle.explain.proofs.ListLemmas.{heads, tails}

among_each : {X : Type 0} (P : X → Type 0) (xs : List X) (v : X) → All P xs → Among xs v → P v
among_each P xs v each a = let r = index_of xs v v a in subst P r.2 (each r.0 v r.1)

its_path : (root : Node) (p : FieldPath) (f : Field) → field_at root p ≡ Some f → path_text p ≡ f.path
its_path root p f e = elim (option_cases (node_at root (place_of p))) [
  | inl none ↦ let x = rw none at e in cc
  | inr N ↦ ap (λ g. g.path) (same_Some (described root p N.0) f (rw N.1 at e))
]

abbrev AreAt : Node → List FieldPath → List CodeField → Type 0
AreAt root ps fs = map (field_at root) ps ≡ map Some (map field_of fs)

path_of : (root : Node) (ps : List FieldPath) (fs : List CodeField) (f : CodeField) → AreAt root ps fs → Among fs f → (p : FieldPath) × Among ps p × (field_at root p ≡ Some (field_of f))
path_of root ps [] f e a = elim a [ ]
path_of root [] (g ∷ fs) f e a = cc
path_of root (p ∷ ps) (g ∷ fs) f e (inl h) = (p, inl refl, heads e ∙ ap (λ x. Some (field_of x)) h)
path_of root (p ∷ ps) (g ∷ fs) f e (inr a) = let r = path_of root ps fs f (tails e) a in (r.0, inr r.1, r.2)

field_to : (root : Node) (ps : List FieldPath) (fs : List CodeField) (p : FieldPath) → AreAt root ps fs → Among ps p → (f : CodeField) × Among fs f × (field_at root p ≡ Some (field_of f))
field_to root [] fs p e a = elim a [ ]
field_to root (q ∷ ps) [] p e a = cc
field_to root (q ∷ ps) (g ∷ fs) p e (inl h) = (g, inl refl, ap (field_at root) (sym h) ∙ heads e)
field_to root (q ∷ ps) (g ∷ fs) p e (inr a) = let r = field_to root ps fs p (tails e) a in (r.0, inr r.1, r.2)

pub found : (root : Node) (fs : List CodeField) (listing : List Field) (i : ℕ) (f : CodeField) (text : List ℕ) → map field_of fs ≡ listing → i < length fs → f ≡ get_or fs i f → f.path ≡ text
    → AreFields root listing → IsTextOf (λ p. IsDeclared root p × (field_at root p ≡ Some (field_of f))) text
found root fs listing i f text same within is named all =
    let r = path_of root all.0 fs f (all.2 ∙ ap (map Some) (sym same)) (contained fs f (i, within, sym is)) in
    (r.0, its_path root r.0 (field_of f) r.2 ∙ named, (among_each (IsDeclared root) all.0 r.0 all.1.each r.1, r.2))

pub missing : (root : Node) (fs : List CodeField) (listing : List Field) (text : List ℕ) → map field_of fs ≡ listing → IsPathText text
    → ((k : ℕ) (d : CodeField) → k < length fs → (get_or fs k d).path ≢ text) → AreFields root listing → IsTextOf (λ p. IsDeclared root p → ⊥) text
missing root fs listing text same path others all = (
  path.0,
  path.1,
  λ declared.
      let r = field_to root all.0 fs path.0 (all.2 ∙ ap (map Some) (sym same)) (contained all.0 path.0 (all.1.all path.0 declared)) in
      let at = index_of fs r.0 r.0 r.1 in
      others at.0 r.0 at.1 (ap (λ f. f.path) at.2 ∙ (sym (its_path root path.0 (field_of r.0) r.2) ∙ path.1)),
)
