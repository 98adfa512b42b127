-- The nodes to which paths lead, by their texts.
use Rattle.std.proofs.Common.{◌≡◌, ◌≢◌, ◌⊎◌, ◌+◌, ◌<◌, ◌==◌, ℕ, List, [], ◌∷◌, ◌++◌, Bool, true, false, Option, Some, None, option_map, length, drop, get_or, refl, sym, ap, subst, ◌∙◌, inl, inr, arith}
use Rattle.std.specs.Prelude.{option_and_then}
use Rattle.std.specs.Str.{bytes_eq}
use Rattle.std.proofs.lemmas.Bool.{eqb-true, eqb-false}
use Rattle.std.proofs.lemmas.List.{drop_more}
use Rattle.jtree.specs.Data.{Data}
use Rattle.jtree.specs.View.{data_of}
use Rattle.jtree.specs.Internal.Lookups.{bool_cases, same_name, own_name}
use Rattle.schema.specs.Nodes.Node.{Node, node, scalar, Validations, object, map, list, open_, Fields, no_fields}
use Rattle.schema.specs.Nodes.Node as nodes
use Rattle.schema.specs.Nodes.ByPlace.{node_below, node_at}
use Rattle.schema.specs.Nodes.View.{node_of, fields_of}
use Rattle.schema.specs.declared.node.Field.{Field as CodeField}
use Rattle.schema.specs.declared.node.Bounds.{Bounds}
use Rattle.schema.specs.declared.node.ScalarKind.{ScalarKind}
use Rattle.schema.specs.declared.node.ListType.{ListType}
use Rattle.schema.specs.declared.node.MapType.{MapType}
use Rattle.explain.specs.Paths.FieldPath.{FieldStep, field, item, value, FieldPath, place_step, place_of}
use Rattle.explain.specs.Paths.PathText.{step_text, path_text}
use Rattle.explain.specs.Internal.Reading.{IsEnd, IsAfterStep}
use Rattle.explain.specs.Internal.Resolving.{IsNodeAt, IsNodeBelow, field_below, IsNodeAfter}
use Rattle.explain.proofs.LetterLemmas.{no_step, item_step, value_step, same_step, path_end}

pub empty_text : (text : List ℕ) → (length text == 0) ≡ true → text ≡ []
empty_text [] e = refl
empty_text (b ∷ text) e = absurd (omega (arith, eqb-true (length (b ∷ text)) 0 e))

pub some_text : (text : List ℕ) → (length text == 0) ≡ false → text ≢ []
some_text text e empty = eqb-false (length text) 0 e (ap length empty)

pub at_root : (N : Node) (text : List ℕ) → text ≡ [] → IsNodeAt N text (Some N)
at_root N text empty [] e = refl
at_root N text empty (s ∷ p) e = absurd (no_step s (path_text p) (e ∙ empty))

by_step : (N : Node) (text : List ℕ) (found : Option Node) → text ≢ [] → IsNodeBelow (λ s. node_below N (place_step s)) text found → IsNodeAt N text found
by_step N text found more below [] e = absurd (more (sym e))
by_step N text found more below (s ∷ p) e = below s p e

-- ---- below lists and maps

one_step : (lead : FieldStep → Option Node) (t : FieldStep) (M : Node) → lead t ≡ Some M → ((s : FieldStep) → (s ≡ t) ⊎ (lead s ≡ None))
    → ((s : FieldStep) (a b : List ℕ) → IsEnd a → step_text s ++ a ≡ step_text t ++ b → (s ≡ t) × (a ≡ b))
    → (text : List ℕ) (found : Option Node) → IsNodeAfter (step_text t) M text found → IsNodeBelow lead text found
one_step lead t M there only reads text found after s p e = elim (only s) [
  | inl same ↦
      let begins = sym e ∙ ap (λ x. step_text x ++ path_text p) same in
      let led : lead s ≡ Some M = ap lead same ∙ there in
      rw led (after.0 (path_text p) begins p refl)
  | inr none ↦ rw none (after.1 (λ rest is. let same = reads s (path_text p) rest (path_end p) (e ∙ is) in let some = sym none ∙ (ap lead same.0 ∙ there) in cc))
]

only_value : (nullable : Bool) (description : Option (List ℕ)) (M : Node) (type : MapType) (bounds : Bounds) (s : FieldStep)
    → (s ≡ value) ⊎ (node_below (node nullable description (map M type bounds)) (place_step s) ≡ None)
only_value nullable description M type bounds value = inl refl
only_value nullable description M type bounds (field k) = inr refl
only_value nullable description M type bounds item = inr refl

only_item : (nullable : Bool) (description : Option (List ℕ)) (M : Node) (type : ListType) (keys : List (List ℕ)) (bounds : Bounds) (s : FieldStep)
    → (s ≡ item) ⊎ (node_below (node nullable description (list M type keys bounds)) (place_step s) ≡ None)
only_item nullable description M type keys bounds item = inl refl
only_item nullable description M type keys bounds (field k) = inr refl
only_item nullable description M type keys bounds value = inr refl

pub in_map : (N M : Node) (nullable : Bool) (description : Option (List ℕ)) (type : MapType) (bounds : Bounds) → N ≡ node nullable description (map M type bounds)
    → (text : List ℕ) (found : Option Node) → text ≢ [] → IsNodeAfter (step_text value) M text found → IsNodeAt N text found
in_map N M nullable description type bounds is text found more after = rw is
    (by_step (node nullable description (map M type bounds)) text found more
    (one_step (λ s. node_below (node nullable description (map M type bounds)) (place_step s)) value M refl (only_value nullable description M type bounds) value_step text found after))

pub in_list : (N M : Node) (nullable : Bool) (description : Option (List ℕ)) (type : ListType) (keys : List (List ℕ)) (bounds : Bounds) → N ≡ node nullable description (list M type keys bounds)
    → (text : List ℕ) (found : Option Node) → text ≢ [] → IsNodeAfter (step_text item) M text found → IsNodeAt N text found
in_list N M nullable description type keys bounds is text found more after = rw is
    (by_step (node nullable description (list M type keys bounds)) text found more
    (one_step (λ s. node_below (node nullable description (list M type keys bounds)) (place_step s)) item M refl (only_item nullable description M type keys bounds) item_step text found after))

-- ---- below objects

led : (nullable : Bool) (description : Option (List ℕ)) (fs : Fields) (preserves : Bool) (type : MapType) (bounds : Bounds) (cs : Validations) (text : List ℕ) (found : Option Node)
    → IsNodeBelow (field_below fs) text found → IsNodeBelow (λ s. node_below (node nullable description (object fs preserves type bounds cs)) (place_step s)) text found
led nullable description fs preserves type bounds cs text found below (field k) p e = below (field k) p e
led nullable description fs preserves type bounds cs text found below item p e = below item p e
led nullable description fs preserves type bounds cs text found below value p e = below value p e

-- the first field has another name
pub other_field : (text : List ℕ) (l : List ℕ) (N : Node) (required : Bool) (default : Option Data) (fs : Fields) → ((rest : List ℕ) → IsAfterStep (field l) text rest → ⊥)
    → (s : FieldStep) (p : FieldPath) → step_text s ++ path_text p ≡ text → field_below (nodes.field l N required default fs) s ≡ field_below fs s
other_field text l N required default fs none (field k) p e = elim (bool_cases (bytes_eq k l)) [
  | inl same ↦ absurd (none (path_text p) (path_end p, sym e ∙ ap (λ n. step_text (field n) ++ path_text p) (same_name k l same)))
  | inr other ↦ rw other refl
]
other_field text l N required default fs none item p e = refl
other_field text l N required default fs none value p e = refl

-- the first field has the name
pub own_field : (text rest : List ℕ) (l : List ℕ) (N : Node) (required : Bool) (default : Option Data) (fs : Fields) (found : Option Node) → IsAfterStep (field l) text rest
    → IsNodeAt N rest found → IsNodeBelow (field_below (nodes.field l N required default fs)) text found
own_field text rest l N required default fs found after at s p e =
    let r = same_step s (field l) (path_text p) rest (path_end p) after.0 (e ∙ after.1) in
    let named : field_below (nodes.field l N required default fs) s ≡ Some N = ap (field_below (nodes.field l N required default fs)) r.0 ∙ rw (own_name l) refl in
    rw named (at p r.1)

pub in_object : (N : Node) (nullable : Bool) (description : Option (List ℕ)) (fs : Fields) (preserves : Bool) (type : MapType) (bounds : Bounds) (cs : Validations)
    → N ≡ node nullable description (object fs preserves type bounds cs) → (text : List ℕ) (found : Option Node) → text ≢ [] → IsNodeBelow (field_below fs) text found → IsNodeAt N text found
in_object N nullable description fs preserves type bounds cs is text found more below = rw is
    (by_step (node nullable description (object fs preserves type bounds cs)) text found more (led nullable description fs preserves type bounds cs text found below))

-- ---- below scalars and open nodes

no_scalar : (nullable : Bool) (description : Option (List ℕ)) (kind : ScalarKind) (cs : Validations) (s : FieldStep) → node_below (node nullable description (scalar kind cs)) (place_step s) ≡ None
no_scalar nullable description kind cs (field k) = refl
no_scalar nullable description kind cs item = refl
no_scalar nullable description kind cs value = refl

no_open : (nullable : Bool) (description : Option (List ℕ)) (s : FieldStep) → node_below (node nullable description open_) (place_step s) ≡ None
no_open nullable description (field k) = refl
no_open nullable description item = refl
no_open nullable description value = refl

pub in_scalar : (N : Node) (nullable : Bool) (description : Option (List ℕ)) (kind : ScalarKind) (cs : Validations) → N ≡ node nullable description (scalar kind cs)
    → (text : List ℕ) → text ≢ [] → IsNodeAt N text None
in_scalar N nullable description kind cs is text more = rw is (by_step (node nullable description (scalar kind cs)) text None more (λ s p e. rw (no_scalar nullable description kind cs s) refl))

pub in_open : (N : Node) (nullable : Bool) (description : Option (List ℕ)) → N ≡ node nullable description open_ → (text : List ℕ) → text ≢ [] → IsNodeAt N text None
in_open N nullable description is text more = rw is (by_step (node nullable description open_) text None more (λ s p e. rw (no_open nullable description s) refl))

-- ---- fields one after another

abbrev pub ArePassed : List CodeField → List CodeField → List ℕ → Type 0
ArePassed xs ys text = (s : FieldStep) (p : FieldPath) → step_text s ++ path_text p ≡ text → field_below (fields_of xs) s ≡ field_below (fields_of ys) s

split_at : (xs : List CodeField) (i : ℕ) (f : CodeField) → i < length xs → f ≡ get_or xs i f → drop i xs ≡ f ∷ drop (i + 1) xs
split_at xs i f within is = drop_more xs i f within ∙ ap (λ y. y ∷ drop (i + 1) xs) (sym is)

pub field_passed : (xs : List CodeField) (i : ℕ) (f : CodeField) (text k : List ℕ) → i < length xs → f ≡ get_or xs i f → k ≡ f.name → ArePassed (drop i xs) xs text
    → ((rest : List ℕ) → IsAfterStep (field k) text rest → ⊥) → ArePassed (drop (i + 1) xs) xs text
field_passed xs i f text k within is named passed none s p e =
    let other = other_field text f.name (node_of f.node) f.required (option_map data_of f.default) (fields_of (drop (i + 1) xs)) (λ rest. subst (λ n. IsAfterStep (field n) text rest → ⊥) named (none rest)) s p e in
    sym other ∙ (ap (λ ys. field_below (fields_of ys) s) (sym (split_at xs i f within is)) ∙ passed s p e)

pub field_found : (xs : List CodeField) (i : ℕ) (f : CodeField) (text k rest : List ℕ) (found : Option Node) → i < length xs → f ≡ get_or xs i f → k ≡ f.name → ArePassed (drop i xs) xs text
    → IsAfterStep (field k) text rest → IsNodeAt (node_of f.node) rest found → IsNodeBelow (field_below (fields_of xs)) text found
field_found xs i f text k rest found within is named passed after at s p e =
    own_field text rest f.name (node_of f.node) f.required (option_map data_of f.default) (fields_of (drop (i + 1) xs)) found (subst (λ n. IsAfterStep (field n) text rest) named after) at s p e
    ∙ ap (option_and_then (λ M. node_at M (place_of p))) (ap (λ ys. field_below (fields_of ys) s) (sym (split_at xs i f within is)) ∙ passed s p e)
