-- Where paths lead from a node.
use Rattle.std.proofs.Common.{◌≡◌, ◌≢◌, ◌==◌, ℕ, List, length, ap, [], ◌∷◌, ◌++◌, Bool, false, Option, Some, sym, subst, ◌∙◌, inl, inr, append_assoc, append-nil, All}
use Rattle.std.specs.Prelude.{option_map, option_and_then}
use Rattle.std.specs.Str.{bytes_eq}
use Rattle.std.proofs.lemmas.Bool.{eqb-false}
use Rattle.std.proofs.lemmas.List.{append_cancel_left}
use Rattle.std.proofs.lemmas.List.Elements.{All-head, All-tail}
use Rattle.jtree.specs.View.{data_of}
use Rattle.jtree.specs.Internal.Lookups.{bool_cases, option_cases, same_name}
use Rattle.schema.specs.Nodes.Node.{Node, node, scalar, object, map, list, open_, Fields, Validations}
use Rattle.schema.specs.Nodes.ByPlace.{Declared, field_at, node_at}
use Rattle.schema.specs.Nodes.View.{node_of, fields_of}
use Rattle.schema.specs.declared.node.Field.{Field as CodeField}
use Rattle.schema.specs.declared.node.Bounds.{Bounds}
use Rattle.schema.specs.declared.node.ScalarKind.{ScalarKind}
use Rattle.schema.specs.declared.node.ListType.{ListType}
use Rattle.schema.specs.declared.node.MapType.{MapType}
use Rattle.explain.specs.Paths.FieldPath.{FieldStep, field, item, value, FieldPath, place_of}
use Rattle.explain.specs.Paths.PathText.{step_text, path_text}
use Rattle.plan.specs.Samples.Site.{below}
use Rattle.cover.specs.Internal.Ways.{LeadsNowhere, NoneLeads}

pub found_field : (fs : Fields) (k : List ℕ) (x : FieldPath) (M : Node) → option_and_then (λ L. node_at L (place_of x)) (option_map (λ f. f.node) (field_at k fs)) ≡ Some M
    → (f : Declared) × ((field_at k fs ≡ Some f) × (node_at f.node (place_of x) ≡ Some M))
found_field fs k x M leads = elim (option_cases (field_at k fs)) [
  | inl none ↦ absurd (let h = rw none at leads in cc)
  | inr some ↦ (some.0, (some.1, rw some.1 at leads))
]

further : (front : List ℕ) (s : FieldStep) (p : FieldPath) (text : List ℕ) → front ++ path_text (s ∷ p) ≡ text → below front s ++ path_text p ≡ text
further front s p text e = append_assoc front (step_text s) (path_text p) ∙ e

pub in_object : (front text : List ℕ) (nullable : Bool) (description : Option (List ℕ)) (fs : Fields) (preserves : Bool) (type : MapType) (bounds : Bounds) (cs : Validations) → front ≢ text
    → NoneLeads front fs text → LeadsNowhere front (node nullable description (object fs preserves type bounds cs)) text
in_object front text nullable description fs preserves type bounds cs more none [] M leads e = more (sym (append-nil front) ∙ e)
in_object front text nullable description fs preserves type bounds cs more none (field k ∷ p) M leads e =
    let f = found_field fs k p M leads in none k f.0 f.1.0 p M f.1.1 (further front (field k) p text e)
in_object front text nullable description fs preserves type bounds cs more none (item ∷ p) M leads e = cc
in_object front text nullable description fs preserves type bounds cs more none (value ∷ p) M leads e = cc

pub in_map : (front text : List ℕ) (nullable : Bool) (description : Option (List ℕ)) (N : Node) (type : MapType) (bounds : Bounds) → front ≢ text
    → LeadsNowhere (below front value) N text → LeadsNowhere front (node nullable description (map N type bounds)) text
in_map front text nullable description N type bounds more none [] M leads e = more (sym (append-nil front) ∙ e)
in_map front text nullable description N type bounds more none (value ∷ p) M leads e = none p M leads (further front value p text e)
in_map front text nullable description N type bounds more none (item ∷ p) M leads e = cc
in_map front text nullable description N type bounds more none (field k ∷ p) M leads e = cc

pub in_list : (front text : List ℕ) (nullable : Bool) (description : Option (List ℕ)) (N : Node) (type : ListType) (keys : List (List ℕ)) (bounds : Bounds) → front ≢ text
    → LeadsNowhere (below front item) N text → LeadsNowhere front (node nullable description (list N type keys bounds)) text
in_list front text nullable description N type keys bounds more none [] M leads e = more (sym (append-nil front) ∙ e)
in_list front text nullable description N type keys bounds more none (item ∷ p) M leads e = none p M leads (further front item p text e)
in_list front text nullable description N type keys bounds more none (value ∷ p) M leads e = cc
in_list front text nullable description N type keys bounds more none (field k ∷ p) M leads e = cc

pub in_scalar : (front text : List ℕ) (nullable : Bool) (description : Option (List ℕ)) (kind : ScalarKind) (cs : Validations) → front ≢ text → LeadsNowhere front (node nullable description (scalar kind cs)) text
in_scalar front text nullable description kind cs more [] M leads e = more (sym (append-nil front) ∙ e)
in_scalar front text nullable description kind cs more (s ∷ p) M leads e = cc

pub in_open : (front text : List ℕ) (nullable : Bool) (description : Option (List ℕ)) → front ≢ text → LeadsNowhere front (node nullable description open_) text
in_open front text nullable description more [] M leads e = more (sym (append-nil front) ∙ e)
in_open front text nullable description more (s ∷ p) M leads e = cc

-- where no field leads there, the object does not
pub none_lead : (front text : List ℕ) (fs : List CodeField) → All (λ f. LeadsNowhere (below front (field f.name)) (node_of f.node) text) fs → NoneLeads front (fields_of fs) text
none_lead front text [] none k f found = absurd (cc)
none_lead front text (g ∷ fs) none k f found = elim (bool_cases (bytes_eq k g.name)) [
  | inl same ↦
      let here : Some (record { node = node_of g.node; required = g.required; default = option_map data_of g.default }) ≡ Some f = rw same at found in
      let is : node_of g.node ≡ f.node = cc in
      subst (λ N. LeadsNowhere (below front (field k)) N text) is
      (subst (λ n. LeadsNowhere (below front (field n)) (node_of g.node) text) (sym (same_name k g.name same)) (All-head (λ f. LeadsNowhere (below front (field f.name)) (node_of f.node) text) g fs none))
  | inr other ↦ none_lead front text fs (All-tail (λ f. LeadsNowhere (below front (field f.name)) (node_of f.node) text) g fs none) k f (rw other at found)
]

pub some_text : (text : List ℕ) → (length text == 0) ≡ false → [] ≢ text
some_text text e empty = eqb-false (length text) 0 e (ap length (sym empty))

-- a path that begins with a step has the text of the step before the rest of its text
pub after_text : (s : FieldStep) (N : Node) (text rest : List ℕ) → text ≡ step_text s ++ rest → LeadsNowhere [] N rest → LeadsNowhere (step_text s) N text
after_text s N text rest is none p M leads e = none p M leads (append_cancel_left (step_text s) (path_text p) rest (e ∙ is))
