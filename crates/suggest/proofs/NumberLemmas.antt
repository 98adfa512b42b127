-- Schemas that are read by this project's own profile have no place of numbers.
use Rattle.std.proofs.Common.{◌≡◌, ℕ, List, ◌∷◌, [], true, false, Bool, Option, Some, None, refl, sym, ap, subst, ◌∙◌, inl, inr}
use Rattle.std.specs.Prelude.{option_map, option_and_then, codes}
use Rattle.std.specs.Str.{bytes_eq}
use Rattle.std.proofs.lemmas.Option.{same_Some}
use Rattle.jtree.specs.Data.{Data}
use Rattle.jtree.specs.Data as tree
use Rattle.jtree.specs.Path.{under}
use Rattle.jtree.specs.Internal.Lookups.{bool_cases, own_name, later_name}
use Rattle.schema.specs.Document.Places.{Place, property, map_value, items}
use Rattle.schema.specs.Document.Raw.{Raw}
use Rattle.schema.specs.Nodes.Node.{Node, node, scalar, object, map, list, open_, Fields, no_fields, field, IsNode, AreOrdered}
use Rattle.schema.specs.Nodes.ByPlace.{Declared, field_at, node_at, IsNodeHere, AreNodesOf}
use Rattle.schema.specs.Rules.Kinds.{Kind, is_int_or_string, preserves, untyped_kind, object_kind, named_kind, typed_kind, kind_of}
use Rattle.schema.specs.Rules.Kinds as kinds
use Rattle.schema.specs.declared.node.ScalarKind.{ScalarKind}
use Rattle.schema.specs.declared.node.ScalarKind.TheVariants.{Boolean, Integer, Number, String, IntOrString}
use Rattle.schema.specs.declared.profile.Profile.{Profile}
use Rattle.schema.specs.declared.profile.Profile.TheVariants.{Core}
use Rattle.suggest.specs.Suggested.Halves.{are_numbers, has_numbers, have_numbers}
use Rattle.suggest.proofs.PathLemmas.{later_other}

-- ---- the kind of a schema

abbrev IsOfNumbers : Option Kind → Type 0
IsOfNumbers k = k ≡ Some (kinds.scalar Number)

untyped : (s : Data) → IsOfNumbers (untyped_kind s) → ⊥
untyped s e = elim (bool_cases (preserves s)) [
  | inl t ↦ let no : IsOfNumbers (Some kinds.open_) = rw t at e in cc
  | inr f ↦ let no : IsOfNumbers None = rw f at e in cc
]

of_object : (d : Option Data) → IsOfNumbers (Some (object_kind d)) → ⊥
of_object None e = cc
of_object (Some tree.null) e = cc
of_object (Some (tree.boolean b)) e = cc
of_object (Some (tree.integer z)) e = cc
of_object (Some (tree.number t)) e = cc
of_object (Some (tree.text t)) e = cc
of_object (Some (tree.list ds)) e = cc
of_object (Some (tree.object ms)) e = cc

named : (s : Data) (t : List ℕ) → IsOfNumbers (named_kind Core s t) → ⊥
named s t e = elim (bool_cases (bytes_eq t [])) [
  | inl a ↦ untyped s (rw a at e)
  | inr a ↦ elim (bool_cases (bytes_eq t (codes "integer"))) [
    | inl b ↦ let no : IsOfNumbers (Some (kinds.scalar Integer)) = rw (a, b) at e in cc
    | inr b ↦ elim (bool_cases (bytes_eq t (codes "string"))) [
      | inl c ↦ let no : IsOfNumbers (Some (kinds.scalar String)) = rw (a, b, c) at e in cc
      | inr c ↦ elim (bool_cases (bytes_eq t (codes "boolean"))) [
        | inl d ↦ let no : IsOfNumbers (Some (kinds.scalar Boolean)) = rw (a, b, c, d) at e in cc
        | inr d ↦ elim (bool_cases (bytes_eq t (codes "array"))) [
          | inl f ↦ let no : IsOfNumbers (Some kinds.list) = rw (a, b, c, d, f) at e in cc
          | inr f ↦ elim (bool_cases (bytes_eq t (codes "object"))) [
            | inl g ↦ of_object (under s (codes "additionalProperties")) (rw (a, b, c, d, f, g) at e)
            | inr g ↦ elim (bool_cases (bytes_eq t (codes "number"))) [
              | inl h ↦ let no : IsOfNumbers None = rw (a, b, c, d, f, g, h) at e in cc
              | inr h ↦ let no : IsOfNumbers None = rw (a, b, c, d, f, g, h) at e in cc
            ]
          ]
        ]
      ]
    ]
  ]
]

typed : (s : Data) (t : Option Data) → IsOfNumbers (typed_kind Core s t) → ⊥
typed s None e = untyped s e
typed s (Some (tree.text t)) e = named s t e
typed s (Some tree.null) e = cc
typed s (Some (tree.boolean b)) e = cc
typed s (Some (tree.integer z)) e = cc
typed s (Some (tree.number t)) e = cc
typed s (Some (tree.list ds)) e = cc
typed s (Some (tree.object ms)) e = cc

of_numbers : (s : Data) → IsOfNumbers (kind_of Core s) → ⊥
of_numbers s e = elim (bool_cases (is_int_or_string s)) [
  | inl t ↦ let no : IsOfNumbers (Some (kinds.scalar IntOrString)) = rw t at e in cc
  | inr f ↦ typed s (under s (codes "type")) (rw f at e)
]

scalar_here : (s : Data) (kind : ScalarKind) → kind_of Core s ≡ Some (kinds.scalar kind) → are_numbers kind ≡ false
scalar_here s Number e = absurd (of_numbers s e)
scalar_here s Boolean e = refl
scalar_here s Integer e = refl
scalar_here s String e = refl
scalar_here s IntOrString e = refl

-- ---- the nodes

abbrev is_of_numbers : Node → Bool
is_of_numbers (node nullable description (scalar kind cs)) = are_numbers kind
is_of_numbers _ = false

here : (profile : Profile) (N : Node) (s : Data) → profile ≡ Core → IsNodeHere profile N s → is_of_numbers N ≡ false
here profile (node nullable description (scalar kind cs)) s core h = scalar_here s kind (subst (λ q. kind_of q s ≡ Some (kinds.scalar kind)) core h.2.is)
here profile (node nullable description (object fs preserves type bounds cs)) s core h = refl
here profile (node nullable description (map N type bounds)) s core h = refl
here profile (node nullable description (list N type keys bounds)) s core h = refl
here profile (node nullable description open_) s core h = refl

mutual
  none_below : (N : Node) → IsNode N → ((p : Place) (M : Node) → node_at N p ≡ Some M → is_of_numbers M ≡ false) → has_numbers N ≡ false
  none_below (node nullable description (scalar kind cs)) ordered none = none [] (node nullable description (scalar kind cs)) refl
  none_below (node nullable description (object fs preserves type bounds cs)) ordered none =
      none_of fs ordered (λ k f found p M at. none (property k ∷ p) M (ap (λ o. option_and_then (λ L. node_at L p) (option_map (λ f. f.node) o)) found ∙ at))
  none_below (node nullable description (map N type bounds)) ordered none = none_below N ordered (λ p M at. none (map_value ∷ p) M at)
  none_below (node nullable description (list N type keys bounds)) ordered none = none_below N ordered (λ p M at. none (items ∷ p) M at)
  none_below (node nullable description open_) ordered none = refl

  none_of : (fs : Fields) → AreOrdered fs → ((k : List ℕ) (f : Declared) → field_at k fs ≡ Some f → (p : Place) (M : Node) → node_at f.node p ≡ Some M → is_of_numbers M ≡ false) → have_numbers fs ≡ false
  none_of no_fields ordered none = refl
  none_of (field k N required default fs) ordered none =
      let first = none_below N ordered.0 (λ p M at. none k (record { node = N; required = required; default = default }) (rw own_name refl) p M at) in
      rw first (none_of fs ordered.2 (λ l f found. none l f (rw (later_name l k (later_other l k N required default fs f ordered found)) found)))

pub core_has_none : (raw : Raw) (root : Node) → raw.profile ≡ Core → AreNodesOf true root raw → has_numbers root ≡ false
core_has_none raw root core nodes = none_below root nodes.ordered (λ p M at.
    let place = nodes.only p M at in
    let own = nodes.each p place.1.0 place.0 place.1.1 in
    subst (λ K. is_of_numbers K ≡ false) (same_Some own.0 M (sym own.1 ∙ at)) (here raw.profile own.0 place.1.0 core own.2))
