-- The root of a schema is neither a scalar nor open.
use Rattle.std.proofs.Common.{◌≡◌, [], ◌∷◌, Bool, true, false, Option, Some, None, refl, sym, subst, inl, inr}
use Rattle.std.specs.Prelude.{◌&&◌, ◌||◌, not, is_some, codes}
use Rattle.std.specs.Str.{bytes_eq}
use Rattle.std.proofs.lemmas.Option.{same_Some}
use Rattle.jtree.specs.Data.{Data}
use Rattle.jtree.specs.Data as tree
use Rattle.jtree.specs.Path.{under}
use Rattle.jtree.specs.Internal.Lookups.{bool_cases, same_name}
use Rattle.schema.specs.Rules.Keywords.{has_other_text, is_text_among}
use Rattle.schema.specs.Rules.Kinds.{Kind, scalar, open_, is_int_or_string, preserves, untyped_kind, object_kind, typed_kind, kind_of, is_untyped}
use Rattle.schema.specs.Rules.Profile.{is_no_object, is_untyped_open, is_other_root, is_outside_profile}
use Rattle.schema.specs.Nodes.Node.{Node, node}
use Rattle.schema.specs.Nodes.Node as nodes
use Rattle.schema.specs.Nodes.ByPlace.{IsNodeHere}
use Rattle.schema.specs.declared.profile.Profile.{Profile}
use Rattle.schema.specs.declared.violation.Rule.TheVariants.{V17}
use Rattle.stored.specs.Schemas.Accepted.{IsSchema}
use Rattle.plan.specs.Samples.Candidates.{sort_at}
use Rattle.plan.specs.declared.sort.Sort.TheVariants.{Leaf}

-- the kinds of leaves
abbrev IsLeafKind : Kind → Type 0
IsLeafKind (scalar k) = Unit {0}
IsLeafKind open_ = Unit {0}
IsLeafKind _ = ⊥

or_left : (a b : Bool) → (a || b) ≡ false → (a ≡ false) × (b ≡ false)
or_left false b e = (refl, e)
or_left true b e = absurd (cc)

root_passes : (profile : Profile) (s : Data) → is_outside_profile profile true s ≡ false → is_other_root true s ≡ false
root_passes profile s e = elim (bool_cases (is_other_root true s)) [ inl t ↦ let h = rw t at e in cc | inr f ↦ f ]

no_untyped : (s : Data) (k : Kind) → preserves s ≡ false → untyped_kind s ≡ Some k → ⊥
no_untyped s k keeps is = let e = rw keeps at is in cc

no_object_leaf : (o : Option Data) (k : Kind) → IsLeafKind k → Some (object_kind o) ≡ Some k → ⊥
no_object_leaf None k leaf e = subst IsLeafKind (sym (same_Some _ k e)) leaf
no_object_leaf (Some (tree.object ms)) k leaf e = subst IsLeafKind (sym (same_Some _ k e)) leaf
no_object_leaf (Some tree.null) k leaf e = subst IsLeafKind (sym (same_Some _ k e)) leaf
no_object_leaf (Some (tree.boolean b)) k leaf e = subst IsLeafKind (sym (same_Some _ k e)) leaf
no_object_leaf (Some (tree.integer z)) k leaf e = subst IsLeafKind (sym (same_Some _ k e)) leaf
no_object_leaf (Some (tree.number t)) k leaf e = subst IsLeafKind (sym (same_Some _ k e)) leaf
no_object_leaf (Some (tree.text t)) k leaf e = subst IsLeafKind (sym (same_Some _ k e)) leaf
no_object_leaf (Some (tree.list ds)) k leaf e = subst IsLeafKind (sym (same_Some _ k e)) leaf

abbrev is_object_type : Option Data → Bool
is_object_type (Some (tree.text t)) = bytes_eq t [] || (bytes_eq t (codes "object") || false)
is_object_type _ = false

keeps_not : (a : Bool) → (a && true) ≡ false → a ≡ false
keeps_not true e = absurd (cc)
keeps_not false e = refl

no_leaf_type : (profile : Profile) (s : Data) (o : Option Data) (k : Kind) → (is_some o && not (is_object_type o)) ≡ false → (preserves s && is_untyped o) ≡ false → IsLeafKind k → typed_kind profile s o ≡ Some k → ⊥
no_leaf_type profile s None k other untyped leaf is = no_untyped s k (keeps_not (preserves s) untyped) is
no_leaf_type profile s (Some (tree.text t)) k other untyped leaf is = elim (bool_cases (bytes_eq t [])) [
  | inl e ↦ no_untyped s k (keeps_not (preserves s) (rw e at untyped)) (rw e at is)
  | inr f ↦ elim (bool_cases (bytes_eq t (codes "object"))) [
    | inl e ↦
        let same : t ≡ codes "object" = same_name t (codes "object") e in
        no_object_leaf (under s (codes "additionalProperties")) k leaf (subst (λ n. typed_kind profile s (Some (tree.text n)) ≡ Some k) same is)
    | inr g ↦ let h = rw (f, g) at other in cc
  ]
]
no_leaf_type profile s (Some tree.null) k other untyped leaf is = cc
no_leaf_type profile s (Some (tree.boolean b)) k other untyped leaf is = cc
no_leaf_type profile s (Some (tree.integer z)) k other untyped leaf is = cc
no_leaf_type profile s (Some (tree.number t)) k other untyped leaf is = cc
no_leaf_type profile s (Some (tree.list ds)) k other untyped leaf is = cc
no_leaf_type profile s (Some (tree.object ms)) k other untyped leaf is = cc

among_types : (o : Option Data) → (is_some o && not (is_text_among ([] ∷ codes "object" ∷ []) o)) ≡ false → (is_some o && not (is_object_type o)) ≡ false
among_types None e = e
among_types (Some (tree.text t)) e = e
among_types (Some tree.null) e = e
among_types (Some (tree.boolean b)) e = e
among_types (Some (tree.integer z)) e = e
among_types (Some (tree.number t)) e = e
among_types (Some (tree.list ds)) e = e
among_types (Some (tree.object ms)) e = e

no_leaf_root : (profile : Profile) (s : Data) (k : Kind) → is_other_root true s ≡ false → IsLeafKind k → kind_of profile s ≡ Some k → ⊥
no_leaf_root profile s k other leaf is =
    let parts = or_left (is_no_object s) (is_untyped_open s) other in
    let object = or_left (has_other_text ([] ∷ codes "object" ∷ []) s (codes "type")) (is_int_or_string s) parts.0 in
    no_leaf_type profile s (under s (codes "type")) k (among_types (under s (codes "type")) object.0) parts.1 leaf (rw object.1 at is)

leaf_kind : (profile : Profile) (N : Node) (s : Data) → IsNodeHere profile N s → sort_at N ≡ Leaf → (k : Kind) × IsLeafKind k × (kind_of profile s ≡ Some k)
leaf_kind profile (node n d (nodes.scalar kind cs)) s h leaf = (scalar kind, tt, h.2.is)
leaf_kind profile (node n d nodes.open_) s h leaf = (open_, tt, h.2.is)
leaf_kind profile (node n d (nodes.object fs preserves type bounds cs)) s h leaf = cc
leaf_kind profile (node n d (nodes.map N type bounds)) s h leaf = cc
leaf_kind profile (node n d (nodes.list N type keys bounds)) s h leaf = cc

pub root_no_leaf : (root : Node) → IsSchema root → sort_at root ≡ Leaf → ⊥
root_no_leaf root schema leaf =
    let raw = schema.0 in
    let r = schema.1 in
    let here = r.nodes.each [] raw.tree (refl, λ e h. cc) refl in
    let same : root ≡ here.0 = same_Some root here.0 here.1 in
    let kind = leaf_kind raw.profile here.0 raw.tree here.2 (subst (λ N. sort_at N ≡ Leaf) same leaf) in
    elim (bool_cases (is_outside_profile raw.profile true raw.tree)) [
      | inl t ↦ r.unbroken [] V17 (inl (refl, (raw.tree, refl, t)))
      | inr f ↦ no_leaf_root raw.profile raw.tree kind.0 (root_passes raw.profile raw.tree f) kind.1 kind.2
    ]
