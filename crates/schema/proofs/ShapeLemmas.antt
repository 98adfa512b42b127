-- The schemas below one whose places have nodes have nodes, and the fields of properties.
use Rattle.std.proofs.Common.{◌≡◌, ◌<◌, ◌+◌, ℕ, List, [], ◌∷◌, ◌++◌, length, get_or, take, drop, Bool, true, false, Option, Some, None, refl, sym, ap, ◌∙◌, subst, inl, inr}
use Rattle.std.specs.Prelude.{option_and_then, option_map, codes}
use Rattle.std.proofs.lemmas.Bool.{or_parts}
use Rattle.std.proofs.lemmas.Option.{same_Some}
use Rattle.std.proofs.lemmas.List.{take-append-drop, drop_more}
use Rattle.std.specs.declared.cmp.Ordering.TheVariants.{Less}
use Rattle.jtree.specs.Data.{Data, Items, Members, no_members, member, IsNameBefore, IsTree, AreMembers}
use Rattle.jtree.specs.Data as tree
use Rattle.jtree.specs.Kind.{is_object}
use Rattle.jtree.specs.Internal.Lookups.{bool_cases, IsNameBefore-trans, member_first, member_tail}
use Rattle.jtree.specs.Order.{text_cmp}
use Rattle.jtree.specs.Path.{member_at, under}
use Rattle.jtree.specs.View.{data_of, members_of}
use Rattle.jtree.specs.declared.value.Member.{Member}
use Rattle.schema.specs.Document.Texts.{is_among}
use Rattle.schema.specs.Rules.Kinds as kinds
use Rattle.schema.specs.Rules.Keywords.{has_other_text, members_in, members_under, texts_under}
use Rattle.schema.specs.Rules.Kinds.{Kind, IsOfKind, kind_of}
use Rattle.schema.specs.Rules.Profile.{types_of, is_root, profile_tests, is_outside_profile}
use Rattle.schema.specs.Rules.Breaks.{BreaksNone}
use Rattle.schema.specs.Document.Places.{Step, Place, property, map_value, items, schema_by, schema_at, is_junctor, is_inside, IsEnvelopeName, IsEnvelope}
use Rattle.schema.specs.Document.Raw.{Raw, raw_by}
use Rattle.schema.specs.Nodes.Node.{Node, node, Sort, object, map, list, Fields, no_fields, field, IsNode, IsSort, IsBeforeFields, AreOrdered}
use Rattle.schema.specs.Nodes.View.{node_of, fields_of}
use Rattle.schema.specs.Nodes.ByPlace.{IsNodePlace}
use Rattle.schema.specs.Internal.NodeOf.{IsNodeOf, AreBelow, AreFieldsOf, is_declared, declared_of}
use Rattle.schema.specs.Internal.Building.{HasNoNode, HasNodes, HaveNodes}
use Rattle.schema.specs.declared.violation.Rule.TheVariants.{V01, V17}
use Rattle.schema.proofs.KindLemmas.{map_has_object, kind_none}
use Rattle.schema.proofs.ReasonWords.{holds_at}
use Rattle.schema.specs.declared.node.Field.{Field}
use Rattle.schema.proofs.EventPlaces.{under_tree}
use Rattle.schema.specs.declared.profile.Profile.{Profile}

-- ---- where no rule is broken each place has a node

other_type : (profile : Profile) (root : Bool) (s : Data) → has_other_text (types_of profile) s (codes "type") ≡ true → is_outside_profile profile root s ≡ true
other_type profile root s h = holds_at (profile_tests profile root s) 2 h

no_items : (profile : Profile) (root : Bool) (s : Data) → IsOfKind profile s kinds.list → schema_by s items ≡ None → is_outside_profile profile root s ≡ true
no_items profile root s kind none = holds_at (profile_tests profile root s) 5 (rw (kind.is, none) refl)

no_kind : (profile : Profile) (raw : Data) → BreaksNone (raw_by profile raw) → (p : Place) (s : Data) → is_inside p ≡ false → schema_at raw p ≡ Some s → kind_of profile s ≡ None → ⊥
no_kind profile raw none p s outside at untyped = elim (kind_none profile s untyped) [
  | inl lacks ↦ none p V01 (outside, (s, at, lacks))
  | inr typed ↦ none p V17 (outside, (s, at, other_type profile (is_root p) s typed))
]

kind_or_none : (o : Option Kind) → (o ≡ None → ⊥) → (k : Kind) × (o ≡ Some k)
kind_or_none None some = absurd (some refl)
kind_or_none (Some k) some = (k, refl)

pub some_kind : (profile : Profile) (raw : Data) → BreaksNone (raw_by profile raw) → (p : Place) (s : Data) → is_inside p ≡ false → schema_at raw p ≡ Some s → (k : Kind) × (kind_of profile s ≡ Some k)
some_kind profile raw none p s outside at = kind_or_none (kind_of profile s) (no_kind profile raw none p s outside at)

pub all_have_nodes : (profile : Profile) (raw : Data) → BreaksNone (raw_by profile raw) → HasNodes profile true raw
all_have_nodes profile raw none p place at = elim at.2 [
  | inl untyped ↦ no_kind profile raw none p at.0 place.0 at.1 untyped
  | inr empty ↦ none p V17 (place.0, (at.0, at.1, no_items profile (is_root p) at.0 empty.0 empty.1))
]

-- ---- places one step below

envelope_step : (step : Step) (p q : Place) → IsEnvelope (step ∷ p) → IsEnvelope (step ∷ q)
envelope_step (property k) p q h = h
envelope_step _ p q h = h

pub place_more : (root : Bool) (step : Step) (p : Place) → IsNodePlace root (step ∷ []) → IsNodePlace false p → IsNodePlace root (step ∷ p)
place_more root step p first rest = (rw ((or_parts (is_junctor step) false first.0).0) rest.0, λ is e. first.1 is (envelope_step step p [] e))

pub place_first : (root : Bool) (step : Step) (p : Place) → IsNodePlace root (step ∷ p) → IsNodePlace root (step ∷ [])
place_first root step p h = (rw ((or_parts (is_junctor step) (is_inside p) h.0).0) refl, λ is e. h.1 is (envelope_step step [] p e))

pub place_rest : (root : Bool) (step : Step) (p : Place) → IsNodePlace root (step ∷ p) → IsNodePlace false p
place_rest root step p h = ((or_parts (is_junctor step) (is_inside p) h.0).1, λ is e. cc)

pub has_node : (profile : Profile) (root : Bool) (s : Data) → HasNodes profile root s → HasNoNode profile s → ⊥
has_node profile root s h lacks = h [] (refl, λ is e. absurd (cc)) (s, refl, lacks)

nodes_below : (profile : Profile) (root : Bool) (s d : Data) (step : Step) → HasNodes profile root s → IsNodePlace root (step ∷ []) → schema_by s step ≡ Some d → HasNodes profile false d
nodes_below profile root s d step h first by p place at =
    h (step ∷ p) (place_more root step p first place) (at.0, ap (option_and_then (λ t. schema_at t p)) by ∙ at.1, at.2)

-- ---- the items of a list

pub list_has_items : (profile : Profile) (root : Bool) (s : Data) → HasNodes profile root s → IsOfKind profile s kinds.list → under s (codes "items") ≡ None → ⊥
list_has_items profile root s h kind none = has_node profile root s h (inr (kind, rw none refl))

pub list_nodes : (profile : Profile) (root : Bool) (s d : Data) → HasNodes profile root s → IsOfKind profile s kinds.list → under s (codes "items") ≡ Some d → HasNodes profile false d
list_nodes profile root s (tree.object ms) h kind at = nodes_below profile root s (tree.object ms) items h (refl, λ is e. absurd (cc)) (rw at refl)
list_nodes profile root s _ h kind at = absurd (has_node profile root s h (inr (kind, rw at refl)))

-- ---- the values of a map

pub map_has_values : (profile : Profile) (s : Data) → IsOfKind profile s kinds.map → under s (codes "additionalProperties") ≡ None → ⊥
map_has_values profile s kind none = let some = (map_has_object profile s kind.is).1 in cc

pub map_nodes : (profile : Profile) (root : Bool) (s d : Data) → HasNodes profile root s → IsOfKind profile s kinds.map → under s (codes "additionalProperties") ≡ Some d → HasNodes profile false d
map_nodes profile root s d h kind at =
    let o = map_has_object profile s kind.is in
    let same : d ≡ tree.object o.0 = same_Some d (tree.object o.0) (sym at ∙ o.1) in
    subst (HasNodes profile false) (sym same) (nodes_below profile root s (tree.object o.0) map_value h (refl, λ is e. absurd (cc)) (rw o.1 refl))

-- ---- the properties of an object

pub declared_is_object : (root : Bool) (k : List ℕ) (d : Data) → is_declared root k d ≡ true → (ms : Members) × (d ≡ tree.object ms)
declared_is_object root k (tree.object ms) is = (ms, refl)
declared_is_object root k _ is = cc

pub declared_is_other : (root : Bool) (k : List ℕ) (d : Data) → is_declared root k d ≡ true → root ≡ true → IsEnvelopeName k → ⊥
declared_is_other false k d is at e = cc
declared_is_other true k d is at e = elim (bool_cases (is_object d)) [
  | inl t ↦ let h = rw (t, e) at is in cc
  | inr f ↦ let h = rw f at is in cc
]

pub property_nodes : (profile : Profile) (root : Bool) (s : Data) (ms : Members) → HasNodes profile root s → under s (codes "properties") ≡ Some (tree.object ms) → HaveNodes profile root ms
property_nodes profile root s ms h at k d there is =
    let o = declared_is_object root k d is in
    let found : member_at k ms ≡ Some (tree.object o.0) = there ∙ ap Some o.1 in
    let by : schema_by s (property k) ≡ Some (tree.object o.0) = rw (at, found) refl in
    subst (HasNodes profile false) (sym o.1) (nodes_below profile root s (tree.object o.0) (property k) h (refl, declared_is_other root k d is) by)

-- ---- fields

-- the members with one more at their end
ended : Members → List ℕ → Data → Members
ended no_members k d = member k d no_members
ended (member l e ms) k d = member l e (ended ms k d)

end_fields : (profile : Profile) (fs : List Field) (f : Field) (names : List (List ℕ)) (ms : Members) (k : List ℕ) (d : Data) → AreFieldsOf profile (fields_of fs) names ms → f.name ≡ k
    → IsNodeOf profile false (node_of f.node) d → f.required ≡ is_among k names → option_map data_of f.default ≡ under d (codes "default")
    → AreFieldsOf profile (fields_of (fs ++ f ∷ [])) names (ended ms k d)
unfolding ended
end_fields profile [] f names no_members k d h name is_node required default = (name, is_node, required, default, tt)
end_fields profile [] f names (member l e ms) k d h name is_node required default = absurd h
end_fields profile (g ∷ fs) f names no_members k d h name is_node required default = absurd h
end_fields profile (g ∷ fs) f names (member l e ms) k d h name is_node required default =
    (h.0, h.1, h.2, h.3, end_fields profile fs f names ms k d h.4 name is_node required default)

declared_ended : (root : Bool) (xs : List Member) (m : Member) → is_declared root m.name (data_of m.tree) ≡ true
    → declared_of root (members_of (xs ++ m ∷ [])) ≡ ended (declared_of root (members_of xs)) m.name (data_of m.tree)
unfolding ended
declared_ended root [] m is = rw is refl
declared_ended root (x ∷ xs) m is = elim (bool_cases (is_declared root x.name (data_of x.tree))) [
  | inl t ↦ rw t (ap (member x.name (data_of x.tree)) (declared_ended root xs m is))
  | inr f ↦ rw f (declared_ended root xs m is)
]

-- a property that has no field is passed over
pub declared_dropped : (root : Bool) (xs : List Member) (m : Member) → is_declared root m.name (data_of m.tree) ≡ false
    → declared_of root (members_of (xs ++ m ∷ [])) ≡ declared_of root (members_of xs)
declared_dropped root [] m is = rw is refl
declared_dropped root (x ∷ xs) m is = elim (bool_cases (is_declared root x.name (data_of x.tree))) [
  | inl t ↦ rw t (ap (member x.name (data_of x.tree)) (declared_dropped root xs m is))
  | inr f ↦ rw f (declared_dropped root xs m is)
]

pub push_field : (profile : Profile) (root : Bool) (fs : List Field) (f : Field) (names : List (List ℕ)) (xs : List Member) (m : Member) → is_declared root m.name (data_of m.tree) ≡ true
    → AreFieldsOf profile (fields_of fs) names (declared_of root (members_of xs)) → f.name ≡ m.name → IsNodeOf profile false (node_of f.node) (data_of m.tree)
    → f.required ≡ is_among m.name names → option_map data_of f.default ≡ under (data_of m.tree) (codes "default")
    → AreFieldsOf profile (fields_of (fs ++ f ∷ [])) names (declared_of root (members_of (xs ++ m ∷ [])))
push_field profile root fs f names xs m is h name is_node required default =
    subst (AreFieldsOf profile (fields_of (fs ++ f ∷ [])) names) (sym (declared_ended root xs m is))
    (end_fields profile fs f names (declared_of root (members_of xs)) m.name (data_of m.tree) h name is_node required default)

declared_before : (root : Bool) (k : List ℕ) (ms : Members) → IsNameBefore k ms → AreMembers ms → IsNameBefore k (declared_of root ms)
declared_before root k no_members before o = tt
declared_before root k (member l d ms) before o = elim (bool_cases (is_declared root l d)) [
  | inl t ↦ rw t before
  | inr f ↦ rw f (declared_before root k ms (IsNameBefore-trans k l ms before o.1) o.2)
]

pub declared_object : (root : Bool) (ms : Members) → AreMembers ms → AreMembers (declared_of root ms)
declared_object root no_members o = tt
declared_object root (member k d ms) o = elim (bool_cases (is_declared root k d)) [
  | inl t ↦ rw t (o.0, declared_before root k ms o.1 o.2, declared_object root ms o.2)
  | inr f ↦ rw f (declared_object root ms o.2)
]

fields_before : (profile : Profile) (k l : List ℕ) (fs : Fields) (names : List (List ℕ)) (ms : Members) → k ≡ l → AreFieldsOf profile fs names ms → IsNameBefore l ms → IsBeforeFields k fs
fields_before profile k l no_fields names no_members same h before = tt
fields_before profile k l no_fields names (member m d ms) same h before = absurd h
fields_before profile k l (field n N r e fs) names no_members same h before = absurd h
fields_before profile k l (field n N r e fs) names (member m d ms) same h before = subst (λ x. text_cmp x n ≡ Less) (sym same) (subst (λ x. text_cmp l x ≡ Less) (sym h.0) before)

members_tree : (o : Option Data) → ((d : Data) → o ≡ Some d → IsTree d) → AreMembers (members_in o)
members_tree (Some (tree.object ms)) h = h (tree.object ms) refl
members_tree _ h = tt

pub properties_tree : (s : Data) → IsTree s → AreMembers (members_under s (codes "properties"))
properties_tree s o = members_tree (under s (codes "properties")) (λ d is. under_tree s (codes "properties") d o is)

mutual
  pub node_ordered : (profile : Profile) (N : Node) (root : Bool) (s : Data) → IsTree s → IsNodeOf profile root N s → IsNode N
  node_ordered profile (node nullable description sort) root s o is = sort_ordered profile sort root s o is.1

  sort_ordered : (profile : Profile) (A : Sort) (root : Bool) (s : Data) → IsTree s → AreBelow profile root A s → IsSort A
  sort_ordered profile (object fs preserves type bounds cs) root s o below =
      fields_ordered profile fs (texts_under s (codes "required")) (declared_of root (members_under s (codes "properties"))) below (declared_object root (members_under s (codes "properties")) (properties_tree s o))
  sort_ordered profile (map N type bounds) root s o below = node_ordered profile N false below.0 (under_tree s (codes "additionalProperties") below.0 o below.1) below.2
  sort_ordered profile (list N type keys bounds) root s o below = node_ordered profile N false below.0 (under_tree s (codes "items") below.0 o below.1) below.2
  sort_ordered profile _ root s o below = tt

  pub fields_ordered : (profile : Profile) (fs : Fields) (names : List (List ℕ)) (ms : Members) → AreFieldsOf profile fs names ms → AreMembers ms → AreOrdered fs
  fields_ordered profile no_fields names no_members h o = tt
  fields_ordered profile no_fields names (member l d ms) h o = absurd h
  fields_ordered profile (field k N r e fs) names no_members h o = absurd h
  fields_ordered profile (field k N r e fs) names (member l d ms) h o = (node_ordered profile N false d o.0 h.1, fields_before profile k l fs names ms h.0 h.4 o.1, fields_ordered profile fs names ms h.4 o.2)

-- ---- members and texts by their places

item_named : (xs : List Member) (m : Member) (ys : List Member) → AreMembers (members_of (xs ++ m ∷ ys)) → member_at m.name (members_of (xs ++ m ∷ ys)) ≡ Some (data_of m.tree)
item_named [] m ys o = member_first m.name (data_of m.tree) (members_of ys)
item_named (x ∷ xs) m ys o = member_tail x.name (data_of x.tree) (members_of (xs ++ m ∷ ys)) m.name (data_of m.tree) o (item_named xs m ys o.2)

pub member_named : (xs : List Member) (i : ℕ) (m : Member) → i < length xs → m ≡ get_or xs i m → AreMembers (members_of xs)
    → member_at m.name (members_of xs) ≡ Some (data_of m.tree)
member_named xs i m within is o =
    let split : xs ≡ take i xs ++ m ∷ drop (i + 1) xs = sym (take-append-drop i xs) ∙ ap (λ ys. take i xs ++ ys) (drop_more xs i m within ∙ ap (λ x. x ∷ drop (i + 1) xs) (sym is)) in
    subst (λ zs. member_at m.name (members_of zs) ≡ Some (data_of m.tree)) (sym split) (item_named (take i xs) m (drop (i + 1) xs) (subst (λ zs. AreMembers (members_of zs)) split o))
