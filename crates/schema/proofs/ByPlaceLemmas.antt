-- The nodes that are found level by level are those of the places of a schema.
use Rattle.std.proofs.Common.{◌≡◌, ℕ, List, [], ◌∷◌, Bool, true, false, Option, Some, None, refl, sym, ap, ◌∙◌, subst, inl, inr}
use Rattle.std.specs.Prelude.{option_and_then, codes, not, ◌&&◌}
use Rattle.std.specs.Str.{bytes_eq}
use Rattle.std.proofs.lemmas.Option.{option_and_then_some, same_Some}
use Rattle.jtree.specs.Data.{Data, Members, no_members, member, AreMembers, IsTree}
use Rattle.jtree.specs.Data as tree
use Rattle.jtree.specs.Path.{name, member_at, under, part_at}
use Rattle.jtree.specs.Internal.Lookups.{bool_cases, same_name, member_later, member_tail}
use Rattle.schema.specs.Document.Crd.{IsObject}
use Rattle.schema.specs.Document.Texts.{is_among}
use Rattle.schema.specs.Document.Places.{Step, Place, property, map_value, items, step_path, only_object, schema_by, schema_at, IsPlace, is_inside, is_envelope_name}
use Rattle.schema.specs.Document.Raw.{Raw, raw_by}
use Rattle.schema.specs.Rules.Kinds as kinds
use Rattle.schema.specs.Rules.Kinds.{IsOfKind}
use Rattle.schema.specs.Rules.Keywords.{members_in, members_under, texts_under}
use Rattle.schema.specs.Nodes.Node.{Node, node, Sort, object, map, list, Fields, no_fields, field}
use Rattle.schema.specs.Nodes.ByPlace.{sort_kind, IsNodeHere, AreFieldsHere, Declared, field_at, node_below, node_at, IsNodePlace, AreNodesOf}
use Rattle.schema.specs.Internal.Building.{HasOwnParts, HaveOwnParts}
use Rattle.schema.specs.Internal.NodeOf.{is_declared, declared_of, IsNodeOf, AreBelow, AreFieldsOf}
use Rattle.schema.proofs.KindLemmas.{one_kind, kind_object}
use Rattle.schema.proofs.EventParts.{object_only}
use Rattle.schema.proofs.EventPlaces.{part_tree}
use Rattle.schema.proofs.ShapeLemmas.{place_more, place_first, place_rest, declared_is_object, declared_is_other, properties_tree, node_ordered}
use Rattle.schema.proofs.OneNode.{scalar_of, scalar_in, scalar_kind_is, found_node}
use Rattle.schema.specs.declared.profile.Profile.{Profile}

-- ---- what a step leads to

object_by : (o : Option Data) (d : Data) → option_and_then only_object (option_and_then (λ e. Some e) o) ≡ Some d → (ms : Members) × (o ≡ Some (tree.object ms)) × (d ≡ tree.object ms)
object_by None d h = cc
object_by (Some e) d h = let is = object_only e d h in (is.0, ap Some is.1, is.2)

pub step_part : (s d : Data) (step : Step) → schema_by s step ≡ Some d → part_at s (step_path step) ≡ Some d
step_part s d step by = option_and_then_some only_object (part_at s (step_path step)) d by (λ e found only.
    let o = object_only e d only in
    found ∙ ap Some (o.1 ∙ sym o.2))

schema_tree : (s d : Data) (step : Step) → IsTree s → schema_by s step ≡ Some d → IsTree d
schema_tree s d step is by = part_tree (step_path step) s d is (step_part s d step by)

property_in : (o : Option Data) (k : List ℕ) (d : Data) → option_and_then only_object (option_and_then (λ e. part_at e (name k ∷ [])) o) ≡ Some d
    → (ms : Members) × (o ≡ Some (tree.object ms)) × (member_at k (members_in o) ≡ Some d) × IsObject d
property_in (Some (tree.object ms)) k d h = let is = object_by (member_at k ms) d h in (ms, refl, is.1 ∙ ap Some (sym is.2), (is.0, is.2))
property_in _ k d h = absurd (cc)

in_property : (o : Option Data) (k : List ℕ) (ms : Members) → member_at k (members_in o) ≡ Some (tree.object ms)
    → option_and_then only_object (option_and_then (λ e. part_at e (name k ∷ [])) o) ≡ Some (tree.object ms)
in_property (Some (tree.object ns)) k ms h = rw h refl
in_property _ k ms h = cc

own_below : (profile : Profile) (root : Bool) (s d : Data) (step : Step) → HaveOwnParts profile root s → IsNodePlace root (step ∷ []) → schema_by s step ≡ Some d → HaveOwnParts profile false d
own_below profile root s d step own place by p t below found = own (step ∷ p) t (place_more root step p place below) (rw by found)

-- ---- declared properties

declared_each : (root : Bool) (k : List ℕ) (ms : Members) (d : Data) → is_declared root k d ≡ true → member_at k ms ≡ Some d → member_at k (declared_of root ms) ≡ Some d
declared_each root k no_members d has found = cc
declared_each root k (member l e ms) d has found = elim (bool_cases (bytes_eq k l)) [
  | inl t ↦
      let same = same_Some e d (rw t at found) in
      let first : is_declared root l e ≡ true = subst (λ n. is_declared root n e ≡ true) (same_name k l t) (subst (λ x. is_declared root k x ≡ true) (sym same) has) in
      rw (first, t) (ap Some same)
  | inr other ↦
      let rest = declared_each root k ms d has (sym (member_later k l e ms other) ∙ found) in
      elim (bool_cases (is_declared root l e)) [
        | inl first ↦ rw (first, other) rest
        | inr lacks ↦ rw lacks rest
      ]
]

declared_only : (root : Bool) (k : List ℕ) (ms : Members) (d : Data) → AreMembers ms → member_at k (declared_of root ms) ≡ Some d
    → (member_at k ms ≡ Some d) × (is_declared root k d ≡ true)
declared_only root k no_members d o found = absurd (cc)
declared_only root k (member l e ms) d o found = elim (bool_cases (is_declared root l e)) [
  | inl first ↦ elim (bool_cases (bytes_eq k l)) [
    | inl t ↦
        let same = same_Some e d (rw (first, t) at found) in
        (rw t (ap Some same), subst (λ x. is_declared root k x ≡ true) same (subst (λ n. is_declared root n e ≡ true) (sym (same_name k l t)) first))
    | inr other ↦ let rest = declared_only root k ms d o.2 (rw (first, other) at found) in (member_later k l e ms other ∙ rest.0, rest.1)
  ]
  | inr lacks ↦ let rest = declared_only root k ms d o.2 (rw lacks at found) in (member_tail l e ms k d o rest.0, rest.1)
]

not_both : (a b : Bool) → (a ≡ true → b ≡ true → ⊥) → not (a && b) ≡ true
not_both true true h = absurd (h refl refl)
not_both true false h = refl
not_both false b h = refl

each_declared : (root : Bool) (s d : Data) (k : List ℕ) → IsNodePlace root (property k ∷ []) → schema_by s (property k) ≡ Some d
    → member_at k (declared_of root (members_under s (codes "properties"))) ≡ Some d
each_declared root s d k place by =
    let at = property_in (under s (codes "properties")) k d by in
    declared_each root k (members_under s (codes "properties")) d (subst (λ x. is_declared root k x ≡ true) (sym at.3.1) (not_both root (is_envelope_name k) place.1)) at.2

only_declared : (root : Bool) (s d : Data) (k : List ℕ) → IsTree s → member_at k (declared_of root (members_under s (codes "properties"))) ≡ Some d
    → IsNodePlace root (property k ∷ []) × (schema_by s (property k) ≡ Some d)
only_declared root s d k o found =
    let at = declared_only root k (members_under s (codes "properties")) d (properties_tree s o) found in
    let is = declared_is_object root k d at.1 in
    ((refl, declared_is_other root k d at.1), in_property (under s (codes "properties")) k is.0 (at.0 ∙ ap Some is.1) ∙ ap Some (sym is.1))

-- ---- fields and properties of one name

abbrev IsFieldOf : (profile : Profile) → List (List ℕ) → List ℕ → Declared → Data → Type 0
IsFieldOf profile names k f d = IsNodeOf profile false f.node d × (f.required ≡ is_among k names) × (f.default ≡ under d (codes "default"))

-- a field where there is a property
abbrev Matches : (profile : Profile) → List (List ℕ) → List ℕ → Option Declared → Option Data → Type 0
Matches profile names k None None = Unit {0}
Matches profile names k (Some f) (Some d) = IsFieldOf profile names k f d
Matches profile names k _ _ = ⊥

fields_match : (profile : Profile) (fs : Fields) (names : List (List ℕ)) (ms : Members) (k : List ℕ) → AreFieldsOf profile fs names ms → Matches profile names k (field_at k fs) (member_at k ms)
fields_match profile no_fields names no_members k h = tt
fields_match profile no_fields names (member m d ms) k h = absurd h
fields_match profile (field l N r e fs) names no_members k h = absurd h
fields_match profile (field l N r e fs) names (member m d ms) k h = elim (bool_cases (bytes_eq k l)) [
  | inl t ↦
      let is_m : bytes_eq k m ≡ true = subst (λ n. bytes_eq k n ≡ true) h.0 t in
      rw (t, is_m) (h.1, h.2 ∙ ap (λ n. is_among n names) (sym (same_name k m is_m)), h.3)
  | inr other ↦
      let not_m : bytes_eq k m ≡ false = subst (λ n. bytes_eq k n ≡ false) h.0 other in
      rw (other, not_m) (fields_match profile fs names ms k h.4)
]

matches_field : (profile : Profile) (names : List (List ℕ)) (k : List ℕ) (o : Option Declared) (d : Data) → Matches profile names k o (Some d) → (f : Declared) × (o ≡ Some f) × IsFieldOf profile names k f d
matches_field profile names k None d h = absurd h
matches_field profile names k (Some f) d h = (f, refl, h)

matches_property : (profile : Profile) (names : List (List ℕ)) (k : List ℕ) (f : Declared) (o : Option Data) → Matches profile names k (Some f) o → (d : Data) × (o ≡ Some d) × IsFieldOf profile names k f d
matches_property profile names k f None h = absurd h
matches_property profile names k f (Some d) h = (d, refl, h)

field_each : (profile : Profile) (root : Bool) (fs : Fields) (s d : Data) (k : List ℕ) → AreFieldsOf profile fs (texts_under s (codes "required")) (declared_of root (members_under s (codes "properties")))
    → IsNodePlace root (property k ∷ []) → schema_by s (property k) ≡ Some d → (f : Declared) × (field_at k fs ≡ Some f) × IsNodeOf profile false f.node d
field_each profile root fs s d k are place by =
    let names = texts_under s (codes "required") in
    let ms = declared_of root (members_under s (codes "properties")) in
    let f = matches_field profile names k (field_at k fs) d (subst (Matches profile names k (field_at k fs)) (each_declared root s d k place by) (fields_match profile fs names ms k are)) in
    (f.0, f.1, f.2.0)

field_only : (profile : Profile) (root : Bool) (fs : Fields) (s : Data) (k : List ℕ) (f : Declared) → IsTree s
    → AreFieldsOf profile fs (texts_under s (codes "required")) (declared_of root (members_under s (codes "properties"))) → field_at k fs ≡ Some f
    → (d : Data) × IsNodePlace root (property k ∷ []) × (schema_by s (property k) ≡ Some d) × IsFieldOf profile (texts_under s (codes "required")) k f d
field_only profile root fs s k f o are found =
    let names = texts_under s (codes "required") in
    let ms = declared_of root (members_under s (codes "properties")) in
    let d = matches_property profile names k f (member_at k ms) (subst (λ x. Matches profile names k x (member_at k ms)) found (fields_match profile fs names ms k are)) in
    let by = only_declared root s d.0 k o d.1 in
    (d.0, by.0, by.1, d.2)

-- ---- nodes one step below

-- the kind of a schema with a schema below it by this step
abbrev step_kind : Step → kinds.Kind
step_kind (property k) = kinds.object
step_kind map_value = kinds.map
step_kind items = kinds.list
-- for the branches of junctors, which have no nodes
step_kind _ = kinds.open_

own_kind : (profile : Profile) (s d : Data) (step : Step) → HasOwnParts profile s → is_inside (step ∷ []) ≡ false → schema_by s step ≡ Some d → IsOfKind profile s (step_kind step)
own_kind profile s d (property k) own outside by = let o = property_in (under s (codes "properties")) k d by in own.properties (o.0, o.1)
own_kind profile s d map_value own outside by = let o = object_by (under s (codes "additionalProperties")) d by in own.values (o.0, o.1)
own_kind profile s d items own outside by = let o = object_by (under s (codes "items")) d by in own.items (o.0, o.1)
own_kind profile s d step own outside by = absurd (cc)

keyword_below : (profile : Profile) (N : Node) (s d : Data) (k : List ℕ) → (e : Data) × (under s k ≡ Some e) × IsNodeOf profile false N e → option_and_then only_object (option_and_then (λ e. Some e) (under s k)) ≡ Some d
    → IsNodeOf profile false N d
keyword_below profile N s d k below by =
    let o = object_by (under s k) d by in
    subst (IsNodeOf profile false N) (same_Some below.0 d (sym below.1 ∙ (o.1 ∙ ap Some (sym o.2)))) below.2

each_sort : (profile : Profile) (root : Bool) (step : Step) (A : Sort) (n : Bool) (x : Option (List ℕ)) (s d : Data) → sort_kind A ≡ step_kind step → scalar_in A ≡ scalar_of (step_kind step)
    → AreBelow profile root A s → IsNodePlace root (step ∷ []) → schema_by s step ≡ Some d → (M : Node) × (node_below (node n x A) step ≡ Some M) × IsNodeOf profile false M d
each_sort profile root (property k) (object fs p t b cs) n x s d kind_is scalar_is below place by = let f = field_each profile root fs s d k below place by in (f.0.node, rw f.1 refl, f.2)
each_sort profile root map_value (map N t b) n x s d kind_is scalar_is below place by = (N, refl, keyword_below profile N s d (codes "additionalProperties") below by)
each_sort profile root items (list N t k b) n x s d kind_is scalar_is below place by = (N, refl, keyword_below profile N s d (codes "items") below by)
each_sort profile root step A n x s d kind_is scalar_is below place by = let outside = place.0 in absurd (cc)

each_below : (profile : Profile) (root : Bool) (N : Node) (s d : Data) (step : Step) → HasOwnParts profile s → IsNodeOf profile root N s → IsNodePlace root (step ∷ []) → schema_by s step ≡ Some d
    → (M : Node) × (node_below N step ≡ Some M) × IsNodeOf profile false M d
each_below profile root (node n x A) s d step own is place by =
    let kind_is = one_kind profile s (sort_kind A) (step_kind step) is.0.2 (own_kind profile s d step own place.0 by) in
    each_sort profile root step A n x s d kind_is (sym (scalar_kind_is A) ∙ ap scalar_of kind_is) is.1 place by

node_object : (profile : Profile) (N : Node) (d : Data) → IsNodeOf profile false N d → IsObject d
node_object profile (node n x A) d is = kind_object profile d (sort_kind A) is.0.2

only_below : (profile : Profile) (root : Bool) (N M : Node) (s : Data) (step : Step) → IsTree s → IsNodeOf profile root N s → node_below N step ≡ Some M
    → (d : Data) × IsNodePlace root (step ∷ []) × (schema_by s step ≡ Some d) × IsNodeOf profile false M d
only_below profile root (node n x (object fs p t b cs)) M s (property k) o is leads =
    let f = found_node (field_at k fs) M leads in
    let d = field_only profile root fs s k f.0 o is.1 f.1 in
    (d.0, d.1, d.2, subst (λ K. IsNodeOf profile false K d.0) f.2 d.3.0)
only_below profile root (node n x (map N t b)) M s map_value o is leads =
    let object_is = node_object profile N is.1.0 is.1.2 in
    (is.1.0, (refl, λ e h. absurd (cc)), rw (is.1.1, object_is.1) refl, subst (λ K. IsNodeOf profile false K is.1.0) (same_Some N M leads) is.1.2)
only_below profile root (node n x (list N t k b)) M s items o is leads =
    let object_is = node_object profile N is.1.0 is.1.2 in
    (is.1.0, (refl, λ e h. absurd (cc)), rw (is.1.1, object_is.1) refl, subst (λ K. IsNodeOf profile false K is.1.0) (same_Some N M leads) is.1.2)
only_below profile root N M s step o is leads = absurd (cc)

-- ---- at all places

fields_here : (profile : Profile) (root : Bool) (N : Node) (s : Data) → IsTree s → IsNodeOf profile root N s → AreFieldsHere N s
fields_here profile root (node n x (object fs p t b cs)) s o is = λ k f found.
    let d = field_only profile root fs s k f o is.1 found in
    (d.3.1, rw d.2 d.3.2)
fields_here profile root N s o is = tt

itself_here : (profile : Profile) (root : Bool) (N : Node) (s : Data) → IsNodeOf profile root N s → IsNodeHere profile N s
itself_here profile root (node n x A) s is = is.0

each_place : (profile : Profile) (p : Place) (root : Bool) (N : Node) (s t : Data) → IsTree s → HaveOwnParts profile root s → IsNodeOf profile root N s → IsNodePlace root p → schema_at s p ≡ Some t
    → (M : Node) × (node_at N p ≡ Some M) × IsNodeHere profile M t × AreFieldsHere M t
each_place profile [] root N s t o own is place found =
    let same = same_Some s t found in
    (N, refl, subst (IsNodeHere profile N) same (itself_here profile root N s is), subst (AreFieldsHere N) same (fields_here profile root N s o is))
each_place profile (step ∷ p) root N s t o own is place found =
    option_and_then_some (λ x. schema_at x p) (schema_by s step) t found (λ d by rest.
    let first = place_first root step p place in
    let M = each_below profile root N s d step (own [] s (refl, λ e h. absurd (cc)) refl) is first by in
    let got = each_place profile p false M.0 d t (schema_tree s d step o by) (own_below profile root s d step own first by) M.2 (place_rest root step p place) rest in
    (got.0, rw M.1 got.1, got.2, got.3))

only_place : (profile : Profile) (p : Place) (root : Bool) (N M : Node) (s : Data) → IsTree s → IsNodeOf profile root N s → node_at N p ≡ Some M → IsNodePlace root p × IsPlace s p
only_place profile [] root N M s o is leads = ((refl, λ e h. absurd (cc)), (s, refl))
only_place profile (step ∷ p) root N M s o is leads =
    option_and_then_some (λ K. node_at K p) (node_below N step) M leads (λ K below rest.
    let d = only_below profile root N K s step o is below in
    let got = only_place profile p false K M d.0 (schema_tree s d.0 step o d.2) d.3 rest in
    (place_more root step p d.1 got.0, (got.1.0, rw d.2 got.1.1)))

pub nodes_by_place : (profile : Profile) (N : Node) (s : Data) (root : Bool) → IsTree s → HaveOwnParts profile root s → IsNodeOf profile root N s → AreNodesOf root N (raw_by profile s)
nodes_by_place profile N s root o own is = record {
  ordered = node_ordered profile N root s o is;
  each = λ p t. each_place profile p root N s t o own is;
  only = λ p M. only_place profile p root N M s o is;
}
