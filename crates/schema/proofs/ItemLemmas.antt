-- Where no rule is broken the items of sets and map lists can be distinguished.
use Rattle.std.proofs.Common.{◌≡◌, ◌≢◌, ℕ, List, [], ◌∷◌, ◌++◌, Bool, true, false, Option, Some, None, refl, sym, ◌∙◌, subst, arith}
use Rattle.std.specs.Prelude.{option_and_then, codes, ◌||◌, ◌&&◌}
use Rattle.std.proofs.lemmas.Bool.{and_parts, not-true, true_from_ne_false}
use Rattle.std.proofs.lemmas.Option.{none-some, option_and_then_some, same_Some}
use Rattle.jtree.specs.Data.{Data, text, list as list_data, item}
use Rattle.jtree.specs.Kind.{is_text}
use Rattle.jtree.specs.Path.{Path, name, index, under, part_at}
use Rattle.jtree.specs.declared.equality.Equality.{Equality}
use Rattle.jtree.specs.Internal.Lookups.{part_at-append}
use Rattle.schema.specs.Document.Forms.{form_by, form_at, has_form, BreaksForm}
use Rattle.schema.specs.Document.Texts.{is_among}
use Rattle.schema.specs.Document.Places.{Step, Place, property, map_value, items, step_path, schema_by, schema_at, is_inside}
use Rattle.schema.specs.Document.Raw.{Raw, raw_by}
use Rattle.schema.specs.Rules.Keywords.{flag, text_under, items_in, items_under, texts_of, texts_under, is_empty}
use Rattle.schema.specs.Rules.Profile.{is_root}
use Rattle.schema.specs.Rules.Lists.{is_of_list_type, is_plain_scalar, has_bad_set_items, has_default, is_key, are_keys, have_keys, has_bad_keys}
use Rattle.schema.specs.Nodes.Node.{Node, node, scalar, object, list, Fields}
use Rattle.schema.specs.Nodes.ByPlace.{equality_of, list_type_named, field_at, node_below, node_at, AreNodesOf}
use Rattle.schema.specs.Nodes.Shape.{IsRootOf}
use Rattle.schema.specs.Nodes.Items.{IsPlainScalar, IsKey, AreKeys, HasKeys, HasSoundItems}
use Rattle.schema.specs.declared.node.ListType.TheVariants.{Set, Map}
use Rattle.schema.specs.declared.violation.Rule.TheVariants.{V11, V12}
use Rattle.schema.proofs.OneNode.{here, found_node, schema_below, node_of_below}
use Rattle.schema.proofs.ByPlaceLemmas.{step_part}
use Rattle.schema.specs.declared.profile.Profile.{Profile}
use Rattle.schema.specs.declared.profile.Profile.TheVariants.{Core, Cluster}

-- ---- the schema of a node

-- each keyword has its form, and so has all that is below it
abbrev pub HaveForms : Profile → Data → Type 0
HaveForms profile s = (k : List ℕ) (path : Path) → BreaksForm (form_by profile) s (name k ∷ path) → ⊥

part_below : (s d : Data) (step : Step) (path : Path) → schema_by s step ≡ Some d → part_at s (step_path step ++ path) ≡ part_at d path
part_below s d step path by = part_at-append s (step_path step) path d (step_part s d step by)

forms_below : (profile : Profile) (step : Step) (s d : Data) → is_inside (step ∷ []) ≡ false → schema_by s step ≡ Some d → HaveForms profile s → HaveForms profile d
forms_below Core (property l) s d outside by h = λ k path b. h (codes "properties") (name l ∷ name k ∷ path) (b.0, part_below s d (property l) (name k ∷ path) by ∙ b.1, b.2)
forms_below Cluster (property l) s d outside by h = λ k path b. h (codes "properties") (name l ∷ name k ∷ path) (b.0, part_below s d (property l) (name k ∷ path) by ∙ b.1, b.2)
forms_below Core map_value s d outside by h = λ k path b. h (codes "additionalProperties") (name k ∷ path) (b.0, part_below s d map_value (name k ∷ path) by ∙ b.1, b.2)
forms_below Cluster map_value s d outside by h = λ k path b. h (codes "additionalProperties") (name k ∷ path) (b.0, part_below s d map_value (name k ∷ path) by ∙ b.1, b.2)
forms_below Core items s d outside by h = λ k path b. h (codes "items") (name k ∷ path) (b.0, part_below s d items (name k ∷ path) by ∙ b.1, b.2)
forms_below Cluster items s d outside by h = λ k path b. h (codes "items") (name k ∷ path) (b.0, part_below s d items (name k ∷ path) by ∙ b.1, b.2)
forms_below profile step s d outside by h = absurd (cc)

and_false : (b : Bool) → (b && false) ≡ false
and_false true = refl
and_false false = refl

-- at the root it is that of a whole resource
pub schema_of : (profile : Profile) (p : Place) (root : Bool) (N M : Node) (s : Data) → AreNodesOf root N (raw_by profile s) → HaveForms profile s → node_at N p ≡ Some M
    → (t : Data) × (schema_at s p ≡ Some t) × HaveForms profile t × AreNodesOf (is_root p && root) M (raw_by profile t)
schema_of profile [] root N M s h forms at = (s, refl, forms, subst (λ K. AreNodesOf root K (raw_by profile s)) (same_Some N M at) h)
schema_of profile (step ∷ p) root N M s h forms at =
    option_and_then_some (λ K. node_at K p) (node_below N step) M at (λ K leads rest.
    let d = schema_below profile root N K s step h leads in
    let t = schema_of profile p false K M d.0 d.3 (forms_below profile step s d.0 d.1.0 d.2 forms) rest in
    (t.0, rw d.2 t.1, t.2, subst (λ r. AreNodesOf r M (raw_by profile t.0)) (and_false (is_root p)) t.3))

-- ---- what the rules ask of the items of a list

set_named : (e f : Equality) (s : Data) → Set e ≡ list_type_named f (text_under s (codes "x-kubernetes-list-type")) → is_of_list_type (codes "set") s ≡ true
set_named e f s is = grind arith

map_named : (e f : Equality) (s : Data) → Map e ≡ list_type_named f (text_under s (codes "x-kubernetes-list-type")) → is_of_list_type (codes "map") s ≡ true
map_named e f s is = grind arith

some_text : (o : Option Data) → ((v : Data) → option_and_then (λ d. part_at d (index 0 ∷ [])) o ≡ Some v → is_text v ≡ false → ⊥) → is_empty (items_in o) ≡ false
    → texts_of (items_in o) ≢ []
some_text (Some (list_data (item (text t) ds))) texts some = λ none. cc
some_text (Some (list_data (item d ds))) texts some = absurd (texts d refl refl)
some_text _ texts some = absurd (cc)

plain_scalar : (profile : Profile) (N : Node) (d : Data) → AreNodesOf false N (raw_by profile d) → is_plain_scalar profile (Some d) ≡ true → IsPlainScalar N
plain_scalar profile (node n x (scalar k cs)) d h plain = (here profile false _ d h).0.0 ∙ not-true _ (and_parts _ _ plain).1
plain_scalar profile (node n x A) d h plain = let kind = rw (here profile false _ d h).0.2.is at plain in absurd (cc)

-- ---- the keys of the items of a map list

abbrev HasKey : Node → List ℕ → Type 0
HasKey (node n x (object fs p t b cs)) k = IsKey fs k
HasKey _ k = ⊥

key_below : (profile : Profile) (N : Node) (d : Data) (k : List ℕ) (o : Option Data) → AreNodesOf false N (raw_by profile d) → schema_by d (property k) ≡ o → is_plain_scalar profile o ≡ true
    → (is_among k (texts_under d (codes "required")) || has_default o) ≡ true → HasKey N k
key_below profile (node n x (object fs p t b cs)) d k (Some e) h by plain given =
    let M = node_of_below profile false _ d e (property k) h (refl, λ is e. absurd (cc)) by in
    let f = found_node (field_at k fs) M.0 M.1 in
    let reported = (here profile false _ d h).1 k f.0 f.1 in
    (f.0, f.1, subst IsPlainScalar (sym f.2) (plain_scalar profile M.0 e M.2 plain), rw (reported.0, reported.1, by) given)
key_below profile (node n x A) d k (Some e) h by plain given = let M = node_of_below profile false _ d e (property k) h (refl, λ is e. absurd (cc)) by in absurd (none-some M.0 M.1)
key_below profile N d k None h by plain given = absurd (cc)

has_key : (profile : Profile) (N : Node) (d : Data) (k : List ℕ) → AreNodesOf false N (raw_by profile d) → is_key profile d k ≡ true → HasKey N k
has_key profile N d k h is = let parts = and_parts _ _ is in key_below profile N d k (schema_by d (property k)) h refl parts.0 parts.1

keys_below : (profile : Profile) (fs : Fields) (d : Data) (ks : List (List ℕ)) → ((k : List ℕ) → is_key profile d k ≡ true → IsKey fs k) → are_keys profile d ks ≡ true → AreKeys fs ks
keys_below profile fs d [] each are = tt
keys_below profile fs d (k ∷ ks) each are =
    let parts = and_parts _ _ are in
    let rest = and_parts _ _ parts.1 in
    (each k parts.0, not-true _ rest.0, keys_below profile fs d ks each rest.1)

has_keys : (profile : Profile) (N : Node) (d : Data) (ks : List (List ℕ)) → AreNodesOf false N (raw_by profile d) → flag d (codes "nullable") ≡ false → ks ≢ [] → are_keys profile d ks ≡ true → HasKeys N ks
has_keys profile (node n x (object fs p t b cs)) d ks h never_null some are = ((here profile false _ d h).0.0 ∙ never_null, some, keys_below profile fs d ks (λ k. has_key profile _ d k h) are)
has_keys profile N d [] h never_null some are = absurd (some refl)
has_keys profile N d (k ∷ ks) h never_null some are = absurd (has_key profile N d k h (and_parts _ _ are).0)

-- ---- at each node

text_form : (profile : Profile) (v : Data) → is_text v ≡ false → has_form (form_at (form_by profile) (name (codes "x-kubernetes-list-map-keys") ∷ index 0 ∷ [])) v ≡ false
text_form Core v other = other
text_form Cluster v other = other

sound_items : (profile : Profile) (M : Node) (s : Data) (root : Bool) → AreNodesOf root M (raw_by profile s) → HaveForms profile s → (has_bad_keys profile s ≡ true → ⊥) → (has_bad_set_items profile s ≡ true → ⊥) → HasSoundItems M
sound_items profile (node n x (list N (Set e) ks b)) s root h forms keys_good items_good =
    let is = (here profile root _ s h).0 in
    let d = schema_below profile root _ N s items h refl in
    plain_scalar profile N d.0 d.3 (true_from_ne_false _ (λ bad. items_good (rw (is.2.is, set_named e (equality_of profile) s is.3.0, d.2, bad) refl)))
sound_items profile (node n x (list N (Map e) ks b)) s root h forms keys_good items_good =
    let keys = codes "x-kubernetes-list-map-keys" in
    let is = (here profile root _ s h).0 in
    let d = schema_below profile root _ N s items h refl in
    let have = true_from_ne_false (have_keys profile (Some d.0) (items_under s keys)) (λ bad. keys_good (rw (map_named e (equality_of profile) s is.3.0, is.2.is, d.2, bad) refl)) in
    let single = and_parts _ _ (and_parts _ _ have).1 in
    let some = and_parts _ _ single.1 in
    let texts = some_text (under s keys) (λ v at bad. forms keys (index 0 ∷ []) (v, at, text_form profile v bad)) (not-true _ some.0) in
    subst (HasKeys N) (sym is.3.1) (has_keys profile N d.0 (texts_under s keys) d.3 (not-true _ single.0) texts some.1)
sound_items profile M s root h forms keys_good items_good = tt

pub sound_items_at : (raw : Raw) (root : Node) → IsRootOf root raw → (p : Place) (M : Node) → node_at root p ≡ Some M → HasSoundItems M
sound_items_at raw root is p M at =
    let s = schema_of raw.profile p true root M raw.tree is.nodes (λ k path. is.forms (name k ∷ path)) at in
    let outside = (is.nodes.only p M at).0.0 in
    sound_items raw.profile M s.0 (is_root p && true) s.3 s.2 (λ bad. is.unbroken p V11 (outside, (s.0, s.1, bad))) (λ bad. is.unbroken p V12 (outside, (s.0, s.1, bad)))
