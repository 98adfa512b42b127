-- The candidates of a scalar may be wanted: no scalar is an item of a map list.
use Rattle.std.proofs.Common.{ap, ◌≡◌, ℕ, List, [], ◌∷◌, ◌++◌, Bool, true, false, Option, Some, refl, sym, subst, ◌∙◌, inl, arith, All, Contains, map, get_or}
use Rattle.std.proofs.lemmas.List.{get_or-map, length-map}
use Rattle.jtree.specs.Data.{Data}
use Rattle.jtree.specs.View.{data_of}
use Rattle.jtree.specs.declared.value.Tree.{Tree}
use Rattle.schema.specs.Document.Places.{Place}
use Rattle.schema.specs.Document.Raw.{Raw}
use Rattle.schema.specs.Nodes.Items.{HasKeys, HasSoundItems}
use Rattle.schema.specs.Nodes.Node.{Node, Validations, node, scalar, object, list, open_}
use Rattle.schema.specs.Nodes.Node as nodes
use Rattle.schema.specs.Nodes.ByPlace.{node_at}
use Rattle.schema.specs.Nodes.Shape as shape
use Rattle.schema.specs.declared.node.ListType.TheVariants.{Atomic, Set, Map}
use Rattle.schema.specs.declared.node.ScalarKind.{ScalarKind}
use Rattle.stored.specs.Schemas.Accepted.{IsSchema}
use Rattle.explain.specs.Fields.Declared.{IsDeclared}
use Rattle.explain.specs.Fields.PathFault.{IsTextOf, IsPathFault}
use Rattle.explain.specs.declared.fault.XFault.{XFault}
use Rattle.explain.specs.declared.fault.XFault.TheVariants.{BadPath, NoSuchField}
use Rattle.explain.specs.Paths.FieldPath.{item, FieldPath, place_of}
use Rattle.explain.specs.Paths.PathText.{path_text}
use Rattle.plan.specs.Pools.FixedPaths.{is_map_list, IsMapItem}
use Rattle.plan.specs.Pools.Pools.{Pools}
use Rattle.plan.specs.Samples.Candidates.{AreCandidates}
use Rattle.plan.specs.Samples.Part.{IsPart}
use Rattle.plan.specs.Samples.Site.{plain}
use Rattle.cover.specs.Wanted.{AreValuesAt}
use Rattle.plan.specs.Samples.Candidates.{sort_at}
use Rattle.cover.specs.Internal.Narrowed.{MayBeWanted}
use Rattle.cover.proofs.NarrowLemmas.{node_after}
use Rattle.cover.proofs.PathLemmas.{OneText}

abbrev pub ItemsLaw : Type 0
ItemsLaw = (raw : Raw) (root : Node) → shape.IsRootOf root raw → (p : Place) (M : Node) → node_at root p ≡ Some M → HasSoundItems M

sound_items : ItemsLaw → (root : Node) → IsSchema root → (p : Place) (M : Node) → node_at root p ≡ Some M → HasSoundItems M
sound_items law root h p M at = law h.0 root (record { forms = h.1.forms; unbroken = λ p r b. h.1.unbroken p r (inl b); nodes = h.1.nodes }) p M at

scalar_keys : (nullable : Bool) (description : Option (List ℕ)) (kind : ScalarKind) (cs : Validations) (M : Node) (keys : List (List ℕ)) → M ≡ node nullable description (scalar kind cs) → HasKeys M keys → ⊥
scalar_keys nullable description kind cs M keys is h = subst (λ N. HasKeys N keys) is h

no_map_list : (root L : Node) (nullable : Bool) (description : Option (List ℕ)) (kind : ScalarKind) (cs : Validations) (q : FieldPath) → HasSoundItems L → node_at root (place_of q) ≡ Some L
    → node_at root (place_of (q ++ item ∷ [])) ≡ Some (node nullable description (scalar kind cs)) → is_map_list L ≡ true → ⊥
no_map_list root (node m d (list M (Map e) keys bounds)) nullable description kind cs q sound reach at is =
    let there = node_after root (node m d (list M (Map e) keys bounds)) M q item reach refl in
    let same : M ≡ node nullable description (scalar kind cs) = cc in
    scalar_keys nullable description kind cs M keys same sound
no_map_list root (node m d (list M Atomic keys bounds)) nullable description kind cs q sound reach at is = absurd (cc)
no_map_list root (node m d (list M (Set e) keys bounds)) nullable description kind cs q sound reach at is = absurd (cc)
no_map_list root (node m d (scalar k c)) nullable description kind cs q sound reach at is = absurd (cc)
no_map_list root (node m d open_) nullable description kind cs q sound reach at is = absurd (cc)
no_map_list root (node m d (object fs preserves type bounds c)) nullable description kind cs q sound reach at is = absurd (cc)
no_map_list root (node m d (nodes.map M type bounds)) nullable description kind cs q sound reach at is = absurd (cc)

no_map_item : ItemsLaw → (root : Node) → IsSchema root → (nullable : Bool) (description : Option (List ℕ)) (kind : ScalarKind) (cs : Validations) (p : FieldPath)
    → node_at root (place_of p) ≡ Some (node nullable description (scalar kind cs)) → IsMapItem root p → ⊥
no_map_item law root schema nullable description kind cs p at h =
    no_map_list root h.1.1.0 nullable description kind cs h.0 (sound_items law root schema (place_of h.0) h.1.1.0 h.1.1.1.0) h.1.1.1.0
    (subst (λ x. node_at root (place_of x) ≡ Some (node nullable description (scalar kind cs))) h.1.0 at) h.1.1.1.1

-- of each of the candidates
each_tree : (Holds : Data → Type 0) (ts : List Tree) → ((v : Data) → Contains (map (λ t. data_of t) ts) v → Holds v) → All (λ t. Holds (data_of t)) ts
each_tree Holds ts each k d lt =
    let long = length-map ts (λ t. data_of t) in
    let t = get_or ts k d in
    each (data_of t) (k, omega (arith, long, lt), get_or-map (λ t. data_of t) ts k d (data_of t) lt)

none_of : (Holds : Data → Type 0) (ts : List Tree) → map (λ t. data_of t) ts ≡ [] → All (λ t. Holds (data_of t)) ts
none_of Holds [] is k d lt = absurd (omega (arith, lt))
none_of Holds (t ∷ ts) is k d lt = absurd (cc)

may_be : ItemsLaw → (root : Node) → IsSchema root → (P : Pools) (nullable : Bool) (description : Option (List ℕ)) (kind : ScalarKind) (cs : Validations) (limit : ℕ) (p : FieldPath) (ds : List Data)
    → node_at root (place_of p) ≡ Some (node nullable description (scalar kind cs)) → AreCandidates P limit (plain P (path_text p) (node nullable description (scalar kind cs))) ds
    → (v : Data) → Contains ds v → MayBeWanted root P (Some v) p
may_be law root schema P nullable description kind cs limit p ds at are v has = (
  no_map_item law root schema nullable description kind cs p at,
  λ N there.
      let same : node nullable description (scalar kind cs) ≡ N = cc in
      subst (λ M. IsPart P (plain P (path_text p) M) v) same ((are.each v).0 has).0,
  λ N there. let same : node nullable description (scalar kind cs) ≡ N = cc in sym (ap sort_at same),
)

pub values_wanted : ItemsLaw → (root : Node) → IsSchema root → (values : Bool) (P : Pools) (limit : ℕ) (p : FieldPath) (N : Node) → node_at root (place_of p) ≡ Some N → (ts : List Tree)
    → AreValuesAt values P limit (path_text p) N (map (λ t. data_of t) ts) → All (λ t. MayBeWanted root P (Some (data_of t)) p) ts
values_wanted law root schema true P limit p (node nullable description (scalar kind cs)) at ts are =
    each_tree (λ v. MayBeWanted root P (Some v) p) ts (may_be law root schema P nullable description kind cs limit p (map (λ t. data_of t) ts) at are)
values_wanted law root schema true P limit p (node nullable description open_) at ts are = none_of (λ v. MayBeWanted root P (Some v) p) ts are
values_wanted law root schema true P limit p (node nullable description (object fs preserves type bounds cs)) at ts are = none_of (λ v. MayBeWanted root P (Some v) p) ts are
values_wanted law root schema true P limit p (node nullable description (nodes.map M type bounds)) at ts are = none_of (λ v. MayBeWanted root P (Some v) p) ts are
values_wanted law root schema true P limit p (node nullable description (list M type keys bounds)) at ts are = none_of (λ v. MayBeWanted root P (Some v) p) ts are
values_wanted law root schema false P limit p N at ts are = none_of (λ v. MayBeWanted root P (Some v) p) ts are

-- of any path with the text of that one
pub values_wanted_of : OneText → ItemsLaw → (root : Node) → IsSchema root → (values : Bool) (P : Pools) (limit : ℕ) (text : List ℕ) (p : FieldPath) (N : Node) → path_text p ≡ text
    → node_at root (place_of p) ≡ Some N → (ts : List Tree) → AreValuesAt values P limit text N (map (λ t. data_of t) ts) → (x : FieldPath) → path_text x ≡ text
    → All (λ t. MayBeWanted root P (Some (data_of t)) x) ts
values_wanted_of one law root schema values P limit text p N is at ts are x e =
    subst (λ y. All (λ t. MayBeWanted root P (Some (data_of t)) y) ts) (one p x (is ∙ sym e))
    (values_wanted law root schema values P limit p N at ts (subst (λ t. AreValuesAt values P limit t N (map (λ t. data_of t) ts)) (sym is) are))

-- the text of a declared path leads to a field
pub not_declared : OneText → (root : Node) (text : List ℕ) (e : XFault) → IsTextOf (IsDeclared root) text → IsPathFault (IsDeclared root) text e → ⊥
not_declared one root text BadPath d f = f d.0 d.1
not_declared one root text NoSuchField d f = f.2 (subst (IsDeclared root) (one d.0 f.0 (d.1 ∙ sym f.1)) d.2)
