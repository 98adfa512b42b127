-- The paths of the suggested document lead where they have to.
use Rattle.std.proofs.Common.{◌≡◌, ◌≢◌, ◌⊎◌, ℕ, zero, suc, List, [], ◌∷◌, ◌++◌, ◌∙◌, Bool, true, Option, Some, None, All, Contains, map, take, refl, sym, ap, subst, inl, inr}
use Rattle.std.specs.Prelude.{option_map, option_and_then, filter, not}
use Rattle.std.specs.List.{fold}
use Rattle.std.specs.Str.{bytes_eq}
use Rattle.std.proofs.lemmas.Option.{same_Some, none-some}
use Rattle.jtree.specs.Data.{Data, list, Members, no_members, member}
use Rattle.jtree.specs.Path.{member_at}
use Rattle.jtree.specs.Internal.Lookups.{bool_cases, same_name}
use Rattle.jtree.specs.Internal.MemberLaws.{with_member_at}
use Rattle.jtree.specs.Internal.Rising.{Among, among_parts, index_of, contained}
use Rattle.schema.specs.Document.Texts.{is_among}
use Rattle.schema.specs.Nodes.Node.{Validations, Node, node, scalar, object, map as map_node, list as list_node, open_, Fields, IsNode}
use Rattle.schema.specs.Nodes.ByPlace.{node_at}
use Rattle.schema.specs.declared.node.Bounds.{Bounds}
use Rattle.schema.specs.declared.node.MapType.{MapType}
use Rattle.explain.specs.Paths.FieldPath.{FieldPath, item, place_of}
use Rattle.explain.specs.Paths.FieldPath as step
use Rattle.plan.specs.Pools.Document.{pools_of}
use Rattle.plan.specs.Pools.FixedPaths.{IsFixablePath}
use Rattle.plan.specs.Pools.PlanFault.{IsLeafPath, IsDeclaredPath, HasGoodPaths}
use Rattle.plan.specs.Samples.Candidates.{sort_at}
use Rattle.plan.specs.declared.pool_limits.PoolLimits.{PoolLimits}
use Rattle.plan.specs.declared.sort.Sort.TheVariants.{Leaf}
use Rattle.jtree.specs.MemberPlace.{with_member}
use Rattle.suggest.specs.Suggested.Document.{items_of, with_entry, members_from, without_entry, general_of, for_variation, suggestions_by, single, document_of, suggested_document}
use Rattle.suggest.specs.Suggested.LeafValues.{General}
use Rattle.suggest.specs.Suggested.Lists.{Entry}
use Rattle.suggest.specs.Suggested.Varied.{Suggestions, suggestions_below}
use Rattle.suggest.specs.Suggested.Wanted.{Wanted}
use Rattle.suggest.specs.Suggested.Without.{without_paths}
use Rattle.suggest.proofs.FormLemmas.{pool_fixed, pool_paths, pool_present}
use Rattle.suggest.proofs.PathLemmas.{Under, IsLeafAt, IsNamedAt, lists_listed, said_is_under, object_leaf}

-- ---- names of members that are put in their place

value_of_with : (l : List ℕ) (d : Data) (ms : Members) (k : List ℕ) (v : Data) → member_at k (with_member l d ms) ≡ Some v → ((l ≡ k) × (d ≡ v)) ⊎ (member_at k ms ≡ Some v)
value_of_with l d ms k v found =
    let front : member_at k (member l d ms) ≡ Some v = sym (with_member_at l d ms k) ∙ found in
    elim (bool_cases (bytes_eq k l)) [
      | inl t ↦ inl (sym (same_name k l t), same_Some d v (rw t at front))
      | inr f ↦ inr (rw f at front)
    ]

-- an entry of this name gives this value
pub record IsEntryOf (es : List Entry) (k : List ℕ) (v : Data) : Type 0 where
  pub entry : Entry
  pub among : Among es entry
  pub is : entry.path ≡ k
  pub value : list (items_of entry.values) ≡ v

value_from : (es : List Entry) (ms : Members) (k : List ℕ) (v : Data) → member_at k (fold with_entry ms es) ≡ Some v → (member_at k ms ≡ Some v) ⊎ IsEntryOf es k v
value_from [] ms k v found = inl found
value_from (e ∷ es) ms k v found = elim (value_from es (with_entry ms e) k v found) [
  | inl here ↦ elim (value_of_with e.path (list (items_of e.values)) ms k v here) [
    | inl same ↦ inr (record { entry = e; among = inl refl; is = same.0; value = same.1 })
    | inr before ↦ inl before
  ]
  | inr later ↦ inr (record { entry = later.entry; among = inr later.among; is = later.is; value = later.value })
]

pub value_of_entry : (es : List Entry) (k : List ℕ) (v : Data) → member_at k (members_from es) ≡ Some v → IsEntryOf es k v
value_of_entry es k v found = elim (value_from es no_members k v found) [ inl none ↦ absurd (none-some v none) | inr e ↦ e ]

-- ---- parts of lists

pub among_taken : {X : Type 0} (n : ℕ) (xs : List X) (x : X) → Among (take n xs) x → Among xs x
among_taken zero xs x a = absurd a
among_taken (suc n) [] x a = absurd a
among_taken (suc n) (y ∷ xs) x (inl e) = inl e
among_taken (suc n) (y ∷ xs) x (inr a) = inr (among_taken n xs x a)

pub among_kept : {X : Type 0} (test : X → Bool) (xs : List X) (x : X) → Among (filter test xs) x → Among xs x × (test x ≡ true)
among_kept test [] x a = absurd a
among_kept test (y ∷ xs) x a = elim (bool_cases (test y)) [
  | inl t ↦ elim (rw t at a) [
    | inl e ↦ (inl e, subst (λ z. test z ≡ true) e t)
    | inr b ↦ let h = among_kept test xs x b in (inr h.0, h.1)
  ]
  | inr f ↦ let h = among_kept test xs x (rw f at a) in (inr h.0, h.1)
]

all_among : {X : Type 0} (P : X → Type 0) (xs : List X) (x : X) → All P xs → Among xs x → P x
all_among P xs x all a = let r = index_of xs x x a in subst P r.2 (all r.0 x r.1)

without_among : (ts : List (List ℕ)) (e : Entry) → Among (map without_entry ts) e → Among ts e.path
without_among [] e a = absurd a
without_among (t ∷ ts) e (inl same) = inl (ap (λ x. x.path) same)
without_among (t ∷ ts) e (inr a) = inr (without_among ts e a)

-- ---- paths

pub leaf_path : (root : Node) (text : List ℕ) → (sort_at root ≡ Leaf → ⊥) → IsLeafAt [] root text → IsLeafPath root text
leaf_path root text other l =
    let some : l.path ≢ [] = λ e.
    let same = same_Some root l.node (subst (λ q. node_at root (place_of q) ≡ Some l.node) e l.there) in
    other (subst (λ M. sort_at M ≡ Leaf) (sym same) l.leaf) in
    (l.path, sym l.is, ((some, (l.node, l.there)), (l.node, (l.there, l.leaf))))

no_item : (ks : List (List ℕ)) (q : FieldPath) → map step.field ks ≡ q ++ item ∷ [] → ⊥
no_item [] [] e = cc
no_item [] (s ∷ q) e = cc
no_item (k ∷ ks) [] e = cc
no_item (k ∷ ks) (s ∷ q) e = no_item ks q cc

named_path : (n : Bool) (d : Option (List ℕ)) (fs : Fields) (preserves : Bool) (type : MapType) (bounds : Bounds) (cs : Validations) (text : List ℕ) → Under (λ at M. IsNamedAt at M text) [] fs
    → IsFixablePath (node n d (object fs preserves type bounds cs)) text
named_path n d fs preserves type bounds cs text u =
    let names = u.here.names in
    let there = ap (option_and_then (λ L. node_at L (place_of (map step.field names)))) (ap (option_map (λ f. f.node)) u.found) ∙ u.here.there in
    (map step.field (u.name ∷ names), sym u.here.is, (((λ e. cc), (u.here.node, there)), λ i. no_item (u.name ∷ names) i.0 i.1.0))

declared_path : (root : Node) (text : List ℕ) → IsFixablePath root text → IsDeclaredPath root text
declared_path root text f = (f.0, f.1, f.2.0)

-- ---- what is suggested

pub record IsSaidWell (root : Node) (s : Suggestions) : Type 0 where
  pub lists : (e : Entry) → Among s.lists e → IsLeafPath root e.path
  pub fixed : (e : Entry) → Among s.fixed e → IsFixablePath root e.path
  pub present : (t : List ℕ) → Among s.present t → IsFixablePath root t

nothing_said : (root : Node) → IsSaidWell root (record { lists = []; names = []; fixed = []; present = [] })
nothing_said root = record { lists = λ e a. absurd a; fixed = λ e a. absurd a; present = λ t a. absurd a }

varied_well : (G : General) (ts : List (List ℕ)) (v schema : Option Data) (root : Node) → IsNode root → IsSaidWell root (suggestions_below G ts v schema [] root)
varied_well G ts v schema (node n d (scalar kind cs)) ordered = nothing_said _
varied_well G ts v schema (node n d open_) ordered = nothing_said _
varied_well G ts v schema (node n d (map_node N type bounds)) ordered = nothing_said _
varied_well G ts v schema (node n d (list_node N type keys bounds)) ordered = nothing_said _
varied_well G ts v schema (node n d (object fs preserves type bounds cs)) ordered =
    let u = said_is_under G ts v schema [] fs ordered in
    record {
      lists = λ e a. leaf_path (node n d (object fs preserves type bounds cs)) e.path (λ h. cc) (object_leaf [] n d fs preserves type bounds cs e.path (u.lists e a));
      fixed = λ e a. named_path n d fs preserves type bounds cs e.path (u.fixed e a);
      present = λ t a. named_path n d fs preserves type bounds cs t (u.present t a);
    }

said_well : (ts : List (List ℕ)) (G : General) (w : Wanted) (raw : Data) (root : Node) → IsNode root → (sort_at root ≡ Leaf → ⊥) → IsSaidWell root (suggestions_by ts G w raw root)
said_well [] G w raw root ordered other = record {
  lists = λ e a. leaf_path root e.path other (lists_listed G w.objects None (Some raw) [] root ordered e a).leaf;
  fixed = λ e a. absurd a;
  present = λ t a. absurd a;
}
said_well (t ∷ ts) G w raw root ordered other = varied_well (for_variation G) (t ∷ ts) (single w.objects) (Some raw) root ordered

-- ---- the document

good_document : (limits : PoolLimits) (root : Node) (without : List (List ℕ)) (s : Suggestions) → IsSaidWell root s → All (IsFixablePath root) without → HasGoodPaths root (pools_of (document_of limits root without s))
good_document limits root without s well fixable = record {
  paths = λ text has.
      let n = value_of_entry (take limits.paths s.lists) text has.0 (subst (λ ms. member_at text ms ≡ Some has.0) (pool_paths limits root without s) has.1) in
      subst (IsLeafPath root) n.is (well.lists n.entry (among_taken limits.paths s.lists n.entry n.among));
  fixed = λ text has.
      let n = value_of_entry (s.fixed ++ map without_entry without) text has.0 (subst (λ ms. member_at text ms ≡ Some has.0) (pool_fixed limits root without s) has.1) in
      subst (IsFixablePath root) n.is (elim (among_parts s.fixed (map without_entry without) n.entry n.among) [
        | inl a ↦ well.fixed n.entry a
        | inr a ↦ all_among (IsFixablePath root) without n.entry.path fixable (without_among without n.entry a)
      ]);
  present = λ text has.
      let a = contained (filter (λ t. not (is_among t without)) s.present) text (subst (λ ts. Contains ts text) (pool_present limits root without s) has) in
      declared_path root text (well.present text (among_kept (λ t. not (is_among t without)) s.present text a).0);
}

pub suggested_paths : (limits : PoolLimits) (raw : Data) (root : Node) (w : Wanted) → IsNode root → (sort_at root ≡ Leaf → ⊥) → All (IsFixablePath root) w.without
    → HasGoodPaths root (pools_of (suggested_document limits raw root w))
suggested_paths limits raw root w ordered other fixable =
    let left = without_paths root w in
    good_document limits root w.without (suggestions_by w.varied (general_of limits root) left raw root) (said_well w.varied (general_of limits root) left raw root ordered other) fixable
