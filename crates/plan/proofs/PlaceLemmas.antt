-- The places of the sites of a schema, and the sites over other pools.
use Rattle.std.proofs.Common.{◌≡◌, ◌<◌, ◌+◌, ◌-◌, ℕ, List, [], ◌∷◌, ◌++◌, Bool, true, Option, Some, None, refl, sym, ap, subst, ◌∙◌, inl, inr, append-nil, append_assoc, arith, length, length-append, zero-add}
use Rattle.std.specs.Prelude.{is_some, map}
use Rattle.std.proofs.lemmas.Option.{same_Some}
use Rattle.std.proofs.lemmas.Bool.{cases_lt}
use Rattle.std.proofs.lemmas.List.{append_cancel_left, length-map, get_or-map, get_or_default, length_push}
use Rattle.std.proofs.lemmas.List.Concat.{flat_map-append}
use Rattle.std.proofs.lemmas.List.Elements.{All-contains}
use Rattle.jtree.specs.Data.{Data}
use Rattle.jtree.specs.Internal.Lookups.{option_cases, own_name}
use Rattle.jtree.specs.Internal.Rising.{Among, Rising, contained, among_parts, rising_join, all_pairs}
use Rattle.schema.specs.Nodes.Node.{Node, node, Sort, scalar, object, list, open_, Fields, no_fields, field, Validations, IsNode, IsSort, AreOrdered}
use Rattle.schema.specs.Nodes.Node as nodes
use Rattle.schema.specs.Nodes.ByPlace.{Declared, field_at, node_below, node_at}
use Rattle.schema.specs.declared.node.ListType.{ListType}
use Rattle.schema.specs.declared.node.Bounds.{Bounds}
use Rattle.schema.specs.declared.node.MapType.{MapType}
use Rattle.jtree.specs.Path.{member_at}
use Rattle.schema.specs.declared.node.ListType.TheVariants.{Atomic, Set, Map}
use Rattle.stored.specs.Schemas.Accepted.{IsSchema}
use Rattle.explain.specs.Paths.FieldPath.{FieldStep, FieldPath, place_step, place_of}
use Rattle.explain.specs.Paths.FieldPath as step
use Rattle.explain.specs.Paths.PathText.{step_text, path_text}
use Rattle.plan.specs.Pools.Pools.{Pools, fixed_at}
use Rattle.plan.specs.Pools.FixedPaths.{is_map_list}
use Rattle.plan.specs.Pools.PlanFault.{HasName, HasGoodPaths}
use Rattle.plan.specs.Pools.Along.{DifferAlong}
use Rattle.plan.specs.Samples.Sites.{Site, no_site, plain, below, where_fixed, fixed_item, item_keys, sites_from, sites_below, sites_of_fields, sites_of, site_at}
use Rattle.plan.specs.Samples.Candidates.{sort_at}
use Rattle.plan.specs.Internal.Laws.{SchemaLaws}
use Rattle.plan.specs.Internal.Arena.{AreSitesFrom}
use Rattle.plan.specs.Internal.Frame.{ListTheSame}
use Rattle.plan.specs.Internal.Way.{over, IsPlaced, IsEarlier, values_node, IsAfterValues, IsWay}
use Rattle.plan.specs.declared.sort.Sort.TheVariants.{Leaf}
use Rattle.plan.proofs.PoolPathLemmas.{OneText}
use Rattle.plan.proofs.ItemPathLemmas.{bad_item, join_text}
use Rattle.plan.proofs.BuildingLemmas.{sites_left, sites_right, sites_last, last_site}
use Rattle.plan.proofs.SoundLemmas.{IsSoundSite, schema_sound, sites_sound, later_field}
use Rattle.plan.proofs.PlanLemmas.{site_among}

-- ---- texts of paths

pub text_join : (a b : FieldPath) → path_text (a ++ b) ≡ path_text a ++ path_text b
text_join a b = flat_map-append step_text a b

pub text_below : (front : FieldPath) (t : FieldStep) → below (path_text front) t ≡ path_text (front ++ t ∷ [])
text_below front t = sym (join_text front t)

pub join_one : (a : FieldPath) (t : FieldStep) (b : FieldPath) → (a ++ t ∷ []) ++ b ≡ a ++ t ∷ b
join_one a t b = append_assoc a (t ∷ []) b

-- ---- nodes on a path

pub node_next : (root N M : Node) (a : FieldPath) (t : FieldStep) → node_at root (place_of a) ≡ Some N → node_below N (place_step t) ≡ Some M → node_at root (place_of (a ++ t ∷ [])) ≡ Some M
node_next root N M [] t here below = rw (same_Some root N here, below) refl
node_next root N M (s ∷ a) t here below = elim (option_cases (node_below root (place_step s))) [
  | inl none ↦ absurd (let no = rw none at here in cc)
  | inr some ↦ rw some.1 (node_next some.0 N M a t (rw some.1 at here) below)
]

-- ---- good pools

fixed_name : (P : Pools) (text : List ℕ) (ds : List Data) → fixed_at text P ≡ Some ds → HasName P.fixed text
fixed_name P text ds e = elim (option_cases (member_at text P.fixed)) [
  | inl none ↦ absurd (let h = rw none at e in cc)
  | inr some ↦ (some.0, some.1)
]

module _ (one : OneText) (root : Node) (P : Pools) (good : HasGoodPaths root P) where
  none_fixed : (text : List ℕ) → (HasName P.fixed text → ⊥) → fixed_at text P ≡ None
  none_fixed text unnamed = elim (option_cases (fixed_at text P)) [ inl none ↦ none | inr some ↦ absurd (unnamed (fixed_name P text some.0 some.1)) ]

  -- the root's values are not fixed
  pub root_free : fixed_at [] P ≡ None
  root_free = none_fixed [] (λ has. let f = good.fixed [] has in f.2.0.0 (one f.0 [] f.1))

  -- nor those of the items of a map list
  pub items_free : (c : FieldPath) (N : Node) → node_at root (place_of c) ≡ Some N → is_map_list N ≡ true → fixed_at (below (path_text c) step.item) P ≡ None
  items_free c N found map = none_fixed (below (path_text c) step.item) (λ has. bad_item one root N c (below (path_text c) step.item) refl found map (good.fixed (below (path_text c) step.item) has))

  pub item_plain : (c : FieldPath) (n : Bool) (d : Option (List ℕ)) (N : Node) (type : ListType) (keys : List (List ℕ)) (b : Bounds) → node_at root (place_of c) ≡ Some (node n d (list N type keys b))
      → fixed_item P type (below (path_text c) step.item) ≡ fixed_at (below (path_text c) step.item) P
  item_plain c n d N Atomic keys b found = refl
  item_plain c n d N (Set e) keys b found = refl
  item_plain c n d N (Map e) keys b found = sym (items_free c (node n d (list N (Map e) keys b)) found refl)

-- ---- where sites are

-- a site at or below the node of a path
record IsUnder (root : Node) (P : Pools) (front : FieldPath) (s : Site) : Type 0 where
  pub more : FieldPath
  pub placed : IsPlaced root P s
  pub front_is : placed.front ≡ front ++ more

-- one that is below it, by this step
record IsBelowBy (root : Node) (P : Pools) (front : FieldPath) (t : FieldStep) (s : Site) : Type 0 where
  pub more : FieldPath
  pub placed : IsPlaced root P s
  pub front_is : placed.front ≡ front ++ t ∷ more

by_step : (root : Node) (P : Pools) (front : FieldPath) (t : FieldStep) (s : Site) → IsUnder root P (front ++ t ∷ []) s → IsBelowBy root P front t s
by_step root P front t s h = record { more = h.more; placed = h.placed; front_is = h.front_is ∙ join_one front t h.more }

under_by : (root : Node) (P : Pools) (front : FieldPath) (t : FieldStep) (s : Site) → IsBelowBy root P front t s → IsUnder root P front s
under_by root P front t s h = record { more = t ∷ h.more; placed = h.placed; front_is = h.front_is }

by_path : (root : Node) (P : Pools) (front : FieldPath) (t : FieldStep) (s : Site) (h : IsBelowBy root P front t s) → s.path ≡ path_text (front ++ t ∷ h.more)
by_path root P front t s h = h.placed.path_is ∙ ap path_text h.front_is

-- no text is that of a path and of one that goes on
no_longer : (x y : FieldPath) (front : FieldPath) (t : FieldStep) → OneText → path_text front ≡ path_text (front ++ t ∷ y) ++ path_text x → ⊥
no_longer x y front t one e =
    let same : front ++ [] ≡ front ++ t ∷ (y ++ x) = append-nil front ∙ (one front ((front ++ t ∷ y) ++ x) (e ∙ sym (text_join (front ++ t ∷ y) x)) ∙ append_assoc front (t ∷ y) x) in
    let bad : [] ≡ t ∷ (y ++ x) = append_cancel_left front [] (t ∷ (y ++ x)) same in
    cc

-- steps that differ lead apart
no_other : (x y z : FieldPath) (front : FieldPath) (t u : FieldStep) → OneText → path_text (front ++ t ∷ y) ≡ path_text (front ++ u ∷ z) ++ path_text x → t ≡ u
no_other x y z front t u one e =
    let same = one (front ++ t ∷ y) ((front ++ u ∷ z) ++ x) (e ∙ sym (text_join (front ++ u ∷ z) x)) ∙ append_assoc front (u ∷ z) x in
    let steps : t ∷ y ≡ u ∷ (z ++ x) = append_cancel_left front (t ∷ y) (u ∷ (z ++ x)) same in
    cc

-- a site with sites below it is no leaf
open_sort : (P : Pools) (fixed : Option (List Data)) (path : List ℕ) (n : Bool) (d : Option (List ℕ)) (sort : Sort) (s : Site) → Among (where_fixed fixed [] (sites_below P path sort)) s → where_fixed fixed Leaf (sort_at (node n d sort)) ≡ Leaf → ⊥
open_sort P (Some ds) path n d sort s a leaf = absurd a
open_sort P None path n d (object fs preserves type b cs) s a leaf = cc
open_sort P None path n d (nodes.map N type b) s a leaf = cc
open_sort P None path n d (list N type keys b) s a leaf = cc
open_sort P None path n d (scalar kind cs) s a leaf = absurd a
open_sort P None path n d open_ s a leaf = absurd a

module _ (one : OneText) (root : Node) (P : Pools) (good : HasGoodPaths root P) where
  -- the site of a node with this path, and all below it
  abbrev from_at : FieldPath → Node → List (List ℕ) → List Site
  from_at front N keys = sites_from P (fixed_at (path_text front) P) (path_text front) N keys

  child_is : (front : FieldPath) (t : FieldStep) (N : Node) (keys : List (List ℕ)) → sites_from P (fixed_at (below (path_text front) t) P) (below (path_text front) t) N keys ≡ from_at (front ++ t ∷ []) N keys
  child_is front t N keys = ap (λ text. sites_from P (fixed_at text P) text N keys) (text_below front t)

  items_are : (front : FieldPath) (n : Bool) (d : Option (List ℕ)) (N : Node) (type : ListType) (keys : List (List ℕ)) (b : Bounds) → node_at root (place_of front) ≡ Some (node n d (list N type keys b))
      → sites_below P (path_text front) (list N type keys b) ≡ from_at (front ++ step.item ∷ []) N (item_keys type keys)
  items_are front n d N type keys b found =
      ap (λ f. sites_from P f (below (path_text front) step.item) N (item_keys type keys)) (item_plain one root P good front n d N type keys b found) ∙ child_is front step.item N (item_keys type keys)

  -- the node of a field
  field_leads : (front : FieldPath) (n : Bool) (d : Option (List ℕ)) (fs : Fields) (preserves : Bool) (type : MapType) (b : Bounds) (cs : Validations) (k : List ℕ) (f : Declared) → node_at root (place_of front) ≡ Some (node n d (object fs preserves type b cs)) → field_at k fs ≡ Some f
      → node_at root (place_of (front ++ step.field k ∷ [])) ≡ Some f.node
  field_leads front n d fs preserves type b cs k f here is = node_next root (node n d (object fs preserves type b cs)) f.node front (step.field k) here (rw is refl)

  mutual
    placed_from : (front : FieldPath) (N : Node) (keys : List (List ℕ)) → IsNode N → node_at root (place_of front) ≡ Some N → (s : Site) → Among (from_at front N keys) s → IsUnder root P front s
    placed_from front (node n d sort) keys o here s a =
        let own : Site = record { node = node n d sort; keys = keys; path = path_text front; fixed = fixed_at (path_text front) P } in
        let under = where_fixed (fixed_at (path_text front) P) [] (sites_below P (path_text front) sort) in
        elim (among_parts under (own ∷ []) s a) [
          | inl b ↦ let r = placed_below (fixed_at (path_text front) P) front n d sort o here s b in under_by root P front r.0 s r.1
          | inr last ↦ elim last [
            | inl e ↦ subst (IsUnder root P front) e (record { more = []; placed = record { front = front; leads = here; path_is = refl; fixed_is = refl }; front_is = sym (append-nil front) })
            | inr none ↦ absurd none
          ]
        ]

    placed_below : (fixed : Option (List Data)) (front : FieldPath) (n : Bool) (d : Option (List ℕ)) (sort : Sort) → IsSort sort → node_at root (place_of front) ≡ Some (node n d sort) → (s : Site)
        → Among (where_fixed fixed [] (sites_below P (path_text front) sort)) s → (t : FieldStep) × IsBelowBy root P front t s
    placed_below (Some ds) front n d sort o here s a = absurd a
    placed_below None front n d (object fs preserves type b cs) o here s a =
        let r = placed_fields front fs o (λ k f is. field_leads front n d fs preserves type b cs k f here is) s a in
        (step.field r.0, r.2)
    placed_below None front n d (nodes.map N type b) o here s a =
        (step.value, by_step root P front step.value s (placed_from (front ++ step.value ∷ []) N [] o (node_next root (node n d (nodes.map N type b)) N front step.value here refl) s (subst (λ l. Among l s) (child_is front step.value N []) a)))
    placed_below None front n d (list N type keys b) o here s a =
        (step.item, by_step root P front step.item s (placed_from (front ++ step.item ∷ []) N (item_keys type keys) o (node_next root (node n d (list N type keys b)) N front step.item here refl) s (subst (λ l. Among l s) (items_are front n d N type keys b here) a)))
    placed_below None front n d (scalar kind cs) o here s a = absurd a
    placed_below None front n d open_ o here s a = absurd a

    placed_fields : (front : FieldPath) (fs : Fields) → AreOrdered fs → ((k : List ℕ) (f : Declared) → field_at k fs ≡ Some f → node_at root (place_of (front ++ step.field k ∷ [])) ≡ Some f.node) → (s : Site)
        → Among (sites_of_fields P (path_text front) fs) s → (k : List ℕ) × ((f : Declared) × (field_at k fs ≡ Some f)) × IsBelowBy root P front (step.field k) s
    placed_fields front no_fields o leads s a = absurd a
    placed_fields front (field k N required default fs) o leads s a =
        let f : Declared = record { node = N; required = required; default = default } in
        let own : field_at k (field k N required default fs) ≡ Some f = rw (own_name k) refl in
        elim (among_parts (sites_from P (fixed_at (below (path_text front) (step.field k)) P) (below (path_text front) (step.field k)) N []) (sites_of_fields P (path_text front) fs) s a) [
          | inl b ↦ (k, (f, own), by_step root P front (step.field k) s (placed_from (front ++ step.field k ∷ []) N [] o.0 (leads k f own) s (subst (λ l. Among l s) (child_is front (step.field k) N []) b)))
          | inr b ↦
              let r = placed_fields front fs o.2 (λ l g is. leads l g (rw (later_field k N required default fs o l g is) is)) s b in
              (r.0, (r.1.0, rw (later_field k N required default fs o r.0 r.1.0 r.1.1) r.1.1), r.2)
        ]

  -- ---- in which order

  mutual
    ordered_from : (front : FieldPath) (N : Node) (keys : List (List ℕ)) → IsNode N → node_at root (place_of front) ≡ Some N → Rising IsEarlier (from_at front N keys)
    ordered_from front (node n d sort) keys o here =
        let own : Site = record { node = node n d sort; keys = keys; path = path_text front; fixed = fixed_at (path_text front) P } in
        let under = where_fixed (fixed_at (path_text front) P) [] (sites_below P (path_text front) sort) in
        rising_join IsEarlier under (own ∷ []) (ordered_below (fixed_at (path_text front) P) front n d sort o here) ((λ v a. absurd a), tt) (λ s w a b. elim b [
          | inl is ↦
              let r = placed_below (fixed_at (path_text front) P) front n d sort o here s a in
              subst (IsEarlier s) is (record {
                apart = λ x e. no_longer x r.1.more front r.0 one (e ∙ ap (λ text. text ++ path_text x) (by_path root P front r.0 s r.1));
                open_above = λ x e leaf. open_sort P (fixed_at (path_text front) P) (path_text front) n d sort s a leaf;
              })
          | inr none ↦ absurd none
        ])

    ordered_below : (fixed : Option (List Data)) (front : FieldPath) (n : Bool) (d : Option (List ℕ)) (sort : Sort) → IsSort sort → node_at root (place_of front) ≡ Some (node n d sort)
        → Rising IsEarlier (where_fixed fixed [] (sites_below P (path_text front) sort))
    ordered_below (Some ds) front n d sort o here = tt
    ordered_below None front n d (object fs preserves type b cs) o here = ordered_fields front fs o (λ k f is. field_leads front n d fs preserves type b cs k f here is)
    ordered_below None front n d (nodes.map N type b) o here =
        subst (Rising IsEarlier) (sym (child_is front step.value N [])) (ordered_from (front ++ step.value ∷ []) N [] o (node_next root (node n d (nodes.map N type b)) N front step.value here refl))
    ordered_below None front n d (list N type keys b) o here =
        subst (Rising IsEarlier) (sym (items_are front n d N type keys b here)) (ordered_from (front ++ step.item ∷ []) N (item_keys type keys) o (node_next root (node n d (list N type keys b)) N front step.item here refl))
    ordered_below None front n d (scalar kind cs) o here = tt
    ordered_below None front n d open_ o here = tt

    ordered_fields : (front : FieldPath) (fs : Fields) → AreOrdered fs → ((k : List ℕ) (f : Declared) → field_at k fs ≡ Some f → node_at root (place_of (front ++ step.field k ∷ [])) ≡ Some f.node) → Rising IsEarlier (sites_of_fields P (path_text front) fs)
    ordered_fields front no_fields o leads = tt
    ordered_fields front (field k N required default fs) o leads =
        let f : Declared = record { node = N; required = required; default = default } in
        let own : field_at k (field k N required default fs) ≡ Some f = rw (own_name k) refl in
        let rest : (l : List ℕ) (g : Declared) → field_at l fs ≡ Some g → node_at root (place_of (front ++ step.field l ∷ [])) ≡ Some g.node = λ l g is. leads l g (rw (later_field k N required default fs o l g is) is) in
        let block = sites_from P (fixed_at (below (path_text front) (step.field k)) P) (below (path_text front) (step.field k)) N [] in
        rising_join IsEarlier block (sites_of_fields P (path_text front) fs)
        (subst (Rising IsEarlier) (sym (child_is front (step.field k) N [])) (ordered_from (front ++ step.field k ∷ []) N [] o.0 (leads k f own)))
        (ordered_fields front fs o.2 rest)
        (λ s w a b.
        let x = by_step root P front (step.field k) s (placed_from (front ++ step.field k ∷ []) N [] o.0 (leads k f own) s (subst (λ l. Among l s) (child_is front (step.field k) N []) a)) in
        let y = placed_fields front fs o.2 rest w b in
        let different : step.field k ≡ step.field y.0 → ⊥ = λ e. let h = later_field k N required default fs o y.0 y.1.0 y.1.1 in let same : y.0 ≡ k = cc in let t = own_name k in let u = rw same at h in cc in
        record {
          apart = λ z e. different (sym (no_other z y.2.more x.more front (step.field y.0) (step.field k) one (sym (by_path root P front (step.field y.0) w y.2) ∙ (e ∙ ap (λ text. text ++ path_text z) (by_path root P front (step.field k) s x)))));
          open_above = λ z e leaf. different (no_other z x.more y.2.more front (step.field k) (step.field y.0) one (sym (by_path root P front (step.field k) s x) ∙ (e ∙ ap (λ text. text ++ path_text z) (by_path root P front (step.field y.0) w y.2))));
        })

  -- ---- the values of maps

  module _ (sites : List Site) where
    abbrev ValuesFrom : ℕ → List Site → Type 0
    ValuesFrom start xs = (i : ℕ) (M : Node) → i < length xs → (site_at sites (start + i)).fixed ≡ None → values_node (site_at sites (start + i)).node ≡ Some M → IsAfterValues P sites (start + i) (site_at sites (start + i)) M

    values_join : (start : ℕ) (xs ys : List Site) → ValuesFrom start xs → ValuesFrom (start + length xs) ys → ValuesFrom start (xs ++ ys)
    values_join start xs ys h r i M l free is = elim (cases_lt i (length xs)) as (λ _. IsAfterValues P sites (start + i) (site_at sites (start + i)) M) [
      | inl first ↦ h i M first free is
      | inr past ↦
          let j = i - length xs in
          let e : start + length xs + j ≡ start + i = omega arith in
          let here : j < length ys = omega (arith, l, length-append xs ys) in
          let at = r j in
          subst (λ k. (site_at sites k).fixed ≡ None → values_node (site_at sites k).node ≡ Some M → IsAfterValues P sites k (site_at sites k) M) e (λ a b. at M here a b) free is
    ]

    values_own : (fixed : Option (List Data)) (front : FieldPath) (n : Bool) (d : Option (List ℕ)) (sort : Sort) (start j : ℕ) (s : Site) (M : Node) → AreSitesFrom sites start (where_fixed fixed [] (sites_below P (path_text front) sort))
        → j ≡ start + length (where_fixed fixed [] (sites_below P (path_text front) sort)) → s.path ≡ path_text front → fixed ≡ None → values_node (node n d sort) ≡ Some M → IsAfterValues P sites j s M
    values_own (Some ds) front n d sort start j s M at number path free is = absurd (cc)
    values_own None front n d (nodes.map (node m e sort) type b) start j s M at number path free is =
        let text = below (path_text front) step.value in
        let child : Site = record { node = node m e sort; keys = []; path = text; fixed = fixed_at text P } in
        let inside = where_fixed (fixed_at text P) [] (sites_below P text sort) in
        let one_more : length (inside ++ child ∷ []) ≡ length inside + 1 = length_push inside child in
        let k = start + length inside in
        let found = last_site P (fixed_at text P) sites start k text (node m e sort) [] (omega (arith, one_more)) at in
        let same : node m e sort ≡ M = same_Some (node m e sort) M is in
        record { before = k; next = omega (arith, one_more, number); site = found ∙ (ap (λ N. plain P text N) same ∙ ap (λ t. plain P (below t step.value) M) (sym path)) }
    values_own None front n d (object fs preserves type b cs) start j s M at number path free is = absurd (cc)
    values_own None front n d (list N type ks b) start j s M at number path free is = absurd (cc)
    values_own None front n d (scalar kind cs) start j s M at number path free is = absurd (cc)
    values_own None front n d open_ start j s M at number path free is = absurd (cc)

    mutual
      values_from : (front : FieldPath) (N : Node) (keys : List (List ℕ)) (start : ℕ) → IsNode N → node_at root (place_of front) ≡ Some N → AreSitesFrom sites start (from_at front N keys) → ValuesFrom start (from_at front N keys)
      values_from front (node n d sort) keys start o here at =
          let own : Site = record { node = node n d sort; keys = keys; path = path_text front; fixed = fixed_at (path_text front) P } in
          let under = where_fixed (fixed_at (path_text front) P) [] (sites_below P (path_text front) sort) in
          values_join start under (own ∷ []) (values_below (fixed_at (path_text front) P) front n d sort start o here (sites_left sites start under (own ∷ []) at))
          (λ i M l free is.
          let e : start + length under + i ≡ start + length under = omega arith in
          let last : site_at sites (start + length under + i) ≡ own = rw e (sites_last sites start under own at) in
          rw last (values_own (fixed_at (path_text front) P) front n d sort start (start + length under + i) own M (sites_left sites start under (own ∷ []) at) e refl (rw last at free) (rw last at is)))

      values_below : (fixed : Option (List Data)) (front : FieldPath) (n : Bool) (d : Option (List ℕ)) (sort : Sort) (start : ℕ) → IsSort sort → node_at root (place_of front) ≡ Some (node n d sort)
          → AreSitesFrom sites start (where_fixed fixed [] (sites_below P (path_text front) sort)) → ValuesFrom start (where_fixed fixed [] (sites_below P (path_text front) sort))
      values_below (Some ds) front n d sort start o here at = λ i M l free is. absurd (omega arith)
      values_below None front n d (object fs preserves type b cs) start o here at = values_fields front fs start o (λ k f is. field_leads front n d fs preserves type b cs k f here is) at
      values_below None front n d (nodes.map N type b) start o here at =
          let same = child_is front step.value N [] in
          subst (ValuesFrom start) (sym same) (values_from (front ++ step.value ∷ []) N [] start o (node_next root (node n d (nodes.map N type b)) N front step.value here refl) (subst (AreSitesFrom sites start) same at))
      values_below None front n d (list N type keys b) start o here at =
          let same = items_are front n d N type keys b here in
          subst (ValuesFrom start) (sym same) (values_from (front ++ step.item ∷ []) N (item_keys type keys) start o (node_next root (node n d (list N type keys b)) N front step.item here refl) (subst (AreSitesFrom sites start) same at))
      values_below None front n d (scalar kind cs) start o here at = λ i M l free is. absurd (omega arith)
      values_below None front n d open_ start o here at = λ i M l free is. absurd (omega arith)

      values_fields : (front : FieldPath) (fs : Fields) (start : ℕ) → AreOrdered fs → ((k : List ℕ) (f : Declared) → field_at k fs ≡ Some f → node_at root (place_of (front ++ step.field k ∷ [])) ≡ Some f.node)
          → AreSitesFrom sites start (sites_of_fields P (path_text front) fs) → ValuesFrom start (sites_of_fields P (path_text front) fs)
      values_fields front no_fields start o leads at = λ i M l free is. absurd (omega arith)
      values_fields front (field k N required default fs) start o leads at =
          let f : Declared = record { node = N; required = required; default = default } in
          let own : field_at k (field k N required default fs) ≡ Some f = rw (own_name k) refl in
          let block = sites_from P (fixed_at (below (path_text front) (step.field k)) P) (below (path_text front) (step.field k)) N [] in
          let same = child_is front (step.field k) N [] in
          values_join start block (sites_of_fields P (path_text front) fs)
          (subst (ValuesFrom start) (sym same) (values_from (front ++ step.field k ∷ []) N [] start o.0 (leads k f own) (subst (AreSitesFrom sites start) same (sites_left sites start block (sites_of_fields P (path_text front) fs) at))))
          (values_fields front fs (start + length block) o.2 (λ l g is. leads l g (rw (later_field k N required default fs o l g is) is)) (sites_right sites start block (sites_of_fields P (path_text front) fs) at))

-- ---- over other pools

map_join : {X Y : Type 0} (f : X → Y) (xs ys : List X) → map f (xs ++ ys) ≡ map f xs ++ map f ys
map_join f [] ys = refl
map_join f (x ∷ xs) ys = ap (λ l. f x ∷ l) (map_join f xs ys)

where_over : (P Q : Option (List Data)) (g : Site → Site) (xs ys : List Site) → is_some Q ≡ is_some P → xs ≡ map g ys → where_fixed Q [] xs ≡ map g (where_fixed P [] ys)
where_over (Some ds) (Some es) g xs ys both e = refl
where_over None None g xs ys both e = e
where_over (Some ds) None g xs ys both e = absurd (cc)
where_over None (Some es) g xs ys both e = absurd (cc)

-- no site is below a leaf
leaf_none : (P : Pools) (fixed : Option (List Data)) (path : List ℕ) (n : Bool) (d : Option (List ℕ)) (sort : Sort) → sort_at (node n d sort) ≡ Leaf → where_fixed fixed [] (sites_below P path sort) ≡ []
leaf_none P (Some ds) path n d sort leaf = refl
leaf_none P None path n d (scalar kind cs) leaf = refl
leaf_none P None path n d open_ leaf = refl
leaf_none P None path n d (object fs preserves type b cs) leaf = absurd (cc)
leaf_none P None path n d (nodes.map N type b) leaf = absurd (cc)
leaf_none P None path n d (list N type keys b) leaf = absurd (cc)

module _ (one : OneText) (root : Node) (P Q : Pools) (good : HasGoodPaths root P) (good_too : HasGoodPaths root Q) (p : FieldPath) (differ : DifferAlong root P Q p) where
  mutual
    over_from : (front : FieldPath) (N : Node) (keys : List (List ℕ)) → IsNode N → node_at root (place_of front) ≡ Some N
        → sites_from Q (fixed_at (path_text front) Q) (path_text front) N keys ≡ map (over Q) (sites_from P (fixed_at (path_text front) P) (path_text front) N keys)
    over_from front (node n d sort) keys o here =
        let text = path_text front in
        let own : Site = record { node = node n d sort; keys = keys; path = text; fixed = fixed_at text P } in
        let inside : where_fixed (fixed_at text Q) [] (sites_below Q text sort) ≡ map (over Q) (where_fixed (fixed_at text P) [] (sites_below P text sort)) =
        elim (differ.whole front (node n d sort) here) [
          | inl leaf ↦ leaf_none Q (fixed_at text Q) text n d sort leaf ∙ sym (ap (map (over Q)) (leaf_none P (fixed_at text P) text n d sort leaf))
          | inr both ↦ where_over (fixed_at text P) (fixed_at text Q) (over Q) (sites_below Q text sort) (sites_below P text sort) both (over_below front n d sort o here)
        ] in
        ap (λ l. l ++ over Q own ∷ []) inside ∙ sym (map_join (over Q) (where_fixed (fixed_at text P) [] (sites_below P text sort)) (own ∷ []))

    over_below : (front : FieldPath) (n : Bool) (d : Option (List ℕ)) (sort : Sort) → IsSort sort → node_at root (place_of front) ≡ Some (node n d sort) → sites_below Q (path_text front) sort ≡ map (over Q) (sites_below P (path_text front) sort)
    over_below front n d (object fs preserves type b cs) o here = over_fields front fs o (λ k f is. field_leads one root P good front n d fs preserves type b cs k f here is)
    over_below front n d (nodes.map N type b) o here =
        child_is one root Q good_too front step.value N [] ∙ (over_from (front ++ step.value ∷ []) N [] o (node_next root (node n d (nodes.map N type b)) N front step.value here refl) ∙ sym (ap (map (over Q)) (child_is one root P good front step.value N [])))
    over_below front n d (list N type keys b) o here =
        items_are one root Q good_too front n d N type keys b here
        ∙ (over_from (front ++ step.item ∷ []) N (item_keys type keys) o (node_next root (node n d (list N type keys b)) N front step.item here refl) ∙ sym (ap (map (over Q)) (items_are one root P good front n d N type keys b here)))
    over_below front n d (scalar kind cs) o here = refl
    over_below front n d open_ o here = refl

    over_fields : (front : FieldPath) (fs : Fields) → AreOrdered fs → ((k : List ℕ) (f : Declared) → field_at k fs ≡ Some f → node_at root (place_of (front ++ step.field k ∷ [])) ≡ Some f.node)
        → sites_of_fields Q (path_text front) fs ≡ map (over Q) (sites_of_fields P (path_text front) fs)
    over_fields front no_fields o leads = refl
    over_fields front (field k N required default fs) o leads =
        let f : Declared = record { node = N; required = required; default = default } in
        let own : field_at k (field k N required default fs) ≡ Some f = rw (own_name k) refl in
        let first = child_is one root Q good_too front (step.field k) N [] ∙ (over_from (front ++ step.field k ∷ []) N [] o.0 (leads k f own) ∙ sym (ap (map (over Q)) (child_is one root P good front (step.field k) N []))) in
        let rest = over_fields front fs o.2 (λ l g is. leads l g (rw (later_field k N required default fs o l g is) is)) in
        ap (λ l. l ++ sites_of_fields Q (path_text front) fs) first
        ∙ (ap (λ l. map (over Q) (sites_from P (fixed_at (below (path_text front) (step.field k)) P) (below (path_text front) (step.field k)) N []) ++ l) rest
        ∙ sym (map_join (over Q) (sites_from P (fixed_at (below (path_text front) (step.field k)) P) (below (path_text front) (step.field k)) N []) (sites_of_fields P (path_text front) fs)))

  -- all sites of a schema over the one pools and over the other ones
  pub way_made : SchemaLaws → IsSchema root → ListTheSame P Q → IsWay root P Q p (sites_of P root) (sites_of Q root)
  way_made laws schema lists =
      let sites = sites_of P root in
      let none = root_free one root P good in
      let none_too = root_free one root Q good_too in
      let o = (schema_sound laws root schema).0 in
      let here : sites ≡ from_at one root P good [] root [] = ap (λ f. sites_from P f [] root []) (sym none) in
      let all : sites_of Q root ≡ map (over Q) sites = ap (λ f. sites_from Q f [] root []) (sym none_too) ∙ (over_from [] root [] o refl ∙ sym (ap (map (over Q)) here)) in
      let placed : (j : ℕ) → j < length sites → IsPlaced root P (site_at sites j) = λ j l.
      (placed_from one root P good [] root [] o refl (site_at sites j) (subst (λ xs. Among xs (site_at sites j)) here (contained sites (site_at sites j) (site_among sites j l)))).placed
      in
      let pairs = all_pairs IsEarlier sites (subst (Rising IsEarlier) (sym here) (ordered_from one root P good [] root [] o refl)) in
      record {
        lists = lists;
        differ = differ;
        items = items_free one root Q good_too;
        placed = placed;
        sound = λ j l. let s = All-contains (IsSoundSite P sites) sites (site_at sites j) (sites_sound P laws root schema) (site_among sites j l) in (s.0, s.1);
        others_are = λ j l. rw all (get_or-map (over Q) sites j no_site no_site l);
        count = rw all (length-map sites (over Q));
        ordered = λ i j less l. pairs i j no_site less l;
        values = λ j M l.
            let at : AreSitesFrom sites 0 sites = λ i s below. rw (zero-add i) (get_or_default sites i no_site s below) in
            let inside : j < length (from_at one root P good [] root []) = subst (λ xs. j < length xs) here l in
            subst (λ k. (site_at sites k).fixed ≡ None → values_node (site_at sites k).node ≡ Some M → IsAfterValues P sites k (site_at sites k) M) (zero-add j)
            (values_from one root P good sites [] root [] 0 o refl (subst (AreSitesFrom sites 0) here at) j M inside);
      }
