-- The bounds of lists of which no two items may be alike.
use Rattle.std.specs.Prelude.{◌≡◌, ℕ, ◌-◌, ◌^◌, ◌≤◌, ◌<◌, ◌⊎◌, ◌↔◌, Bool, get_or, true, false, List, Option, Some, None, min, nat_lt, length}
use Rattle.std.proofs.Common.{refl, ap, sym, ◌∙◌, subst, arith}
use Rattle.std.proofs.lemmas.Option.{same_Some}
use Rattle.std.proofs.lemmas.Bool.{le-ltb, ltb-false}
use Rattle.jtree.specs.declared.equality.Equality.{Equality}
use Rattle.schema.specs.declared.node.ListType.{ListType}
use Rattle.schema.specs.Nodes.Node.{Node, node, object, list, IsNode}
use Rattle.schema.specs.Nodes.Items.{IsPlainScalar, HasKeys, HasSoundItems}
use Rattle.schema.specs.declared.node.Bounds.{Bounds}
use Rattle.schema.specs.declared.node.ListType.TheVariants.{Atomic, Set, Map}
use Rattle.stored.specs.Objects.Fault as fault
use Rattle.plan.specs.Pools.Pools.{Pools, is_present}
use Rattle.explain.specs.Paths.FieldPath as step
use Rattle.plan.specs.Samples.Sites.{Site, below, item_site, item_site_at, item_keys, fixed_item, slots}
use Rattle.plan.specs.Samples.Candidates.{sort_at, sort_of, distinct_of, HasCount}
use Rattle.plan.specs.Samples.Part.{IsPart}
use Rattle.plan.specs.Samples.Sizes.{HasMore, raised, bounds_of, IsUpTo}
use Rattle.plan.specs.Sets.{IsSum}
use Rattle.std.specs.declared.vec.Vec.{Vec}
use Rattle.std.specs.declared.alloc.Global.{Global}
use Rattle.plan.specs.Internal.Arena.{IsRight}
use Rattle.plan.specs.Samples.Sites.{site_at}
use Rattle.plan.specs.declared.values.Values.{Values}
use Rattle.plan.specs.declared.sort.Distinct.{Distinct}
use Rattle.plan.specs.declared.arena.PlanNode.{PlanNode}
use Rattle.plan.specs.declared.arena.Content.TheVariants as content
use Rattle.plan.specs.Samples.RuleOfParts.{alike_by, alike_at, admits_null}
use Rattle.plan.specs.Internal.Lists.{IsCutTo, HasMoreFree, HasMoreApart, AreMore, cut, most_or}
use Rattle.plan.specs.Internal.PartLaws.{PartLaws}
use Rattle.plan.specs.Samples.Keys.{AreKeySlots, HasTuples}
use Rattle.plan.specs.declared.sort.Sort.TheVariants.{Row}
use Rattle.plan.specs.Internal.Laws.{StoredLaw}
use Rattle.plan.proofs.ListLemmas.{count_nodes}
use Rattle.plan.proofs.SiteLemmas.{whole_up_to, list_sizes}
use Rattle.plan.proofs.MoreLemmas.{more_parts}
use Rattle.plan.proofs.KeyedLemmas.{more_free, more_apart}
use Rattle.plan.proofs.FixedLemmas.{item_unfixed}
use Rattle.plan.proofs.SetLemmas.{set_keyed}
use Rattle.plan.proofs.MapListLemmas.{map_keyed, own_keys}

-- the items of a map list are rows
pub keys_row : (M : Node) (keys : List (List ℕ)) → HasKeys M keys → sort_at M ≡ Row
keys_row (node n t (object fs preserves type b cs)) keys h = refl
keys_row M keys h = absurd h

below_cut : (most : Option ℕ) (p q n : ℕ) → (n ≤ p → n ≤ q) → nat_lt (most_or most p) n ≡ false → nat_lt (most_or most q) n ≡ false
below_cut None p q n h e = le-ltb q n (h (ltb-false p n e))
below_cut (Some m) p q n h e =
    let l = ltb-false (min m p) n e in
    let r = h (omega arith) in
    le-ltb (min m q) n (omega arith)

-- a bound above the limit is as good as another
same_cut : (P : Pools) (limit : ℕ) (M : Site) (b : Bounds) (p q t m : ℕ) → ((n : ℕ) → n ≤ limit → n ≤ p → n ≤ q) → HasMoreFree P limit M (cut p b) t m → HasMoreFree P limit M (cut q b) t m
same_cut P limit M b p q t m less h =
    let n = fault.items_count h.items in
    let c = count_nodes h.items in
    record { items = h.items; are = h.are; within = (h.within.0, below_cut b.most p q n (λ l. less n (omega (arith, h.fits)) l) h.within.1); fits = h.fits; many = h.many; nodes_are = h.nodes_are }

-- ---- by the list type

abbrev Cuts : Pools → ℕ → Site → Site → Bounds → Type 0
Cuts P limit s M b = (t m : ℕ) → HasMoreApart P limit M (alike_at s) (bounds_of P s) t m ↔ HasMoreFree P limit M b t m

cut_by : PartLaws → (P : Pools) (limit : ℕ) (s M : Site) (b : Bounds) → item_site P s ≡ Some M → Cuts P limit s M b → IsCutTo P limit s M b
cut_by laws P limit s M b is cuts t m = let x = more_parts laws P s M is limit t m in ((λ h. (cuts t m).0 (x.0 h)), λ h. x.1 ((cuts t m).1 h))

pub free_cut : PartLaws → (P : Pools) (limit : ℕ) (s M : Site) (n : Bool) (d : Option (List ℕ)) (K : Node) (keys : List (List ℕ)) (b : Bounds) → s.node ≡ node n d (list K Atomic keys b) → item_site P s ≡ Some M → IsCutTo P limit s M (bounds_of P s)
free_cut laws P limit s M n d K keys b is item = cut_by laws P limit s M (bounds_of P s) item (rw (is, (item_unfixed P s M item).0) (λ t m. more_free P limit M (alike_by (node n d (list K Atomic keys b))) (raised (is_present (below s.path step.item) P) b) t m (λ v w. refl)))

pub item_is : (P : Pools) (s M : Site) (n : Bool) (d : Option (List ℕ)) (K : Node) (type : ListType) (keys : List (List ℕ)) (b : Bounds) → s.node ≡ node n d (list K type keys b) → item_site P s ≡ Some M → record { node = K; keys = item_keys type keys; path = below s.path step.item; fixed = fixed_item P type (below s.path step.item) } ≡ M
item_is P s M n d K type keys b is item = same_Some _ M (sym (ap (item_site_at P s.path) is) ∙ (item_unfixed P s M item).1)

pub set_cut : StoredLaw → PartLaws → (P : Pools) (limit : ℕ) (s M : Site) (n : Bool) (d : Option (List ℕ)) (K : Node) (e : Equality) (keys : List (List ℕ)) (b : Bounds) (count : ℕ) → s.node ≡ node n d (list K (Set e) keys b) → item_site P s ≡ Some M
    → IsPlainScalar M.node → HasCount (IsPart P M) count → IsCutTo P limit s M (cut count (bounds_of P s))
set_cut stored laws P limit s M n d K e keys b count is item plain has =
    let k = set_keyed stored e P M count plain has in
    cut_by laws P limit s M (cut count (bounds_of P s)) item (rw (is, (item_unfixed P s M item).0, ← k.1) (λ t m. more_apart k.0 limit (raised (is_present (below s.path step.item) P) b) t m))

pub map_cut : StoredLaw → PartLaws → (P : Pools) (limit : ℕ) (s M : Site) (n : Bool) (d : Option (List ℕ)) (K : Node) (e : Equality) (keys : List (List ℕ)) (b : Bounds) (count : ℕ) → limit < 2 ^ 64 - 1 → s.node ≡ node n d (list K (Map e) keys b) → item_site P s ≡ Some M
    → IsNode M.node → HasKeys M.node M.keys → HasTuples P (slots P M) count → IsCutTo P limit s M (cut count (bounds_of P s))
map_cut stored laws P limit s M n d K e keys b count room is item o h has =
    let same : keys ≡ M.keys = ap (λ x. Site.keys x) (item_is P s M n d K (Map e) keys b is item) in
    let free : M.fixed ≡ None = ap (λ x. Site.fixed x) (sym (item_is P s M n d K (Map e) keys b is item)) in
    let k = map_keyed stored laws e P M.fixed M.path M.node M.keys has.0 free o h has.1.0 in
    let tuples = length k.0.keys in
    let capped : count ≡ min tuples (2 ^ 64 - 1) = has.1.1 ∙ ap (λ x. min x (2 ^ 64 - 1)) (sym k.1) in
    let c = raised (is_present (below s.path step.item) P) b in
    cut_by laws P limit s M (cut count (bounds_of P s)) item (rw (is, (item_unfixed P s M item).0, same) (λ t m.
    let x = more_apart k.0 limit c t m in
    ((λ a. same_cut P limit M c tuples count t m (λ i l below. omega arith) (x.0 a)), λ f. x.1 (same_cut P limit M c count tuples t m (λ i l below. omega arith) f))))

-- what the schema guarantees of the items
pub set_items : (P : Pools) (s M : Site) (n : Bool) (d : Option (List ℕ)) (K : Node) (e : Equality) (keys : List (List ℕ)) (b : Bounds) → s.node ≡ node n d (list K (Set e) keys b) → item_site P s ≡ Some M → HasSoundItems s.node → IsPlainScalar M.node
set_items P s M n d K e keys b is item sound = subst IsPlainScalar (ap (λ x. Site.node x) (item_is P s M n d K (Set e) keys b is item)) (subst HasSoundItems is sound)

pub map_items : StoredLaw → (P : Pools) (s M : Site) (n : Bool) (d : Option (List ℕ)) (K : Node) (e : Equality) (keys : List (List ℕ)) (b : Bounds) → s.node ≡ node n d (list K (Map e) keys b) → item_site P s ≡ Some M → IsNode s.node → HasSoundItems s.node
    → IsNode M.node × HasKeys M.node M.keys × (sort_of M ≡ Row) × AreKeySlots P (slots P M)
map_items stored P s M n d K e keys b is item o sound =
    let same = item_is P s M n d K (Map e) keys b is item in
    let here : IsNode K = subst IsNode is o in
    let has : HasKeys K keys = subst HasSoundItems is sound in
    (subst (λ x. IsNode (Site.node x)) same here, subst (λ x. HasKeys (Site.node x) (Site.keys x)) same has, subst (λ x. sort_of x ≡ Row) same (keys_row K keys has), subst (λ x. AreKeySlots P (slots P x)) same (own_keys stored P (below s.path step.item) K keys here has))

-- ---- the entry of a list

same_sizes : (limit : ℕ) (A Q R : ℕ → Type 0) → ((n : ℕ) → R n ↔ Q n) → IsUpTo limit A Q → IsUpTo limit A R
same_sizes limit A Q R same h n = ((λ a. let x = (h n).0 a in (x.0, (same n).1 x.1)), λ r. (h n).1 (r.0, (same n).0 r.1))

pub list_right : {Z : Type 0} (holds : Z → ℕ → Type 0) (limit : ℕ) (P : Pools) (v : Values) (sites : List Site) (i : ℕ) (item : PlanNode) (distinct : Distinct) (more : Vec Z Global) (b : Bounds) (nullable : Bool) (z sizes : Z)
    → PartLaws → 1 ≤ limit → item_site P (site_at sites i) ≡ Some (site_at sites item) → item < i → distinct ≡ distinct_of (site_at sites i) → admits_null P (site_at sites i) ≡ nullable
    → IsCutTo P limit (site_at sites i) (site_at sites item) b → length more.items ≡ limit → AreMore holds limit P (site_at sites item) b more.items → z ≡ get_or more.items 0 z
    → ((n : ℕ) → holds sizes n ↔ (((nullable ≡ true) × (n ≡ 1)) ⊎ ((n ≤ limit) × IsSum (λ k. k ≡ 1) (holds z) n)))
    → IsRight holds limit P v sites i (record { sizes = sizes; nullable = nullable; content = content.List (record { item = item; distinct = distinct; more = more }) })
list_right {Z = Z} holds limit P v sites i item distinct more b nullable z sizes laws room is below kinds null cut_to whole are is_z sized =
    let s = site_at sites i in
    let each : (t : ℕ) (y : Z) → t < length more.items → IsUpTo limit (holds (get_or more.items t y)) (HasMore P limit s t) = λ t y l.
    same_sizes limit (holds (get_or more.items t y)) (HasMoreFree P limit (site_at sites item) b t) (HasMore P limit s t) (cut_to t) (are t y l)
    in
    let first : IsUpTo limit (holds z) (HasMore P limit s 0) = rw (← is_z) at (each 0 z (omega arith)) in
    record {
      sizes = whole_up_to limit s P (HasMore P limit s 0) (holds z) (holds sizes) room (λ n l. list_sizes laws P s (site_at sites item) is limit n l) first (rw (← null) at sized);
      nullable = sym null;
      content = record { item = is; below = below; distinct = kinds; whole = whole; more = each };
    }
