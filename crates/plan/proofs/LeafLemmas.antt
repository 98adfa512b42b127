-- The candidates of leaves: those of their bases that are stored.
use Rattle.std.proofs.Common.{Result, Ok, Err, IfOk, ◌≡◌, ◌⊎◌, ◌↔◌, ◌≤◌, ◌<◌, ◌+◌, ℕ, List, [], ◌∷◌, ◌++◌, Bool, true, false, Option, Some, None, ◌&&◌, ◌||◌, Contains, Decides, take, length, get_or, refl, ap, sym, ◌∙◌, subst, inl, inr, arith}
use Rattle.std.specs.Cmp.{Equal-is}
use Rattle.std.specs.Ordering.{is_eq}
use Rattle.std.specs.declared.cmp.Ordering.TheVariants.{Less}
use Rattle.std.proofs.lemmas.Bool.{or_cases, or_left, or_right, and_parts}
use Rattle.std.proofs.lemmas.Bool.Decides.{Decides-by_or}
use Rattle.std.proofs.lemmas.Cmp.{tied_itself}
use Rattle.std.proofs.lemmas.List.{get_or_read, map_more, map_push}
use Rattle.std.proofs.lemmas.List.Elements.{Contains-append_left, Contains-push, Contains-push_cases, Decides-contains}
use Rattle.jtree.specs.Data.{Data, Items, no_items, item}
use Rattle.jtree.specs.Data as tree
use Rattle.jtree.specs.Nodes.{node_count}
use Rattle.jtree.specs.Order.{tree_cmp}
use Rattle.jtree.specs.View.{data_of}
use Rattle.jtree.specs.declared.value.Tree.{Tree}
use Rattle.jtree.specs.Internal.OrderLaws.{tree_same, tree_total}
use Rattle.jtree.specs.Internal.Rising.{Among, Rising, contains, contained, rising, all_pairs, among_left, among_right, rising_join}
use Rattle.schema.specs.Nodes.Node.{Node, node, Sort, scalar, object, list, open_}
use Rattle.schema.specs.Nodes.Node as nodes
use Rattle.stored.specs.Objects.Tests.{is_same}
use Rattle.stored.specs.Objects.Fault.{is_null, F02}
use Rattle.stored.specs.Objects.Becomes.{IsStored}
use Rattle.plan.specs.Pools.Pools.{Pools}
use Rattle.plan.specs.Samples.Sites.{Site}
use Rattle.plan.specs.Samples.Leasts.{leasts}
use Rattle.plan.specs.Samples.Over.{listed, is_in, is_over_here}
use Rattle.plan.specs.Samples.Candidates.{sort_at, sort_of, AreCandidates}
use Rattle.plan.specs.Samples.Sizes.{HasSize, IsUpTo}
use Rattle.plan.specs.Internal.PartLaws.{PartLaws}
use Rattle.plan.specs.Internal.Values.{trees_of, choices_at, at_places, IsBase, AreKept, AreStored}
use Rattle.plan.specs.declared.sort.Sort.TheVariants.{Leaf}
use Rattle.plan.proofs.FixedLemmas.{leaf_any}

-- ---- the stored ones among trees

abbrev Before : Data → Data → Type 0
Before u v = tree_cmp u v ≡ Less

before_last : (ds : List Data) (v : Data) → Rising Before (ds ++ v ∷ []) → Rising Before ds × ((w : Data) → Among ds w → Before w v)
before_last [] v h = (tt, λ w a. absurd a)
before_last (d ∷ ds) v h =
    let r = before_last ds v h.1 in (
      ((λ w a. h.0 w (among_left ds (v ∷ []) w a)), r.0),
      λ w a. elim a as (λ _. Before w v) [
        | inl e ↦ subst (λ u. Before u v) e (h.0 v (among_right ds (v ∷ []) v (inl refl)))
        | inr b ↦ r.1 w b
      ],
    )

-- one tree more, for which A holds
pub kept_more : (A : Data → Type 0) (ds vs : List Data) (v : Data) → AreKept A ds vs → A v → AreKept A (ds ++ v ∷ []) (vs ++ v ∷ [])
kept_more A ds vs v s here = record {
  each = λ w. (
    (λ c. elim (Contains-push_cases vs v w c) as (λ _. Contains (ds ++ v ∷ []) w × A w) [
      | inl old ↦ let h = (s.each w).0 old in (Contains-append_left ds (v ∷ []) w h.0, h.1)
      | inr same ↦ subst (λ u. Contains (ds ++ v ∷ []) u × A u) same (Contains-push ds v, here)
    ]),
    λ h. elim (Contains-push_cases ds v w h.0) as (λ _. Contains (vs ++ v ∷ []) w) [
      | inl old ↦ Contains-append_left vs (v ∷ []) w ((s.each w).1 (old, h.1))
      | inr same ↦ subst (Contains (vs ++ v ∷ [])) same (Contains-push vs v)
    ],
  );
  ascending = λ up.
      let r = before_last ds v (rising Before (ds ++ v ∷ []) up) in
      let last : (w u : Data) → Among vs w → Among (v ∷ []) u → Before w u = λ w u a b. elim b as (λ _. Before w u) [
        | inl e ↦ subst (Before w) e (r.1 w (contained ds w ((s.each w).0 (contains vs w a)).0))
        | inr n ↦ absurd n
      ] in
      all_pairs Before (vs ++ v ∷ []) (rising_join Before vs (v ∷ []) (rising Before vs (s.ascending (all_pairs Before ds r.0))) ((λ w a. absurd a), tt) last);
}

-- one tree more, for which it does not
pub kept_less : (A : Data → Type 0) (ds vs : List Data) (v : Data) → AreKept A ds vs → (A v → ⊥) → AreKept A (ds ++ v ∷ []) vs
kept_less A ds vs v s not = record {
  each = λ w. (
    (λ c. let h = (s.each w).0 c in (Contains-append_left ds (v ∷ []) w h.0, h.1)),
    λ h. elim (Contains-push_cases ds v w h.0) as (λ _. Contains vs w) [
      | inl old ↦ (s.each w).1 (old, h.1)
      | inr same ↦ absurd (not (subst A (sym same) h.1))
    ],
  );
  ascending = λ up. s.ascending (all_pairs Before ds (before_last ds v (rising Before (ds ++ v ∷ []) up)).0);
}

-- one place more
pub place_more : (A : Data → Type 0) (past : Tree) (ts : List Tree) (places : List ℕ) (i : ℕ) (t : Tree) → i < length ts → t ≡ get_or ts i t
    → AreKept A (trees_of (take i ts)) (at_places past ts places) → A (data_of t) → AreKept A (trees_of (take (i + 1) ts)) (at_places past ts (places ++ i ∷ []))
place_more A past ts places i t within is s here =
    rw (map_more (λ u. data_of u) ts i past within, map_push (λ k. data_of (get_or ts k past)) places i, ← get_or_read ts i t within is past)
    (kept_more A (trees_of (take i ts)) (at_places past ts places) (data_of t) s here)

pub place_less : (A : Data → Type 0) (past : Tree) (ts : List Tree) (places : List ℕ) (i : ℕ) (t : Tree) → i < length ts → t ≡ get_or ts i t
    → AreKept A (trees_of (take i ts)) (at_places past ts places) → (A (data_of t) → ⊥) → AreKept A (trees_of (take (i + 1) ts)) (at_places past ts places)
place_less A past ts places i t within is s not =
    rw (map_more (λ u. data_of u) ts i past within, ← get_or_read ts i t within is past)
    (kept_less A (trees_of (take i ts)) (at_places past ts places) (data_of t) s not)

-- ---- what is listed

pub ok_so : {X E : Type 0} (r : Result X E) (A B : X → Type 0) → IfOk r A → ((x : X) → A x → B x) → IfOk r B
ok_so (Ok x) A B a so = so x a
ok_so (Err e) A B a so = tt

same_decides : (v d : Data) → Decides (is_same v d) (d ≡ v)
same_decides v d = ((λ e. sym (tree_same v d ((Equal-is (tree_cmp v d)).0 e))), λ e. rw e (ap is_eq (tied_itself tree_total v)))

is_in_decides : (v : Data) (ds : List Data) → Decides (is_in v ds) (Contains ds v)
is_in_decides v ds = Decides-contains ds v (is_in v ds) (Decides-by_or (is_same v) (λ d. d ≡ v) (is_in v) (same_decides v) refl (λ _ _. refl) ds)

null_only : (v : Data) → is_null v ≡ true → tree.null ≡ v
null_only tree.null e = refl
null_only (tree.boolean b) e = cc
null_only (tree.integer z) e = cc
null_only (tree.number s) e = cc
null_only (tree.text s) e = cc
null_only (tree.list ds) e = cc
null_only (tree.object ms) e = cc

null_or_listed : (nullable : Bool) (ds : List Data) (v : Data) → (tree.null ≡ v → nullable ≡ true) → ((is_in v ds || (is_null v && nullable)) ≡ true) ↔ Contains (tree.null ∷ ds) v
null_or_listed nullable ds v accepted = (
  (λ e. contains (tree.null ∷ ds) v (elim (or_cases (is_in v ds) (is_null v && nullable) e) [
    | inl in' ↦ inr (contained ds v ((is_in_decides v ds).0 in'))
    | inr null ↦ inl (null_only v (and_parts (is_null v) nullable null).0)
  ])),
  λ c. elim (contained (tree.null ∷ ds) v c) [
    | inl null ↦ or_right (is_in v ds) (is_null v && nullable) (rw (← null, accepted null) refl)
    | inr a ↦ or_left (is_in v ds) (is_null v && nullable) ((is_in_decides v ds).1 (contains ds v a))
  ],
)

-- a null is stored only where it is accepted
accepted : (nullable : Bool) (d : Option (List ℕ)) (sort : Sort) (v : Data) → IsStored (node nullable d sort) v → tree.null ≡ v → nullable ≡ true
accepted true d sort v s null = refl
accepted false d sort v s null = absurd (s.valid [] F02 (record { before = []; last = []; is = refl; node = node false d sort; value = v; leads_there = refl; found = rw (← null) refl }))

over_leaf : (P : Pools) (path : List ℕ) (N : Node) (v : Data) → sort_at N ≡ Leaf → IsStored N v → (is_over_here P path N v ≡ true) ↔ Contains (tree.null ∷ listed P path N) v
over_leaf P path (node n d (scalar kind cs)) v leaf s = null_or_listed n (listed P path (node n d (scalar kind cs))) v (accepted n d (scalar kind cs) v s)
over_leaf P path (node n d open_) v leaf s = null_or_listed n (listed P path (node n d open_)) v (accepted n d open_ v s)
over_leaf P path (node n d (object fs preserves type b cs)) v leaf s = absurd (cc)
over_leaf P path (node n d (nodes.map N type b)) v leaf s = absurd (cc)
over_leaf P path (node n d (list N type keys b)) v leaf s = absurd (cc)

-- ---- candidates

candidates_listed : PartLaws → (P : Pools) (limit : ℕ) (site : Site) (ts : List Tree) (vs : List Data) → site.fixed ≡ None → sort_at site.node ≡ Leaf → IsBase (tree.null ∷ listed P site.path site.node) ts → AreStored limit site.node (trees_of ts) vs → AreCandidates P limit site vs
candidates_listed laws P limit site ts vs free leaf b s = record {
  each = λ v. (
    (λ c. let h = (s.each v).0 c in ((laws.leaf P site v free (leaf_any site.fixed _ leaf)).1 (h.1.0, h.1.1, (over_leaf P site.path site.node v leaf h.1.1).1 ((b.each v).0 h.0)), h.1.2)),
    λ p. let h = (laws.leaf P site v free (leaf_any site.fixed _ leaf)).0 p.0 in (s.each v).1 ((b.each v).1 ((over_leaf P site.path site.node v leaf h.1).0 h.2), (h.0, h.1, p.1)),
  );
  ascending = s.ascending b.ascending;
}

-- where the values are fixed
candidates_fixed : PartLaws → (P : Pools) (limit : ℕ) (site : Site) (ds : List Data) (ts : List Tree) (vs : List Data) → site.fixed ≡ Some ds → IsBase (leasts ds) ts → AreStored limit site.node (trees_of ts) vs → AreCandidates P limit site vs
candidates_fixed laws P limit site ds ts vs fixed b s = record {
  each = λ v. (
    (λ c. let h = (s.each v).0 c in ((laws.fixed P site v ds fixed).1 (h.1.0, h.1.1, (is_in_decides v (leasts ds)).1 ((b.each v).0 h.0)), h.1.2)),
    λ p. let h = (laws.fixed P site v ds fixed).0 p.0 in (s.each v).1 ((b.each v).1 ((is_in_decides v (leasts ds)).0 h.2), (h.0, h.1, p.1)),
  );
  ascending = s.ascending b.ascending;
}

pub candidates_from : PartLaws → (P : Pools) (limit : ℕ) (site : Site) (fixed : Option (List Data)) (ts : List Tree) (vs : List Data) → site.fixed ≡ fixed → sort_of site ≡ Leaf → IsBase (choices_at P fixed site.path site.node) ts → AreStored limit site.node (trees_of ts) vs
    → AreCandidates P limit site vs
candidates_from laws P limit site (Some ds) ts vs is leaf b s = candidates_fixed laws P limit site ds ts vs is b s
candidates_from laws P limit site None ts vs is leaf b s = candidates_listed laws P limit site ts vs is (rw is at leaf) b s

-- ---- sizes

-- some of the trees has n nodes
abbrev pub HasNodes : List Data → ℕ → Type 0
HasNodes vs n = (v : Data) × (Contains vs v × (node_count v ≡ n))

pub sizes_more : (limit : ℕ) (A B : ℕ → Type 0) (vs : List Data) (v : Data) → IsUpTo limit A (HasNodes vs) → ((n : ℕ) → B n ↔ (A n ⊎ ((n ≤ limit) × (node_count v ≡ n)))) → IsUpTo limit B (HasNodes (vs ++ v ∷ []))
sizes_more limit A B vs v a b n = (
  (λ h. elim ((b n).0 h) as (λ _. (n ≤ limit) × HasNodes (vs ++ v ∷ []) n) [
    | inl old ↦ let r = (a n).0 old in (r.0, (r.1.0, (Contains-append_left vs (v ∷ []) r.1.0 r.1.1.0, r.1.1.1)))
    | inr new ↦ (new.0, (v, (Contains-push vs v, new.1)))
  ]),
  λ h. (b n).1 (elim (Contains-push_cases vs v h.1.0 h.1.1.0) as (λ _. A n ⊎ ((n ≤ limit) × (node_count v ≡ n))) [
    | inl old ↦ inl ((a n).1 (h.0, (h.1.0, (old, h.1.1.1))))
    | inr same ↦ inr (h.0, ap node_count same ∙ h.1.1.1)
  ]),
)

-- the sizes of all candidates are those of all parts up to the limit
pub sizes_all : (P : Pools) (s : Site) (limit : ℕ) (A : ℕ → Type 0) (vs : List Data) → AreCandidates P limit s vs → IsUpTo limit A (HasNodes vs) → IsUpTo limit A (HasSize P s)
sizes_all P s limit A vs c a n = (
  (λ h. let r = (a n).0 h in (r.0, record { part = r.1.0; is = ((c.each r.1.0).0 r.1.1.0).0; nodes_are = r.1.1.1 })),
  λ h. (a n).1 (h.0, (h.1.part, ((c.each h.1.part).1 (h.1.is, omega (arith, h.0, h.1.nodes_are)), h.1.nodes_are))),
)
