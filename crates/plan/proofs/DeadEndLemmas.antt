-- What the parts of a site are, and that what was begun there can be completed.
use Rattle.std.specs.Prelude.{◌≡◌, ℕ, ◌+◌, ◌≤◌, ◌⊎◌, ◌↔◌, List, [], ◌∷◌, ◌++◌, length, true, false, Option, Some, None, take, drop, filter}
use Rattle.std.proofs.Common.{refl, sym, subst, inl, inr, arith}
use Rattle.std.proofs.lemmas.List.{take-append-drop}
use Rattle.std.proofs.lemmas.Option.{same_Some}
use Rattle.jtree.specs.Data.{Data, Items, no_items, item}
use Rattle.jtree.specs.Nodes.{node_count, items_count}
use Rattle.jtree.specs.Internal.Rising.{Among, contains}
use Rattle.schema.specs.Nodes.Node.{Node, node, list, IsNode}
use Rattle.schema.specs.Nodes.Items.{AreDistinct, HasSoundItems}
use Rattle.schema.specs.declared.node.ListType.{ListType}
use Rattle.schema.specs.declared.node.ListType.TheVariants.{Atomic, Set, Map}
use Rattle.stored.specs.Objects.Fault as fault
use Rattle.stored.specs.Objects.Fault.{are_alike}
use Rattle.stored.specs.Objects.StoredByParts.{are_apart}
use Rattle.plan.specs.Pools.Pools.{Pools}
use Rattle.explain.specs.Paths.FieldPath as step
use Rattle.plan.specs.Samples.Keys.{AreKeySlots}
use Rattle.plan.specs.Samples.Part.{IsPart}
use Rattle.plan.specs.Samples.Sites.{Site, below, item_site, item_site_at, item_keys, fixed_item, where_fixed, Slot, slots}
use Rattle.plan.specs.Samples.Candidates.{sort_at, sort_of, AreCandidates, HasCount}
use Rattle.plan.specs.Samples.Sizes.{AreFillings, Before, nothing, filled, state_after, ending_of, MayEnd, HasRest, HasMore, items_from, bounds_of}
use Rattle.plan.specs.Samples.RuleOfParts.{AreParts, alike_by, alike_at, IsListPart, RuleOfParts}
use Rattle.plan.specs.Samples.NoDeadEnd.{RowCompletes, items_then, ListCompletes, is_key, AreCounts, NoDeadEnd}
use Rattle.plan.specs.Internal.PartLaws.{IsItemsPart, PartLaws}
use Rattle.plan.specs.Internal.Keyed.{Keyed}
use Rattle.plan.specs.declared.sort.Sort.TheVariants.{Leaf, Row, List as ListSort}
use Rattle.plan.proofs.ApartLemmas.{among_filter}
use Rattle.plan.proofs.CutLemmas.{keys_row}
use Rattle.plan.proofs.KeyedLemmas.{then_are, CompletesApart, completes_free, completes_apart}
use Rattle.plan.proofs.ListLemmas.{from_count, count_nodes}
use Rattle.plan.proofs.MapListLemmas.{map_keyed, own_keys}
use Rattle.plan.proofs.MoreLemmas.{more_parts}
use Rattle.plan.specs.Internal.Laws.{StoredLaw}
use Rattle.plan.proofs.RowLemmas.{fill_none, drop_all}
use Rattle.plan.proofs.FixedLemmas.{leaf_any}
use Rattle.plan.proofs.SetLemmas.{plain_leaf, scalar_one, set_keyed}
use Rattle.plan.proofs.TupleLemmas.{count_parts, free_tuples}

-- ---- what the parts are

or_so : {X A B C : Type 0} → X ↔ (A ⊎ B) → B ↔ C → X ↔ (A ⊎ C)
or_so {A = A} {B = B} {C = C} r s = (
  (λ x. elim (r.0 x) as (λ _. A ⊎ C) [ inl a ↦ inl a | inr b ↦ inr (s.0 b) ]),
  λ y. r.1 (elim y as (λ _. A ⊎ B) [ inl a ↦ inl a | inr c ↦ inr (s.1 c) ]),
)

-- where a row may end after its last slot
row_ends : (P : Pools) (s : Site) (x : Before) → MayEnd (ending_of P s) x ↔ HasRest P s (length (slots P s)) x 0
row_ends P s x = let r = fill_none P (ending_of P s) x 0 in rw (drop_all (slots P s)) ((λ w. r.1 (refl, w)), λ h. (r.0 h).1)

no_nodes : (ds : Items) → fault.items_count ds ≡ 0 → items_count ds ≡ 0
no_nodes no_items e = refl
no_nodes (item d ds) e = absurd (omega arith)

-- a list may end where it has as many items as it may
list_ends : PartLaws → (P : Pools) (s M : Site) → item_site P s ≡ Some M → (limit : ℕ) (v : Data) → node_count v ≤ limit → IsItemsPart P s M v ↔ IsListPart P limit s M v
list_ends laws P s M is limit v l =
    let r = λ (ds : Items). more_parts laws P s M is limit (fault.items_count ds) 0 in (
      (λ q.
          let n : 1 + items_count q.items ≤ limit = rw q.is at l in
          let c = from_count (fault.items_count q.items) q.items (omega arith) in
          record {
            items = q.items;
            is = q.is;
            are = q.are;
            apart = q.apart;
            ends = (r q.items).1 (record { items = q.items; are = q.are; apart = q.apart; within = q.within; fits = n; many = omega arith; nodes_are = no_nodes _ (omega arith) });
          }),
      λ q.
          let t = fault.items_count q.items in
          let h = (r q.items).0 q.ends in
          let e : fault.items_count h.items ≡ t = omega (arith, from_count t h.items h.many, count_nodes (items_from t h.items), h.nodes_are) in
          record { items = q.items; is = q.is; are = q.are; apart = q.apart; within = rw e at h.within },
    )

-- the site has candidates if it is a leaf
abbrev pub HasCandidates : Pools → ℕ → Site → Type 0
HasCandidates P limit s = sort_of s ≡ Leaf → (vs : List Data) × AreCandidates P limit s vs

-- a list has items of one site
list_item : (P : Pools) (fixed : Option (List Data)) (path : List ℕ) (N : Node) → where_fixed fixed Leaf (sort_at N) ≡ ListSort → (M : Site) × (where_fixed fixed None (item_site_at P path N) ≡ Some M)
list_item P None path (node n t (list N type keys b)) e = (_, refl)
list_item P None path N e = cc
list_item P (Some ds) path N e = cc

pub rule_of_parts : PartLaws → (P : Pools) (limit : ℕ) (s : Site) → IsNode s.node → HasCandidates P limit s → RuleOfParts P limit s
rule_of_parts laws P limit s o h = record {
  leaf = λ v is l. let c = h is in ((λ p. (c.0, (c.1, (c.1.each v).1 (p, l)))), λ x. ((x.1.0.each v).0 x.1.1).0);
  row = λ v is. or_so (laws.row P s v o is) (
    (λ q. record { fillings = q.fillings; is = q.is; are = q.are; ends = (row_ends P s (state_after (slots P s) q.fillings nothing)).0 q.ends }),
    λ q. record { fillings = q.fillings; is = q.is; are = q.are; ends = (row_ends P s (state_after (slots P s) q.fillings nothing)).1 q.ends },
  );
  items = list_item P s.fixed s.path s.node;
  list = λ M v is l. or_so (laws.list P s M v is) (list_ends laws P s M is limit v l);
}

-- ---- rows

join_are : (P : Pools) (ss ts : List Slot) (gs hs : List (Option Data)) → AreFillings P ss gs → AreFillings P ts hs → AreFillings P (ss ++ ts) (gs ++ hs)
join_are P [] ts [] hs h k = k
join_are P (s ∷ ss) ts (None ∷ gs) hs h k = (h.0, join_are P ss ts gs hs h.1 k)
join_are P (s ∷ ss) ts (Some v ∷ gs) hs h k = (h.0, join_are P ss ts gs hs h.1 k)
join_are P ss ts gs hs h k = absurd h

join_state : (P : Pools) (ss ts : List Slot) (gs hs : List (Option Data)) (x : Before) → AreFillings P ss gs → state_after (ss ++ ts) (gs ++ hs) x ≡ state_after ts hs (state_after ss gs x)
join_state P [] ts [] hs x h = refl
join_state P (s ∷ ss) ts (None ∷ gs) hs x h = join_state P ss ts gs hs x h.1
join_state P (s ∷ ss) ts (Some v ∷ gs) hs x h = join_state P ss ts gs hs (filled s.bit x) h.1
join_state P ss ts gs hs x h = absurd h

row_completes : PartLaws → (P : Pools) (s : Site) → IsNode s.node → sort_of s ≡ Row → (front : List (Option Data)) (place m : ℕ) → AreFillings P (take place (slots P s)) front → HasRest P s place (state_after (take place (slots P s)) front nothing) m
    → RowCompletes P s place front m
row_completes laws P s o is front place m h r =
    let first = take place (slots P s) in
    let later = drop place (slots P s) in
    let are = rw (take-append-drop place (slots P s)) at (join_are P first later front r.fillings h r.are) in
    let state = rw (take-append-drop place (slots P s)) at (join_state P first later front r.fillings nothing h) in
    record {
      back = r.fillings;
      are = r.are;
      part = (laws.row P s _ o is).1 (inr (record { fillings = front ++ r.fillings; is = refl; are = are; ends = subst (MayEnd (ending_of P s)) (sym state) r.ends }));
      nodes_are = r.nodes_are;
    }

-- ---- lists

-- a leaf has a number of parts, where each is one node
pub parts_count : (P : Pools) (limit : ℕ) (s : Site) → 1 ≤ limit → ((v : Data) → IsPart P s v → node_count v ≡ 1) → (vs : List Data) × AreCandidates P limit s vs → (n : ℕ) × HasCount (IsPart P s) n
parts_count P limit s some one c = (length c.0, count_parts P limit s (length c.0) some one (record { values = c.0; are = c.1; count_is = refl }))

pub counts : (P : Pools) (ss : List Slot) → ((s : Slot) → Among ss s → (n : ℕ) × HasCount (IsPart P s.site) n) → (ns : List ℕ) × AreCounts P ss ns
counts P [] h = ([], tt)
counts P (s ∷ ss) h =
    let c = h s (inl refl) in
    let r = counts P ss (λ t a. h t (inr a)) in
    (c.0 ∷ r.0, (c.1, r.1))

-- the site and the slots of a row have candidates where they are leaves
pub record HaveCandidates (P : Pools) (limit : ℕ) (s : Site) : Type 0 where
  pub own : HasCandidates P limit s
  pub below : sort_of s ≡ Row → (t : Slot) → Among (slots P s) t → HasCandidates P limit t.site

-- where each key is a leaf whose parts are one node each
pub key_counts : (P : Pools) (limit : ℕ) (s : Site) → 1 ≤ limit → ((t : Slot) → Among (slots P s) t → sort_of s ≡ Row) → AreKeySlots P (slots P s) → HaveCandidates P limit s → (ns : List ℕ) × AreCounts P (filter is_key (slots P s)) ns
key_counts P limit s some row keys have =
    let ss = slots P s in
    counts P (filter is_key ss) (λ t a.
    let f = among_filter is_key ss t a in
    let k = keys t (contains ss t f.0) f.1 in
    parts_count P limit t.site some k.one (have.below (row t f.0) t f.0 k.leaf))

-- no two items are alike, or each has a key
apart_or_keyed : StoredLaw → PartLaws → (P : Pools) (limit : ℕ) (path : List ℕ) (type : ListType) (keys : List (List ℕ)) (N : Node) → 1 ≤ limit → IsNode N → AreDistinct type keys N → HaveCandidates P limit (record { node = N; keys = item_keys type keys; path = path; fixed = fixed_item P type path })
    → ((v w : Data) → are_alike type keys v w ≡ false) ⊎ Keyed P (record { node = N; keys = item_keys type keys; path = path; fixed = fixed_item P type path }) (are_alike type keys)
apart_or_keyed stored laws P limit path Atomic keys N some o h c = inl (λ v w. refl)
apart_or_keyed stored laws P limit path (Set e) keys N some o h c =
    let n = parts_count P limit _ some (scalar_one stored P _ h) (c.own (leaf_any (fixed_item P (Set e) path) _ (plain_leaf N h))) in
    inr (set_keyed stored e P _ n.0 h n.1).0
apart_or_keyed stored laws P limit path (Map e) keys N some o h c = let ns = key_counts P limit _ some (λ t a. keys_row N keys h) (own_keys stored P path N keys o h) c in inr (map_keyed stored laws e P None path N keys ns.0 refl o h ns.1).0

items_apart_or_keyed : StoredLaw → PartLaws → (P : Pools) (limit : ℕ) (fixed : Option (List Data)) (path : List ℕ) (N : Node) (keys : List (List ℕ)) (M : Site) → 1 ≤ limit → item_site P (record { node = N; keys = keys; path = path; fixed = fixed }) ≡ Some M → IsNode N → HasSoundItems N → HaveCandidates P limit M
    → ((v w : Data) → where_fixed fixed (λ v w. false) (alike_by N) v w ≡ false) ⊎ Keyed P M (where_fixed fixed (λ v w. false) (alike_by N))
items_apart_or_keyed stored laws P limit None path (node n t (list K type ks b)) keys M some is o h c = subst (λ (s : Site). HaveCandidates P limit s → ((v w : Data) → are_alike type ks v w ≡ false) ⊎ Keyed P s (are_alike type ks)) (same_Some _ M is) (apart_or_keyed stored laws P limit (below path step.item) type ks K some o h) c
items_apart_or_keyed stored laws P limit None path N keys M some is o h c = absurd (cc)
items_apart_or_keyed stored laws P limit (Some ds) path N keys M some is o h c = absurd (cc)

list_completes : StoredLaw → PartLaws → (P : Pools) (limit : ℕ) (s M : Site) → 1 ≤ limit → item_site P s ≡ Some M → IsNode s.node → HasSoundItems s.node → HaveCandidates P limit M → (front : Items) (m : ℕ) → AreParts P M front → are_apart (alike_at s) front ≡ true
    → HasMore P limit s (fault.items_count front) m → ListCompletes P s front m
list_completes stored laws P limit s M some is o h c front m are apart more =
    let b = bounds_of P s in
    let a = (more_parts laws P s M is limit (fault.items_count front) m).0 more in
    let r : CompletesApart P M (alike_at s) b front m = elim (items_apart_or_keyed stored laws P limit s.fixed s.path s.node s.keys M some is o h c) [
      | inl never ↦ completes_free P limit M (alike_at s) b front m never a
      | inr K ↦ completes_apart K limit b front m are apart a
    ] in
    record {
      back = r.0;
      part = (laws.list P s M _ is).1 (inr (record { items = items_then front r.0; is = refl; are = then_are P M front r.0 are r.1.0; apart = r.1.1; within = r.1.2 }));
      nodes_are = r.1.3;
    }

pub no_dead_end : StoredLaw → PartLaws → (P : Pools) (limit : ℕ) (s : Site) → 1 ≤ limit → IsNode s.node → HasSoundItems s.node → ((M : Site) → item_site P s ≡ Some M → HaveCandidates P limit M) → NoDeadEnd P limit s
no_dead_end stored laws P limit s some o h c = record {
  rows = λ front place m is are within rest. row_completes laws P s o is front place m are rest;
  lists = λ M front m is are apart more. list_completes stored laws P limit s M some is o h (c M is) front m are apart more;
  keys = λ first later used chosen ns is chosen_is used_are apart counts_are. free_tuples P first later used chosen ns chosen_is used_are apart counts_are;
}
