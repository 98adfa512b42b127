-- What the rules of a schema say of the slots and the items of a site.
use Rattle.std.specs.Prelude.{◌≡◌, ℕ, List, [], false, Option, Some, None}
use Rattle.std.proofs.Common.{refl, ap, sym, ◌∙◌, subst, inl, inr}
use Rattle.std.proofs.lemmas.Option.{same_Some}
use Rattle.jtree.specs.Internal.Rising.{Among, contained}
use Rattle.jtree.specs.Data.{Data}
use Rattle.schema.specs.Nodes.Node.{Node, node, scalar, object, list, open_, IsNode}
use Rattle.schema.specs.Nodes.Node as nodes
use Rattle.schema.specs.Nodes.Items.{HasSoundItems}
use Rattle.schema.specs.declared.node.ListType.TheVariants.{Atomic, Set, Map}
use Rattle.plan.specs.Pools.Pools.{Pools, fixed_at}
use Rattle.explain.specs.Paths.FieldPath.{item}
use Rattle.plan.specs.Samples.Sites.{Site, plain, below, item_site_at, Slot, slots_at}
use Rattle.plan.specs.Samples.Names.{in_order}
use Rattle.plan.specs.Samples.Presence.{named}
use Rattle.plan.specs.Samples.Candidates.{distinct_at}
use Rattle.plan.specs.Samples.RuleOfParts.{alike_by}
use Rattle.plan.specs.Samples.Keys.{AreInOrder, AreKeySlots, AreSetItems, AreMapItems, HasSoundParts}
use Rattle.plan.specs.Internal.PartLaws.{PartLaws}
use Rattle.plan.specs.declared.sort.Distinct.TheVariants.{Free, Whole, Keys}
use Rattle.plan.proofs.KeyedLemmas.{at_most}
use Rattle.plan.proofs.OneValue.{one_test}
use Rattle.plan.proofs.MapListLemmas.{slot_key, own_keys, map_alike}
use Rattle.plan.specs.Internal.Laws.{StoredLaw}
use Rattle.plan.proofs.PartLemmas.{fields_in_order, name_of_value_slot, values_in_order}
use Rattle.plan.proofs.FixedLemmas.{leaf_any}
use Rattle.plan.proofs.SetLemmas.{plain_leaf, scalar_one, set_keyed}
use Rattle.plan.proofs.SoundLemmas.{AreKeysOf}

slots_in_order : (P : Pools) (path : List ℕ) (N : Node) (keys : List (List ℕ)) → IsNode N → AreInOrder (slots_at P path N keys)
slots_in_order P path (node n t (object fs preserves type b cs)) keys o = fields_in_order P path keys (named cs) fs o
slots_in_order P path (node n t (nodes.map M type b)) keys o = values_in_order P path M P.names
slots_in_order P path (node n t (scalar kind cs)) keys o = tt
slots_in_order P path (node n t (list M type ks b)) keys o = tt
slots_in_order P path (node n t open_) keys o = tt

-- ---- keys

no_key : (P : Pools) (path : List ℕ) (N : Node) (s : Slot) → Among (slots_at P path N []) s → s.key ≡ false
no_key P path (node n t (object fs preserves type b cs)) s a = slot_key P path [] (named cs) fs s a
no_key P path (node n t (nodes.map M type b)) s a = ap (λ u. Slot.key u) (sym (name_of_value_slot P path M (in_order P.names) s a).1.1)
no_key P path (node n t (scalar kind cs)) s a = absurd a
no_key P path (node n t (list M type ks b)) s a = absurd a
no_key P path (node n t open_) s a = absurd a

key_slots : StoredLaw → (P : Pools) (path : List ℕ) (N : Node) (keys : List (List ℕ)) → IsNode N → AreKeysOf N keys → AreKeySlots P (slots_at P path N keys)
key_slots stored P path N keys o (inl none) = rw none (λ s c key. let no = sym (no_key P path N s (contained (slots_at P path N []) s c)) ∙ key in absurd (cc))
key_slots stored P path N keys o (inr h) = own_keys stored P path N keys o h

-- ---- items

never_alike : (N : Node) → distinct_at N ≡ Free → (v w : Data) → alike_by N v w ≡ false
never_alike (node n t (list N Atomic keys b)) e v w = refl
never_alike N e v w = cc

set_items : StoredLaw → (P : Pools) (path : List ℕ) (N : Node) (own : List (List ℕ)) (M : Site) → item_site_at P path N ≡ Some M → distinct_at N ≡ Whole → HasSoundItems N → AreSetItems P (record { node = N; keys = own; path = path; fixed = None }) M
set_items stored P path (node n t (list K (Set e) keys b)) own M is whole h =
    subst (AreSetItems P (record { node = node n t (list K (Set e) keys b); keys = own; path = path; fixed = None })) (same_Some _ M is) (record {
      leaf = leaf_any (fixed_at (below path item) P) _ (plain_leaf K h);
      one = scalar_one stored P (plain P (below path item) K) h;
      alike = λ v w p q. one_test stored e P (plain P (below path item) K) h v w p q;
      most = λ ds count are apart candidates. let k = set_keyed stored e P (plain P (below path item) K) count h candidates in at_most k.0 count k.1 ds are apart;
    })
set_items stored P path (node n t (list K (Map e) keys b)) own M is whole h = absurd (cc)
set_items stored P path (node n t (list K Atomic keys b)) own M is whole h = absurd (cc)
set_items stored P path N own M is whole h = absurd (cc)

map_items : StoredLaw → PartLaws → (P : Pools) (path : List ℕ) (N : Node) (own : List (List ℕ)) (M : Site) → item_site_at P path N ≡ Some M → distinct_at N ≡ Keys → IsNode N → HasSoundItems N → AreMapItems P (record { node = N; keys = own; path = path; fixed = None }) M
map_items stored laws P path (node n t (list K (Map e) keys b)) own M is by o h = subst (AreMapItems P (record { node = node n t (list K (Map e) keys b); keys = own; path = path; fixed = None })) (same_Some _ M is) (map_alike stored laws e P path own n t K keys b o h)
map_items stored laws P path (node n t (list K (Set e) keys b)) own M is by o h = absurd (cc)
map_items stored laws P path (node n t (list K Atomic keys b)) own M is by o h = absurd (cc)
map_items stored laws P path N own M is by o h = absurd (cc)

sound_at : StoredLaw → PartLaws → (P : Pools) (fixed : Option (List Data)) (N : Node) (keys : List (List ℕ)) (path : List ℕ) → IsNode N → HasSoundItems N → AreKeysOf N keys → HasSoundParts P (record { node = N; keys = keys; path = path; fixed = fixed })
sound_at stored laws P None N keys path o h k = record {
  order = slots_in_order P path N keys o;
  keys = key_slots stored P path N keys o k;
  free = λ v w is. never_alike N is v w;
  set = λ M is whole. set_items stored P path N keys M is whole h;
  map = λ M is by. map_items stored laws P path N keys M is by o h;
}
sound_at stored laws P (Some ds) N keys path o h k = record {
  order = tt;
  keys = λ s c. absurd (contained [] s c);
  free = λ v w is. refl;
  set = λ M is. absurd (cc);
  map = λ M is. absurd (cc);
}

pub sound_parts : StoredLaw → PartLaws → (P : Pools) (s : Site) → IsNode s.node → HasSoundItems s.node → AreKeysOf s.node s.keys → HasSoundParts P s
sound_parts stored laws P s o h k = sound_at stored laws P s.fixed s.node s.keys s.path o h k
