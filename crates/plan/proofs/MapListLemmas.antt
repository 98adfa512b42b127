-- The items of a map list: objects, of which the values under the keys are the key.
use Rattle.std.specs.Prelude.{◌≡◌, ◌↔◌, ℕ, ◌+◌, List, Bool, true, false, Option, Some, None, filter, map, unwrap_or}
use Rattle.std.proofs.Common.{refl, ap, sym, ◌∙◌, subst, inl, inr, arith, [], ◌∷◌, length}
use Rattle.std.proofs.lemmas.Bool.{cases_Bool, and_parts, and_from}
use Rattle.std.proofs.lemmas.Option.{same_Some}
use Rattle.jtree.specs.Data.{Data, Members, member}
use Rattle.jtree.specs.Data as tree
use Rattle.jtree.specs.Equality.{equal_by}
use Rattle.jtree.specs.Nodes.{node_count}
use Rattle.jtree.specs.Internal.EqualityLaws.{equal_itself}
use Rattle.jtree.specs.declared.equality.Equality.{Equality}
use Rattle.jtree.specs.Path.{member_at}
use Rattle.jtree.specs.Internal.Lookups.{option_cases, not_itself, member_first, member_later, later_name}
use Rattle.jtree.specs.Internal.Rising.{Among, contained, contains}
use Rattle.schema.specs.Document.Texts.{is_among}
use Rattle.schema.specs.Nodes.Node.{Node, node, object, list, Fields, no_fields, field, IsNode, AreOrdered}
use Rattle.schema.specs.Nodes.ByPlace.{Declared}
use Rattle.schema.specs.Nodes.Items.{IsPlainScalar, IsKey, AreKeys, HasKeys}
use Rattle.schema.specs.declared.node.ListType.TheVariants.{Map}
use Rattle.schema.specs.declared.node.Bounds.{Bounds}
use Rattle.stored.specs.Objects.Fault.{agree_at, agree, are_alike}
use Rattle.plan.specs.Pools.Pools.{Pools}
use Rattle.plan.specs.Samples.Part.{IsPart}
use Rattle.plan.specs.Samples.Presence.{named}
use Rattle.explain.specs.Paths.FieldPath as step
use Rattle.plan.specs.Samples.Sites.{Site, below, Slot, slots, slots_at, field_slots}
use Rattle.plan.specs.Samples.Candidates.{sort_of}
use Rattle.plan.specs.declared.sort.Sort.TheVariants.{Row}
use Rattle.plan.specs.Samples.Sizes.{AreFillings, filled_nodes, Before, nothing, filled, state_after, ending_of, MayEnd}
use Rattle.plan.specs.Samples.RuleOfParts.{members_in, admits_null}
use Rattle.plan.specs.Samples.NoDeadEnd.{is_key, IsTuple, AreCounts, product}
use Rattle.plan.specs.Samples.Keys.{AreInOrder, IsKeySlot, AreKeySlots, under, key_under, AreMapItems}
use Rattle.plan.specs.Internal.PartLaws.{IsObjectPart, PartLaws}
use Rattle.plan.specs.Internal.Keyed.{Keyed}
use Rattle.plan.proofs.ApartLemmas.{map_same, same_map, among_filter, filter_among}
use Rattle.plan.proofs.OneValue.{one_part}
use Rattle.plan.proofs.TupleLemmas.{all_tuples}
use Rattle.plan.proofs.KeyedLemmas.{at_most}
use Rattle.plan.proofs.FillingLemmas.{in_slots, in_nodes}
use Rattle.plan.specs.Internal.Laws.{StoredLaw}
use Rattle.plan.proofs.PartLemmas.{slot_of_field, field_of_slot, fields_in_order, among_name, name_among}
use Rattle.plan.proofs.FixedLemmas.{leaf_any}
use Rattle.plan.proofs.SetLemmas.{plain_leaf, scalar_one, scalar_no_null}

-- ---- the slots of keys

pub own_key : (P : Pools) (s : Slot) (ss : List Slot) → AreKeySlots P (s ∷ ss) → s.key ≡ true → IsKeySlot P s
own_key P s ss q = q s (contains (s ∷ ss) s (inl refl))

pub later_keys : (P : Pools) (s : Slot) (ss : List Slot) → AreKeySlots P (s ∷ ss) → AreKeySlots P ss
later_keys P s ss q = λ t c. q t (contains (s ∷ ss) t (inr (contained ss t c)))

-- there is one for each key, and for no other name
pub record HaveKeys (P : Pools) (keys : List (List ℕ)) (ss : List Slot) : Type 0 where
  pub order : AreInOrder ss
  pub are : AreKeySlots P ss
  pub named : (s : Slot) → Among ss s → s.key ≡ true → Among keys s.name
  pub each : (k : List ℕ) → Among keys k → (s : Slot) × (Among ss s × (s.name ≡ k) × (s.key ≡ true))

pub slot_key : (P : Pools) (path : List ℕ) (keys names : List (List ℕ)) (fs : Fields) (s : Slot) → Among (field_slots P path keys names fs) s → s.key ≡ is_among s.name keys
slot_key P path keys names no_fields s a = absurd a
slot_key P path keys names (field l N required default fs) s (inl e) = subst (λ t. Slot.key t ≡ is_among (Slot.name t) keys) e refl
slot_key P path keys names (field l N required default fs) s (inr a) = slot_key P path keys names fs s a

key_field : (fs : Fields) (keys : List (List ℕ)) → AreKeys fs keys → (k : List ℕ) → Among keys k → IsKey fs k
key_field fs [] h k a = absurd a
key_field fs (l ∷ ls) h k (inl e) = subst (IsKey fs) e h.0
key_field fs (l ∷ ls) h k (inr a) = key_field fs ls h.2 k a

-- a key has to have a value, which is a plain scalar
pub key_slot : (P : Pools) (fs : Fields) (path : List ℕ) (keys names : List (List ℕ)) → AreOrdered fs → AreKeys fs keys → (s : Slot) → Among (field_slots P path keys names fs) s → s.key ≡ true → Among keys s.name × (s.must ≡ true) × IsPlainScalar s.site.node
key_slot P fs path keys names o h s a key =
    let among = among_name s.name keys (sym (slot_key P path keys names fs s a) ∙ key) in
    let f = field_of_slot P path keys names fs o s a in
    let g = key_field fs keys h s.name among in
    let same : f.0 ≡ g.0 = same_Some f.0 g.0 (sym f.1.0 ∙ g.1) in
    (among, f.1.1.2 ∙ rw (same, g.3) refl, subst IsPlainScalar (ap (λ d. Declared.node d) (sym same) ∙ ap (λ x. Site.node x) (sym f.1.1.1)) g.2)

pub have_keys : StoredLaw → (P : Pools) (fs : Fields) (path : List ℕ) (keys names : List (List ℕ)) → AreOrdered fs → AreKeys fs keys → HaveKeys P keys (field_slots P path keys names fs)
have_keys stored P fs path keys names o h = record {
  order = fields_in_order P path keys names fs o;
  are = λ s c key. let q = key_slot P fs path keys names o h s (contained (field_slots P path keys names fs) s c) key in record { must = q.1; leaf = leaf_any s.site.fixed _ (plain_leaf s.site.node q.2); one = scalar_one stored P s.site q.2; no_null = scalar_no_null stored P s.site q.2; one_value = λ e. one_part stored e P s.site q.2 };
  named = λ s a key. (key_slot P fs path keys names o h s a key).0;
  each = λ k a.
      let f = key_field fs keys h k a in
      let s = slot_of_field P path keys names fs k f.0 f.1 in
      (s.0, (s.1.0, s.1.1.0, slot_key P path keys names fs s.0 s.1.0 ∙ rw s.1.1.0 (name_among k keys a)));
}

-- ---- the key of an object

keys_after : (s : Slot) (ss : List Slot) (v : Data) (ms : Members) → AreInOrder (s ∷ ss) → map (under (member s.name v ms)) (filter is_key ss) ≡ map (under ms) (filter is_key ss)
keys_after s ss v ms o = map_same (under (member s.name v ms)) (under ms) (filter is_key ss) (λ t a. ap (λ w. unwrap_or w tree.null) (member_later t.name s.name v ms (later_name t.name s.name (o.0 t (contains ss t (among_filter is_key ss t a).0)))))

key_other : (s : Slot) (ss : List Slot) (ms : Members) → s.key ≡ false → key_under (s ∷ ss) (tree.object ms) ≡ key_under ss (tree.object ms)
key_other s ss ms other = rw other refl

pub known_key : (P : Pools) (ss : List Slot) (gs : List (Option Data)) → AreInOrder ss → AreKeySlots P ss → AreFillings P ss gs → IsTuple P (filter is_key ss) (key_under ss (tree.object (members_in ss gs)))
known_key P [] gs o q h = tt
known_key P (s ∷ ss) [] o q h = absurd h
known_key P (s ∷ ss) (None ∷ gs) o q h = elim (cases_Bool s.key) [
  | inl key ↦ let must = (own_key P s ss q key).must in let free = h.0 in absurd (cc)
  | inr other ↦ rw other (known_key P ss gs o.1 (later_keys P s ss q) h.1)
]
known_key P (s ∷ ss) (Some v ∷ gs) o q h =
    let r = known_key P ss gs o.1 (later_keys P s ss q) h.1 in
    let ms = members_in ss gs in
    elim (cases_Bool s.key) [
      | inl key ↦ rw (key, member_first s.name v ms, keys_after s ss v ms o) (h.0, r)
      | inr other ↦ rw (other, keys_after s ss v ms o) r
    ]

-- the slots with another key, as many nodes, and the same names in them
pub record Refilled (P : Pools) (ss : List Slot) (gs : List (Option Data)) (k : List Data) : Type 0 where
  pub fillings : List (Option Data)
  pub are : AreFillings P ss fillings
  pub key_is : key_under ss (tree.object (members_in ss fillings)) ≡ k
  pub nodes_are : filled_nodes fillings ≡ filled_nodes gs
  pub state_is : (x : Before) → state_after ss fillings x ≡ state_after ss gs x

key_given : (P : Pools) (s : Slot) (ss : List Slot) (v : Data) (gs : List (Option Data)) (k : List Data) → AreInOrder (s ∷ ss) → s.key ≡ true → ((w : Data) → IsPart P s.site w → node_count w ≡ 1) → IsPart P s.site v
    → IsTuple P (s ∷ filter is_key ss) k → ((l : List Data) → IsTuple P (filter is_key ss) l → Refilled P ss gs l) → Refilled P (s ∷ ss) (Some v ∷ gs) k
key_given P s ss v gs [] o key one p t rest = absurd t
key_given P s ss v gs (x ∷ k) o key one p t rest =
    let r = rest k t.1 in
    let ms = members_in ss r.fillings in
    record {
      fillings = Some x ∷ r.fillings;
      are = (t.0, r.are);
      key_is = rw (key, member_first s.name x ms, keys_after s ss x ms o, r.key_is) refl;
      nodes_are = omega (arith, one x t.0, one v p, r.nodes_are);
      state_is = λ x. r.state_is (filled s.bit x);
    }

pub refilled : (P : Pools) (ss : List Slot) (gs : List (Option Data)) (k : List Data) → AreInOrder ss → AreKeySlots P ss → AreFillings P ss gs → IsTuple P (filter is_key ss) k → Refilled P ss gs k
refilled P [] [] [] o q h t = record { fillings = []; are = tt; key_is = refl; nodes_are = refl; state_is = λ x. refl }
refilled P [] [] (x ∷ k) o q h t = absurd t
refilled P [] (g ∷ gs) k o q h t = absurd h
refilled P (s ∷ ss) [] k o q h t = absurd h
refilled P (s ∷ ss) (None ∷ gs) k o q h t = elim (cases_Bool s.key) [
  | inl key ↦ let must = (own_key P s ss q key).must in let free = h.0 in absurd (cc)
  | inr other ↦
      let r = refilled P ss gs k o.1 (later_keys P s ss q) h.1 (rw other at t) in
      record { fillings = None ∷ r.fillings; are = (h.0, r.are); key_is = key_other s ss (members_in ss r.fillings) other ∙ r.key_is; nodes_are = r.nodes_are; state_is = r.state_is }
]
refilled P (s ∷ ss) (Some v ∷ gs) k o q h t = elim (cases_Bool s.key) [
  | inl key ↦ key_given P s ss v gs k o key (own_key P s ss q key).one h.0 (rw key at t) (λ l is. refilled P ss gs l o.1 (later_keys P s ss q) h.1 is)
  | inr other ↦
      let r = refilled P ss gs k o.1 (later_keys P s ss q) h.1 (rw other at t) in
      record { fillings = Some v ∷ r.fillings; are = (h.0, r.are); key_is = key_other s ss (member s.name v (members_in ss r.fillings)) other ∙ keys_after s ss v (members_in ss r.fillings) o ∙ r.key_is; nodes_are = ap (λ n. node_count v + n) r.nodes_are; state_is = λ x. r.state_is (filled s.bit x) }
]

-- ---- objects that agree on all keys

agrees_itself : (e : Equality) (o : Option Data) → agree_at e o o ≡ true
agrees_itself e None = refl
agrees_itself e (Some v) = equal_itself e v

agree_each : (e : Equality) (ms ns : Members) (keys : List (List ℕ)) → agree e keys ms ns ≡ true → (k : List ℕ) → Among keys k → agree_at e (member_at k ms) (member_at k ns) ≡ true
agree_each e ms ns [] h k a = absurd a
agree_each e ms ns (l ∷ keys) h k (inl same) = subst (λ n. agree_at e (member_at n ms) (member_at n ns) ≡ true) same (and_parts _ _ h).0
agree_each e ms ns (l ∷ keys) h k (inr a) = agree_each e ms ns keys (and_parts _ _ h).1 k a

each_agree : (e : Equality) (ms ns : Members) (keys : List (List ℕ)) → ((k : List ℕ) → Among keys k → agree_at e (member_at k ms) (member_at k ns) ≡ true) → agree e keys ms ns ≡ true
each_agree e ms ns [] h = refl
each_agree e ms ns (k ∷ keys) h = and_from _ _ (h k (inl refl)) (each_agree e ms ns keys (λ l a. h l (inr a)))

one_slot : (ss : List Slot) → AreInOrder ss → (s t : Slot) → Among ss s → Among ss t → s.name ≡ t.name → s ≡ t
one_slot [] o s t a b same = absurd a
one_slot (u ∷ ss) o s t (inl e) (inl f) same = sym e ∙ f
one_slot (u ∷ ss) o s t (inl e) (inr b) same = absurd (not_itself u.name t.name (ap (λ x. Slot.name x) e ∙ same) (o.0 t (contains ss t b)))
one_slot (u ∷ ss) o s t (inr a) (inl f) same = absurd (not_itself u.name s.name (ap (λ x. Slot.name x) f ∙ sym same) (o.0 s (contains ss s a)))
one_slot (u ∷ ss) o s t (inr a) (inr b) same = one_slot ss o.1 s t a b same

module _ {P : Pools} {keys : List (List ℕ)} {ss : List Slot} (e : Equality) (h : HaveKeys P keys ss) where
  -- the value of a key, which is a part of its site
  found : (gs : List (Option Data)) → AreFillings P ss gs → (s : Slot) → Among ss s → s.key ≡ true → (v : Data) × (member_at s.name (members_in ss gs) ≡ Some v) × IsPart P s.site v
  found gs are s a key = elim (option_cases (member_at s.name (members_in ss gs))) [
    | inl none ↦ absurd ((in_slots P ss gs h.order are).present s a (h.are s (contains ss s a) key).must none)
    | inr v ↦
        let r = (in_slots P ss gs h.order are).named s.name v.0 v.1 in
        (v.0, v.1, subst (λ t. IsPart P (Slot.site t) v.0) (one_slot ss h.order r.0 s r.1 a r.2) r.3)
  ]

  agree_same_key : (gs hs : List (Option Data)) → AreFillings P ss gs → AreFillings P ss hs → agree e keys (members_in ss gs) (members_in ss hs) ≡ true
      → key_under ss (tree.object (members_in ss gs)) ≡ key_under ss (tree.object (members_in ss hs))
  agree_same_key gs hs g i agrees =
      let ms = members_in ss gs in
      let ns = members_in ss hs in
      map_same (under ms) (under ns) (filter is_key ss) (λ s a.
      let f = among_filter is_key ss s a in
      let v = found gs g s f.0 f.1 in
      let w = found hs i s f.0 f.1 in
      let equal : equal_by e v.0 w.0 ≡ true = rw (v.1, w.1) at (agree_each e ms ns keys agrees s.name (h.named s f.0 f.1)) in
      let one : v.0 ≡ w.0 = (h.are s (contains ss s f.0) f.1).one_value e v.0 w.0 v.2 w.2 equal in
      rw (v.1, w.1) one)

  same_key_agree : (gs hs : List (Option Data)) → AreFillings P ss gs → AreFillings P ss hs → key_under ss (tree.object (members_in ss gs)) ≡ key_under ss (tree.object (members_in ss hs)) → agree e keys (members_in ss gs) (members_in ss hs) ≡ true
  same_key_agree gs hs g i same =
      let ms = members_in ss gs in
      let ns = members_in ss hs in
      each_agree e ms ns keys (λ k a.
      let s = h.each k a in
      let v = found gs g s.0 s.1.0 s.1.2 in
      let w = found hs i s.0 s.1.0 s.1.2 in
      let one = same_map (under ms) (under ns) (filter is_key ss) same s.0 (filter_among is_key ss s.0 s.1.0 s.1.2) in
      let alike : member_at s.0.name ms ≡ member_at s.0.name ns = v.1 ∙ ap Some (rw (v.1, w.1) at one) ∙ sym w.1 in
      subst (λ l. agree_at e (member_at l ms) (member_at l ns) ≡ true) s.1.1 (subst (λ o. agree_at e (member_at s.0.name ms) o ≡ true) alike (agrees_itself e (member_at s.0.name ms))))

-- ---- all of it

-- where each part is an object
module _ (P : Pools) (s : Site) (row : (v : Data) → IsPart P s v ↔ IsObjectPart P s v) (e : Equality) (keys : List (List ℕ)) (h : HaveKeys P keys (slots P s)) where
  object_given : (gs : List (Option Data)) (k : List Data) → AreFillings P (slots P s) gs → MayEnd (ending_of P s) (state_after (slots P s) gs nothing) → IsTuple P (filter is_key (slots P s)) k
      → (w : Data) × (IsPart P s w × (key_under (slots P s) w ≡ k) × (node_count w ≡ node_count (tree.object (members_in (slots P s) gs))))
  object_given gs k are ends is =
      let r = refilled P (slots P s) gs k h.order h.are are is in
      let w = tree.object (members_in (slots P s) r.fillings) in
      let part = (row w).1 (record { fillings = r.fillings; is = refl; are = r.are; ends = subst (MayEnd (ending_of P s)) (sym (r.state_is nothing)) ends }) in
      (w, (part, r.key_is, ap (λ m. 1 + m) (in_nodes P (slots P s) r.fillings r.are ∙ r.nodes_are ∙ sym (in_nodes P (slots P s) gs are))))

  pub objects_alike : (v w : Data) → IsPart P s v → IsPart P s w → (are_alike (Map e) keys v w ≡ true) ↔ (key_under (slots P s) v ≡ key_under (slots P s) w)
  objects_alike v w p r =
      let x = (row v).0 p in
      let y = (row w).0 r in (
        (λ same. rw (x.is, y.is) (agree_same_key e h x.fillings y.fillings x.are y.are (rw (x.is, y.is) at same))),
        λ same. rw (x.is, y.is) (same_key_agree e h x.fillings y.fillings x.are y.are (rw (x.is, y.is) at same)),
      )

  objects_keyed : (counts : List ℕ) → AreCounts P (filter is_key (slots P s)) counts → (K : Keyed P s (are_alike (Map e) keys)) × (length K.keys ≡ product counts)
  objects_keyed counts count =
      let all = all_tuples P (filter is_key (slots P s)) counts count in (
        record {
          key = key_under (slots P s);
          keys = all.0;
          apart = all.1.0.apart;
          known = λ v p. let x = (row v).0 p in (all.1.0.each (key_under (slots P s) v)).1 (rw x.is (known_key P (slots P s) x.fillings h.order h.are x.are));
          given = λ v k p a. let x = (row v).0 p in rw x.is (object_given x.fillings k x.are x.ends ((all.1.0.each k).0 a));
          alike_same_key = λ v w p r. (objects_alike v w p r).0;
          same_key_alike = λ v w p r. (objects_alike v w p r).1;
        },
        all.1.1,
      )

-- each part at an object that does not accept null is an object
only_objects : PartLaws → (P : Pools) (s : Site) → IsNode s.node → sort_of s ≡ Row → admits_null P s ≡ false → (v : Data) → IsPart P s v ↔ IsObjectPart P s v
only_objects laws P s o row never v = let r = laws.row P s v o row in ((λ p. elim (r.0 p) [ inl null ↦ let no = sym null.1 ∙ never in absurd (cc) | inr x ↦ x ]), λ x. r.1 (inr x))

pub own_keys : StoredLaw → (P : Pools) (path : List ℕ) (N : Node) (keys : List (List ℕ)) → IsNode N → HasKeys N keys → AreKeySlots P (slots_at P path N keys)
own_keys stored P path (node n t (object fs preserves type b cs)) keys o h = (have_keys stored P fs path keys (named cs) o h.2).are
own_keys stored P path N keys o h = absurd h

-- the items of a map list are alike exactly where they have the same under all keys
pub map_alike : StoredLaw → PartLaws → (e : Equality) (P : Pools) (path : List ℕ) (own : List (List ℕ)) (n : Bool) (t : Option (List ℕ)) (N : Node) (keys : List (List ℕ)) (b : Bounds) → IsNode N → HasKeys N keys
    → AreMapItems P (record { node = node n t (list N (Map e) keys b); keys = own; path = path; fixed = None }) (record { node = N; keys = keys; path = below path step.item; fixed = None })
map_alike stored laws e P path own n t (node m u (object fs preserves type c cs)) keys b o h =
    let s : Site = record { node = node m u (object fs preserves type c cs); keys = keys; path = below path step.item; fixed = None } in
    let law = only_objects laws P s o refl (rw h.0 refl) in
    let have = have_keys stored P fs (below path step.item) keys (named cs) o h.2 in
    record {
      row = refl;
      never_null = rw h.0 refl;
      alike = objects_alike P s law e keys have;
      most = λ ds counts are apart count. let k = objects_keyed P s law e keys have counts count in at_most k.0 (product counts) k.1 ds are apart;
    }
map_alike stored laws e P path own n t N keys b o h = absurd h

pub map_keyed : StoredLaw → PartLaws → (e : Equality) (P : Pools) (fixed : Option (List Data)) (path : List ℕ) (N : Node) (keys : List (List ℕ)) (counts : List ℕ) → fixed ≡ None → IsNode N → HasKeys N keys → AreCounts P (filter is_key (slots P (record { node = N; keys = keys; path = path; fixed = fixed }))) counts
    → (K : Keyed P (record { node = N; keys = keys; path = path; fixed = fixed }) (are_alike (Map e) keys)) × (length K.keys ≡ product counts)
map_keyed stored laws e P None path (node n t (object fs preserves type b cs)) keys counts free o h count =
    let s : Site = record { node = node n t (object fs preserves type b cs); keys = keys; path = path; fixed = None } in
    objects_keyed P s (only_objects laws P s o refl (rw h.0 refl)) e keys (have_keys stored P fs path keys (named cs) o h.2) counts count
map_keyed stored laws e P None path N keys counts free o h count = absurd h
map_keyed stored laws e P (Some ds) path N keys counts free o h count = absurd (cc)
