-- The parts of a site, one level at a time, from what stored objects are and from what is over the pools.
use Rattle.std.proofs.Common.{◌≡◌, ◌⊎◌, ◌↔◌, ◌≤◌, ℕ, zero, suc, List, [], ◌∷◌, Bool, true, false, Option, Some, None, refl, ap, sym, ◌∙◌, subst, inl, inr, arith}
use Rattle.std.specs.Prelude.{option_map, ◌&&◌, ◌||◌, not, is_some, map, max, unwrap_or}
use Rattle.std.specs.Str.{bytes_eq}
use Rattle.std.specs.declared.cmp.Ordering.TheVariants.{Less}
use Rattle.std.proofs.lemmas.Bool.{ltb-true, ltb-false, lt-ltb, le-ltb}
use Rattle.std.proofs.lemmas.Option.{same_Some}
use Rattle.std.proofs.lemmas.Cmp.{nat_list_cmp_total}
use Rattle.jtree.specs.Data.{Data, Items, no_items, item, Members, no_members, member, IsTree, AreTrees, AreMembers}
use Rattle.jtree.specs.Data as tree
use Rattle.jtree.specs.Order.{text_cmp}
use Rattle.jtree.specs.Path.{Step, name, index, member_at, item_at, part_by}
use Rattle.jtree.specs.Internal.Lookups.{bool_cases, option_cases, same_name, own_name, member_first, member_later, member_tail, later_name}
use Rattle.jtree.specs.Internal.Rising.{Among, contained}
use Rattle.schema.specs.Document.Texts.{is_among}
use Rattle.schema.specs.Nodes.Node.{Node, node, Sort, scalar, object, list, open_, Fields, no_fields, field, Validations, IsNode, IsBeforeFields, AreOrdered}
use Rattle.schema.specs.Nodes.Node as nodes
use Rattle.schema.specs.Nodes.ByPlace.{Declared, field_at, node_below}
use Rattle.schema.specs.declared.node.Bounds.{Bounds}
use Rattle.schema.specs.declared.node.MapType.{MapType}
use Rattle.schema.specs.declared.node.ListType.{ListType}
use Rattle.stored.specs.Objects.Fault as fault
use Rattle.stored.specs.Objects.Becomes.{IsStored}
use Rattle.stored.specs.Objects.Tests.{is_below, has_member, meets_presence}
use Rattle.stored.specs.Objects.StoredByParts.{IsStoredField, are_apart, IsWithin}
use Rattle.plan.specs.Pools.Pools.{Pools, fixed_at, is_present}
use Rattle.explain.specs.Paths.FieldPath.{FieldStep, place_step, place_of}
use Rattle.explain.specs.Paths.FieldPath as step
use Rattle.plan.specs.Samples.Leasts.{leasts}
use Rattle.plan.specs.Samples.Over.{is_in, is_over_here, asks_field, has_present, has_enough, all_names, StepFollows, IsOver}
use Rattle.plan.specs.Samples.Site.{fixed_below}
use Rattle.plan.specs.Samples.Part.{IsPart}
use Rattle.plan.specs.Samples.Sites.{Site, plain, below, where_fixed, fixed_item, item_site, item_keys, slots, Slot, field_slots, value_slot}
use Rattle.plan.specs.Samples.Names.{in_order}
use Rattle.plan.specs.Samples.Presence.{named}
use Rattle.plan.specs.Samples.RuleOfParts.{AreParts, IsNullPart}
use Rattle.plan.specs.Samples.Candidates.{sort_at}
use Rattle.plan.specs.Samples.Keys.{AreInOrder}
use Rattle.plan.specs.Samples.Sizes.{raised, ending_of}
use Rattle.plan.specs.Internal.Laws.{StoredLaw}
use Rattle.plan.specs.Internal.PartLaws.{IsObjectPart, IsItemsPart, PartLaws}
use Rattle.plan.specs.declared.sort.Sort.TheVariants.{Leaf, Row}
use Rattle.plan.proofs.FillingLemmas.{AreInSlots, in_members, in_slots, fill}
use Rattle.plan.proofs.NameLemmas.{AreNamesInOrder, in_order_rising, in_order_has, in_order_only}
use Rattle.plan.proofs.SeenLemmas.{HaveBits, field_bits, value_bits, ends_in}

-- ---- over the pools, one level at a time

-- the parts one step below a value at its node are over the pools
abbrev ArePartsOver : Pools → List ℕ → Node → Data → Type 0
ArePartsOver P path N v = (s : Step) (t : FieldStep) (M : Node) (w : Data) → StepFollows s t → node_below N (place_step t) ≡ Some M → part_by v s ≡ Some w → IsOver P (fixed_below P path N t) (below path t) M w

over_down : (P : Pools) (path : List ℕ) (N : Node) (v : Data) → IsOver P None path N v → (is_over_here P path N v ≡ true) × ArePartsOver P path N v
over_down P path N v h = (h [] [], λ s t M w follows leads found rest p. h (s ∷ rest) (t ∷ p) M w follows leads found)

over_up : (P : Pools) (path : List ℕ) (N : Node) (v : Data) → is_over_here P path N v ≡ true → ArePartsOver P path N v → IsOver P None path N v
over_up P path N v here parts [] [] = here
over_up P path N v here parts [] (t ∷ p) = tt
over_up P path N v here parts (s ∷ rest) [] = tt
over_up P path N v here parts (s ∷ rest) (t ∷ p) = λ M w follows leads found. parts s t M w follows leads found rest p

-- ---- names

or_true : (b : Bool) → (b || true) ≡ true
or_true true = refl
or_true false = refl

both : (a b : Bool) → (a && b) ≡ true → (a ≡ true) × (b ≡ true)
both true b e = (refl, e)
both false b e = absurd (cc)

pub each_name : (test : List ℕ → Bool) (ms : Members) → all_names test ms ≡ true → (k : List ℕ) (w : Data) → member_at k ms ≡ Some w → test k ≡ true
each_name test no_members all k w is = absurd (cc)
each_name test (member l d ms) all k w is =
    let these = both (test l) (all_names test ms) all in
    elim (bool_cases (bytes_eq k l)) [
      | inl t ↦ rw (same_name k l t) these.0
      | inr o ↦ each_name test ms these.1 k w (sym (member_later k l d ms o) ∙ is)
    ]

pub names_pass : (test : List ℕ → Bool) (ms : Members) → AreMembers ms → ((k : List ℕ) (w : Data) → member_at k ms ≡ Some w → test k ≡ true) → all_names test ms ≡ true
names_pass test no_members members h = refl
names_pass test (member l d ms) members h =
    let first = h l d (member_first l d ms) in
    let rest = names_pass test ms members.2 (λ k w is. h k w (member_tail l d ms k w members is)) in
    rw (first, rest) refl

pub member_tree : (k : List ℕ) (ms : Members) (w : Data) → AreMembers ms → member_at k ms ≡ Some w → IsTree w
member_tree k no_members w members is = absurd (cc)
member_tree k (member l d ms) w members is = elim (bool_cases (bytes_eq k l)) [
  | inl t ↦ subst IsTree (same_Some d w (rw t at is)) members.0
  | inr o ↦ member_tree k ms w members.2 (sym (member_later k l d ms o) ∙ is)
]

-- ---- the slots of an object

abbrev IsSlotOf : Pools → List ℕ → List ℕ → Declared → Slot → Type 0
IsSlotOf P path k f s = (s.name ≡ k) × (s.site ≡ plain P (below path (step.field k)) f.node) × (s.must ≡ ((f.required || is_some f.default) || is_present (below path (step.field k)) P))

pub slot_of_field : (P : Pools) (path : List ℕ) (keys names : List (List ℕ)) (fs : Fields) (k : List ℕ) (f : Declared) → field_at k fs ≡ Some f → (s : Slot) × (Among (field_slots P path keys names fs) s × IsSlotOf P path k f s)
slot_of_field P path keys names no_fields k f is = absurd (cc)
slot_of_field P path keys names (field l N required default fs) k f is = elim (bool_cases (bytes_eq k l)) [
  | inl t ↦
      let same = same_Some (record { node = N; required = required; default = default }) f (rw t at is) in
      (_, (inl refl, (sym (same_name k l t), subst (λ n. plain P (below path (step.field l)) N ≡ plain P (below path (step.field n)) f.node) (sym (same_name k l t)) (ap (λ g. plain P (below path (step.field l)) g.node) same), ap (λ g. (g.required || is_some g.default) || is_present (below path (step.field l)) P) same ∙ ap (λ n. (f.required || is_some f.default) || is_present (below path (step.field n)) P) (sym (same_name k l t)))))
  | inr o ↦ let r = slot_of_field P path keys names fs k f (rw o at is) in (r.0, (inr r.1.0, r.1.1))
]

before_slots : (P : Pools) (path : List ℕ) (keys names : List (List ℕ)) (k : List ℕ) (fs : Fields) → IsBeforeFields k fs → AreOrdered fs → (s : Slot) → Among (field_slots P path keys names fs) s → text_cmp k s.name ≡ Less
before_slots P path keys names k no_fields before o s a = absurd a
before_slots P path keys names k (field l N required default fs) before o s (inl e) = subst (λ t. text_cmp k (Slot.name t) ≡ Less) e before
before_slots P path keys names k (field l N required default fs) before o s (inr a) = nat_list_cmp_total.trans k l s.name before (before_slots P path keys names l fs o.1 o.2 s a)

pub field_of_slot : (P : Pools) (path : List ℕ) (keys names : List (List ℕ)) (fs : Fields) → AreOrdered fs → (s : Slot) → Among (field_slots P path keys names fs) s → (f : Declared) × ((field_at s.name fs ≡ Some f) × IsSlotOf P path s.name f s)
field_of_slot P path keys names no_fields o s a = absurd a
field_of_slot P path keys names (field l N required default fs) o s (inl e) =
    let own : bytes_eq s.name l ≡ true = subst (λ t. bytes_eq (Slot.name t) l ≡ true) e (own_name l) in
    (record { node = N; required = required; default = default }, (rw own refl, (refl, subst (λ t. Slot.site t ≡ plain P (below path (step.field (Slot.name t))) N) e refl, subst (λ t. Slot.must t ≡ ((required || is_some default) || is_present (below path (step.field (Slot.name t))) P)) e refl)))
field_of_slot P path keys names (field l N required default fs) o s (inr a) =
    let r = field_of_slot P path keys names fs o.2 s a in
    let other = later_name s.name l (before_slots P path keys names l fs o.1 o.2 s a) in
    (r.0, (rw other r.1.0, r.1.1))

pub fields_in_order : (P : Pools) (path : List ℕ) (keys names : List (List ℕ)) (fs : Fields) → AreOrdered fs → AreInOrder (field_slots P path keys names fs)
fields_in_order P path keys names no_fields o = tt
fields_in_order P path keys names (field l N required default fs) o = ((λ s c. before_slots P path keys names l fs o.1 o.2 s (contained (field_slots P path keys names fs) s c)), fields_in_order P path keys names fs o.2)

-- ---- objects

node_from : (o : Option Declared) (M : Node) → option_map (λ f. f.node) o ≡ Some M → (f : Declared) × ((o ≡ Some f) × (f.node ≡ M))
node_from None M e = absurd (cc)
node_from (Some f) M e = (f, (refl, same_Some f.node M e))

declared : (o : Option Declared) → is_some o ≡ true → (f : Declared) × (o ≡ Some f)
declared None e = absurd (cc)
declared (Some f) e = (f, refl)

and_true : (a b : Bool) → a ≡ true → b ≡ true → (a && b) ≡ true
and_true a b p q = rw (p, q) refl

above_least : (least : Option ℕ) (n : ℕ) → (is_below least n ≡ false) ↔ (unwrap_or least 0 ≤ n)
above_least None n = ((λ e. omega arith), λ l. refl)
above_least (Some m) n = ((λ e. ltb-false n m e), λ l. le-ltb n m l)

-- bounds that ask for one are met where the others are, and there is one
raised_within : (asked : Bool) (b : Bounds) (n : ℕ) → IsWithin (raised asked b) n ↔ (IsWithin b n × (has_enough asked n ≡ true))
raised_within false b n = ((λ h. (h, refl)), λ h. h.0)
raised_within true b n =
    let least = max (unwrap_or b.least 0) 1 in (
      (λ h. let l = ltb-false n least h.0 in (((above_least b.least n).1 (omega (arith, l)), h.1), lt-ltb 0 n (omega (arith, l)))),
      λ h. let l = (above_least b.least n).0 h.0.0 in let some = ltb-true 0 n h.1 in (le-ltb n least (omega (arith, l, some)), h.0.1),
    )

not_or_false : (b : Bool) → (not b || false) ≡ true → b ≡ false
not_or_false true e = absurd (cc)
not_or_false false e = refl

-- where a field is absent, the pools do not ask for it
absent_field : (P : Pools) (path : List ℕ) (fs : Fields) (ms : Members) → has_present P path fs ms ≡ true → (k : List ℕ) (f : Declared) → field_at k fs ≡ Some f → member_at k ms ≡ None → is_present (below path (step.field k)) P ≡ false
absent_field P path no_fields ms h k f is none = absurd (cc)
absent_field P path (field l N required default fs) ms h k f is none =
    let these = both (not (is_present (below path (step.field l)) P) || is_some (member_at l ms)) (has_present P path fs ms) h in
    elim (bool_cases (bytes_eq k l)) [
      | inl t ↦ not_or_false (is_present (below path (step.field k)) P) (rw none at (subst (λ n. (not (is_present (below path (step.field n)) P) || is_some (member_at n ms)) ≡ true) (sym (same_name k l t)) these.0))
      | inr o ↦ absent_field P path fs ms these.1 k f (rw o at is) none
    ]

-- where no slot that has to be filled is empty, each field is there that the pools ask for
all_present : (P : Pools) (path : List ℕ) (keys names : List (List ℕ)) (fs : Fields) (ms : Members) → ((s : Slot) → Among (field_slots P path keys names fs) s → s.must ≡ true → member_at s.name ms ≡ None → ⊥) → has_present P path fs ms ≡ true
all_present P path keys names no_fields ms h = refl
all_present P path keys names (field l N required default fs) ms h =
    let rest = all_present P path keys names fs ms (λ s a. h s (inr a)) in
    elim (bool_cases (is_present (below path (step.field l)) P)) [
      | inl t ↦
          let have : is_some (member_at l ms) ≡ true = elim (option_cases (member_at l ms)) [
            | inl none ↦ absurd (h _ (inl refl) (rw t (or_true (required || is_some default))) none)
            | inr w ↦ rw w.1 refl
          ] in
          rw (t, have, rest) refl
      | inr o ↦ rw (o, rest) refl
    ]

pub object_down : StoredLaw → (P : Pools) (n : Bool) (t : Option (List ℕ)) (fs : Fields) (preserves : Bool) (type : MapType) (b : Bounds) (cs : Validations) (path : List ℕ) (keys : List (List ℕ)) (ms : Members) → AreOrdered fs
    → IsPart P (record { node = node n t (object fs preserves type b cs); keys = keys; path = path; fixed = None }) (tree.object ms) → AreMembers ms × AreInSlots P (field_slots P path keys (named cs) fs) ms × (IsWithin b (fault.members_count ms) × (meets_presence cs (has_member ms) ≡ true))
object_down stored P n t fs preserves type b cs path keys ms o h =
    let parts = (stored _ _).0 h.stored in
    let over = over_down P _ _ _ h.over in
    let here = both (all_names (λ l. is_some (field_at l fs)) ms) (has_present P path fs ms) over.0 in (
      h.tree,
      record {
        named = λ k w is.
            let f = declared (field_at k fs) (each_name (λ l. is_some (field_at l fs)) ms here.0 k w is) in
            let s = slot_of_field P path keys (named cs) fs k f.0 f.1 in
            let here : IsStored f.0.node w = rw is at (parts.1.1 k f.0 f.1) in
            let part : IsPart P (plain P (below path (step.field k)) f.0.node) w = record { tree = member_tree k ms w h.tree is; stored = here; over = over.1 (name k) (step.field k) f.0.node w refl (ap (option_map (λ g. g.node)) f.1) is } in
            (s.0, s.1.0, s.1.1.0, subst (λ K. IsPart P K w) (sym s.1.1.1) part);
        present = λ s a must none.
            let f = field_of_slot P path keys (named cs) fs o s a in
            let free = rw none at (parts.1.1 s.name f.0 f.1.0) in
            let no : true ≡ false = sym must ∙ f.1.1.2 ∙ rw (free.0, free.1, absent_field P path fs ms here.1 s.name f.0 f.1.0 none) refl in
            cc;
      },
      parts.0,
    )

-- the value under the name of a field is a part of its node
field_part : (P : Pools) (path : List ℕ) (keys names : List (List ℕ)) (fs : Fields) (ms : Members) → AreOrdered fs → AreInSlots P (field_slots P path keys names fs) ms → (k : List ℕ) (w : Data) → member_at k ms ≡ Some w → (f : Declared) × ((field_at k fs ≡ Some f) × IsPart P (plain P (below path (step.field k)) f.node) w)
field_part P path keys names fs ms o h k w is =
    let s = h.named k w is in
    let f = field_of_slot P path keys names fs o s.0 s.1 in
    let here : IsPart P (plain P (below path (step.field s.0.name)) f.0.node) w = subst (λ N. IsPart P N w) f.1.1.1 s.3 in
    (f.0, subst (λ l. (field_at l fs ≡ Some f.0) × IsPart P (plain P (below path (step.field l)) f.0.node) w) s.2 (f.1.0, here))

part_of_field : (P : Pools) (path : List ℕ) (keys names : List (List ℕ)) (fs : Fields) (ms : Members) → AreOrdered fs → AreInSlots P (field_slots P path keys names fs) ms → (k : List ℕ) (f : Declared) (w : Data) → field_at k fs ≡ Some f → member_at k ms ≡ Some w → IsPart P (plain P (below path (step.field k)) f.node) w
part_of_field P path keys names fs ms o h k f w is found =
    let g = field_part P path keys names fs ms o h k w found in
    subst (λ x. IsPart P (plain P (below path (step.field k)) (Declared.node x)) w) (same_Some g.0 f (sym g.1.0 ∙ is)) g.1.1

neither : (a b : Bool) → (a || b) ≡ false → (a ≡ false) × (b ≡ false)
neither true b e = absurd (cc)
neither false b e = (refl, e)

is_none_of : {A : Type 0} (o : Option A) → is_some o ≡ false → o ≡ None
is_none_of None e = refl
is_none_of (Some x) e = absurd (cc)

field_stored : (P : Pools) (path : List ℕ) (keys names : List (List ℕ)) (fs : Fields) (ms : Members) → AreOrdered fs → AreInSlots P (field_slots P path keys names fs) ms → (k : List ℕ) (f : Declared) → field_at k fs ≡ Some f → IsStoredField f (member_at k ms)
field_stored P path keys names fs ms o h k f is = elim (option_cases (member_at k ms)) [
  | inl none ↦
      let s = slot_of_field P path keys names fs k f is in
      let free : ((f.required || is_some f.default) || is_present (below path (step.field k)) P) ≡ false = elim (bool_cases s.0.must) [
        | inl must ↦ absurd (h.present s.0 s.1.0 must (subst (λ l. member_at l ms ≡ None) (sym s.1.1.0) none))
        | inr e ↦ sym s.1.1.2 ∙ e
      ] in
      let e = neither f.required (is_some f.default) (neither (f.required || is_some f.default) (is_present (below path (step.field k)) P) free).0 in
      rw none (e.0, is_none_of f.default e.1)
  | inr w ↦ rw w.1 (part_of_field P path keys names fs ms o h k f w.0 is w.1).stored
]

object_parts_over : (P : Pools) (n : Bool) (t : Option (List ℕ)) (fs : Fields) (preserves : Bool) (type : MapType) (b : Bounds) (cs : Validations) (path : List ℕ) (keys : List (List ℕ)) (ms : Members) → AreOrdered fs
    → AreInSlots P (field_slots P path keys (named cs) fs) ms → ArePartsOver P path (node n t (object fs preserves type b cs)) (tree.object ms)
object_parts_over P n t fs preserves type b cs path keys ms o h (name k) (step.field l) M w same leads found =
    let f = node_from (field_at l fs) M leads in
    let here = subst (λ j. member_at j ms ≡ Some w) same found in
    subst (λ K. IsOver P (fixed_at (below path (step.field l)) P) (below path (step.field l)) K w) f.1.1 (part_of_field P path keys (named cs) fs ms o h l f.0 w f.1.0 here).over
object_parts_over P n t fs preserves type b cs path keys ms o h (name k) step.item M w follows leads found = absurd follows
object_parts_over P n t fs preserves type b cs path keys ms o h (name k) step.value M w follows leads found = absurd (cc)
object_parts_over P n t fs preserves type b cs path keys ms o h (index i) s M w follows leads found = absurd (cc)

pub object_up : StoredLaw → (P : Pools) (n : Bool) (t : Option (List ℕ)) (fs : Fields) (preserves : Bool) (type : MapType) (b : Bounds) (cs : Validations) (path : List ℕ) (keys : List (List ℕ)) (ms : Members) → AreOrdered fs
    → AreMembers ms → AreInSlots P (field_slots P path keys (named cs) fs) ms → IsWithin b (fault.members_count ms) × (meets_presence cs (has_member ms) ≡ true) → IsPart P (record { node = node n t (object fs preserves type b cs); keys = keys; path = path; fixed = None }) (tree.object ms)
object_up stored P n t fs preserves type b cs path keys ms o members h within = record {
  tree = members;
  stored = (stored _ _).1 (
    within,
    (
      (λ k none others. elim (option_cases (member_at k ms)) [
        | inl gone ↦ gone
        | inr w ↦ let f = field_part P path keys (named cs) fs ms o h k w.0 w.1 in let no = sym none ∙ f.1.0 in absurd (cc)
      ]),
      field_stored P path keys (named cs) fs ms o h,
    ),
  );
  over = over_up P _ _ _ (rw (names_pass (λ l. is_some (field_at l fs)) ms members (λ k w is. let f = field_part P path keys (named cs) fs ms o h k w is in rw f.1.0 refl), all_present P path keys (named cs) fs ms h.present) refl) (object_parts_over P n t fs preserves type b cs path keys ms o h);
}

-- ---- maps

pub among_name : (k : List ℕ) (ls : List (List ℕ)) → is_among k ls ≡ true → Among ls k
among_name k [] e = absurd (cc)
among_name k (l ∷ ls) e = elim (bool_cases (bytes_eq k l)) [
  | inl t ↦ inl (sym (same_name k l t))
  | inr o ↦ inr (among_name k ls (rw o at e))
]

pub name_among : (k : List ℕ) (ls : List (List ℕ)) → Among ls k → is_among k ls ≡ true
name_among k [] a = absurd a
name_among k (l ∷ ls) (inl e) = rw (e, own_name k) refl
name_among k (l ∷ ls) (inr a) = rw (name_among k ls a) (or_true (bytes_eq k l))

value_slot_of : (P : Pools) (path : List ℕ) (N : Node) (ks : List (List ℕ)) (k : List ℕ) → Among ks k → Among (map (value_slot P path N) ks) (value_slot P path N k)
value_slot_of P path N [] k a = absurd a
value_slot_of P path N (l ∷ ks) k (inl e) = inl (ap (value_slot P path N) e)
value_slot_of P path N (l ∷ ks) k (inr a) = inr (value_slot_of P path N ks k a)

pub name_of_value_slot : (P : Pools) (path : List ℕ) (N : Node) (ks : List (List ℕ)) (s : Slot) → Among (map (value_slot P path N) ks) s → (k : List ℕ) × (Among ks k × (value_slot P path N k ≡ s))
name_of_value_slot P path N [] s a = absurd a
name_of_value_slot P path N (l ∷ ks) s (inl e) = (l, (inl refl, e))
name_of_value_slot P path N (l ∷ ks) s (inr a) = let r = name_of_value_slot P path N ks s a in (r.0, (inr r.1.0, r.1.1))

value_slots_in_order : (P : Pools) (path : List ℕ) (N : Node) (ks : List (List ℕ)) → AreNamesInOrder ks → AreInOrder (map (value_slot P path N) ks)
value_slots_in_order P path N [] o = tt
value_slots_in_order P path N (k ∷ ks) o = ((λ s c. let r = name_of_value_slot P path N ks s (contained (map (value_slot P path N) ks) s c) in subst (λ t. text_cmp k (Slot.name t) ≡ Less) r.1.1 (o.0 r.0 r.1.0)), value_slots_in_order P path N ks o.1)

pub values_in_order : (P : Pools) (path : List ℕ) (N : Node) (ks : List (List ℕ)) → AreInOrder (map (value_slot P path N) (in_order ks))
values_in_order P path N ks = value_slots_in_order P path N (in_order ks) (in_order_rising ks)

abbrev MapSlots : Pools → List ℕ → Node → List Slot
MapSlots P path M = map (value_slot P path M) (in_order P.names)

-- the value under a name of the pools is a part of the site of values
value_part : (P : Pools) (path : List ℕ) (M : Node) (ms : Members) → AreInSlots P (MapSlots P path M) ms → (k : List ℕ) (w : Data) → member_at k ms ≡ Some w → (is_among k P.names ≡ true) × IsPart P (plain P (below path step.value) M) w
value_part P path M ms h k w is =
    let s = h.named k w is in
    let r = name_of_value_slot P path M (in_order P.names) s.0 s.1 in
    let same : r.0 ≡ k = ap (λ t. Slot.name t) r.1.1 ∙ s.2 in
    (subst (λ l. is_among l P.names ≡ true) same (name_among r.0 P.names (in_order_only P.names r.0 r.1.0)), subst (λ t. IsPart P (Slot.site t) w) (sym r.1.1) s.3)

pub map_down : StoredLaw → (P : Pools) (path : List ℕ) (keys : List (List ℕ)) (n : Bool) (t : Option (List ℕ)) (M : Node) (type : MapType) (b : Bounds) (ms : Members)
    → IsPart P (record { node = node n t (nodes.map M type b); keys = keys; path = path; fixed = None }) (tree.object ms) → AreMembers ms × AreInSlots P (MapSlots P path M) ms × IsWithin (raised (is_present (below path step.value) P) b) (fault.members_count ms)
map_down stored P path keys n t M type b ms h =
    let parts = (stored _ _).0 h.stored in
    let over = over_down P _ _ _ h.over in
    let asked = is_present (below path step.value) P in
    let here = both (all_names (λ l. is_among l P.names) ms) (has_enough asked (fault.members_count ms)) over.0 in (
      h.tree,
      record {
        named = λ k w is. (
          value_slot P path M k,
          value_slot_of P path M (in_order P.names) k (in_order_has P.names k (among_name k P.names (each_name (λ l. is_among l P.names) ms here.0 k w is))),
          refl,
          record { tree = member_tree k ms w h.tree is; stored = parts.1 k w is; over = over.1 (name k) step.value M w tt refl is },
        );
        present = λ s a must none. let r = name_of_value_slot P path M (in_order P.names) s a in let no : false ≡ true = ap (λ t. Slot.must t) r.1.1 ∙ must in cc;
      },
      (raised_within asked b (fault.members_count ms)).1 (parts.0, here.1),
    )

map_parts_over : (P : Pools) (path : List ℕ) (n : Bool) (t : Option (List ℕ)) (M : Node) (type : MapType) (b : Bounds) (ms : Members) → AreInSlots P (MapSlots P path M) ms → ArePartsOver P path (node n t (nodes.map M type b)) (tree.object ms)
map_parts_over P path n t M type b ms h (name k) step.value K w follows leads found = subst (λ J. IsOver P (fixed_at (below path step.value) P) (below path step.value) J w) (same_Some M K leads) (value_part P path M ms h k w found).1.over
map_parts_over P path n t M type b ms h (name k) step.item K w follows leads found = absurd follows
map_parts_over P path n t M type b ms h (name k) (step.field l) K w follows leads found = absurd (cc)
map_parts_over P path n t M type b ms h (index i) s K w follows leads found = absurd (cc)

pub map_up : StoredLaw → (P : Pools) (path : List ℕ) (keys : List (List ℕ)) (n : Bool) (t : Option (List ℕ)) (M : Node) (type : MapType) (b : Bounds) (ms : Members)
    → AreMembers ms → AreInSlots P (MapSlots P path M) ms → IsWithin (raised (is_present (below path step.value) P) b) (fault.members_count ms) → IsPart P (record { node = node n t (nodes.map M type b); keys = keys; path = path; fixed = None }) (tree.object ms)
map_up stored P path keys n t M type b ms members h within =
    let bounds = (raised_within (is_present (below path step.value) P) b (fault.members_count ms)).0 within in
    record {
      tree = members;
      stored = (stored _ _).1 (bounds.0, λ k w is. (value_part P path M ms h k w is).1.stored);
      over = over_up P _ _ _ (and_true _ _ (names_pass (λ l. is_among l P.names) ms members (λ k w is. (value_part P path M ms h k w is).0)) bounds.1) (map_parts_over P path n t M type b ms h);
    }

-- ---- lists

items_parts : (P : Pools) (M : Site) (ds : Items) → AreTrees ds → ((i : ℕ) (w : Data) → item_at i ds ≡ Some w → IsStored M.node w × IsOver P M.fixed M.path M.node w) → AreParts P M ds
items_parts P M no_items trees h = tt
items_parts P M (item d ds) trees h =
    let first = h zero d refl in
    (record { tree = trees.0; stored = first.0; over = first.1 }, items_parts P M ds trees.1 (λ i w is. h (suc i) w is))

part_at_index : (P : Pools) (M : Site) (ds : Items) (i : ℕ) (w : Data) → AreParts P M ds → item_at i ds ≡ Some w → IsPart P M w
part_at_index P M no_items i w h is = absurd (cc)
part_at_index P M (item d ds) zero w h is = subst (IsPart P M) (same_Some d w is) h.0
part_at_index P M (item d ds) (suc i) w h is = part_at_index P M ds i w h.1 is

items_trees : (P : Pools) (M : Site) (ds : Items) → AreParts P M ds → AreTrees ds
items_trees P M no_items h = tt
items_trees P M (item d ds) h = (h.0.tree, items_trees P M ds h.1)

abbrev item_of : Pools → ListType → List ℕ → Node → List (List ℕ) → Site
item_of P type path K names = record { node = K; keys = names; path = below path step.item; fixed = fixed_item P type (below path step.item) }

list_down : StoredLaw → (P : Pools) (path : List ℕ) (own : List (List ℕ)) (n : Bool) (t : Option (List ℕ)) (K : Node) (names : List (List ℕ)) (type : ListType) (keys : List (List ℕ)) (b : Bounds) (ds : Items)
    → IsPart P (record { node = node n t (list K type keys b); keys = own; path = path; fixed = None }) (tree.list ds) → AreParts P (item_of P type path K names) ds × (are_apart (fault.are_alike type keys) ds ≡ true) × IsWithin (raised (is_present (below path step.item) P) b) (fault.items_count ds)
list_down stored P path own n t K names type keys b ds h =
    let parts = (stored _ _).0 h.stored in
    let over = over_down P _ _ _ h.over in
    (items_parts P (item_of P type path K names) ds h.tree (λ i w is. (parts.1 i w is, over.1 (index i) step.item K w tt refl is)), parts.0.1, (raised_within (is_present (below path step.item) P) b (fault.items_count ds)).1 (parts.0.0, over.0))

list_parts_over : (P : Pools) (path : List ℕ) (n : Bool) (t : Option (List ℕ)) (K : Node) (names : List (List ℕ)) (type : ListType) (keys : List (List ℕ)) (b : Bounds) (ds : Items) → AreParts P (item_of P type path K names) ds
    → ArePartsOver P path (node n t (list K type keys b)) (tree.list ds)
list_parts_over P path n t K names type keys b ds h (index i) step.item M w follows leads found =
    subst (λ J. IsOver P (fixed_item P type (below path step.item)) (below path step.item) J w) (same_Some K M leads) (part_at_index P (item_of P type path K names) ds i w h found).over
list_parts_over P path n t K names type keys b ds h (index i) (step.field l) M w follows leads found = absurd follows
list_parts_over P path n t K names type keys b ds h (index i) step.value M w follows leads found = absurd follows
list_parts_over P path n t K names type keys b ds h (name k) s M w follows leads found = absurd (cc)

list_up : StoredLaw → (P : Pools) (path : List ℕ) (own : List (List ℕ)) (n : Bool) (t : Option (List ℕ)) (K : Node) (names : List (List ℕ)) (type : ListType) (keys : List (List ℕ)) (b : Bounds) (ds : Items)
    → AreParts P (item_of P type path K names) ds → are_apart (fault.are_alike type keys) ds ≡ true → IsWithin (raised (is_present (below path step.item) P) b) (fault.items_count ds) → IsPart P (record { node = node n t (list K type keys b); keys = own; path = path; fixed = None }) (tree.list ds)
list_up stored P path own n t K names type keys b ds h apart within =
    let bounds = (raised_within (is_present (below path step.item) P) b (fault.items_count ds)).0 within in
    record {
      tree = items_trees P (item_of P type path K names) ds h;
      stored = (stored _ _).1 ((bounds.0, apart), λ i w is. (part_at_index P (item_of P type path K names) ds i w h is).stored);
      over = over_up P _ _ _ bounds.1 (list_parts_over P path n t K names type keys b ds h);
    }

-- ---- all of it

-- a null that is stored has no parts
null_part : (P : Pools) (N : Node) (keys : List (List ℕ)) (path : List ℕ) → IsStored N tree.null → is_over_here P path N tree.null ≡ true → IsPart P (record { node = N; keys = keys; path = path; fixed = None }) tree.null
null_part P N keys path here over = record { tree = tt; stored = here; over = over_up P path N tree.null over (λ s t M w follows leads found. absurd (cc)) }

-- an object whose slots hold parts
filled_object : (P : Pools) (s : Site) (ms : Members) → AreInOrder (slots P s) → HaveBits (named (ending_of P s).asked) (slots P s) → AreMembers ms → AreInSlots P (slots P s) ms
    → IsWithin (ending_of P s).bounds (fault.members_count ms) × (meets_presence (ending_of P s).asked (has_member ms) ≡ true) → IsObjectPart P s (tree.object ms)
filled_object P s ms o bits members h ends =
    let e = ending_of P s in
    let r = fill P (slots P s) ms o members h in
    record {
      fillings = r.0;
      is = ap tree.object r.2;
      are = r.1;
      ends = (ends_in e (slots P s) r.0 bits).1 (subst (λ ns. IsWithin e.bounds (fault.members_count ns) × (meets_presence e.asked (has_member ns) ≡ true)) r.2 ends);
    }

abbrev IsRowCase : Pools → Site → Data → Type 0
IsRowCase P s v = IsNullPart P s v ⊎ IsObjectPart P s v

object_cases : StoredLaw → (P : Pools) (path : List ℕ) (keys : List (List ℕ)) (n : Bool) (t : Option (List ℕ)) (fs : Fields) (preserves : Bool) (type : MapType) (b : Bounds) (cs : Validations) (v : Data) → AreOrdered fs
    → IsPart P (record { node = node n t (object fs preserves type b cs); keys = keys; path = path; fixed = None }) v → IsRowCase P (record { node = node n t (object fs preserves type b cs); keys = keys; path = path; fixed = None }) v
object_cases stored P path keys n t fs preserves type b cs tree.null o h = inl (refl, and_true n _ ((stored _ _).0 h.stored).0 (over_down P _ _ _ h.over).0)
object_cases stored P path keys n t fs preserves type b cs (tree.object ms) o h =
    let d = object_down stored P n t fs preserves type b cs path keys ms o h in
    inr (filled_object P (record { node = node n t (object fs preserves type b cs); keys = keys; path = path; fixed = None }) ms (fields_in_order P path keys (named cs) fs o) (field_bits P path keys (named cs) fs) d.0 d.1 d.2)
object_cases stored P path keys n t fs preserves type b cs (tree.boolean x) o h = absurd ((stored _ _).0 h.stored).0
object_cases stored P path keys n t fs preserves type b cs (tree.integer x) o h = absurd ((stored _ _).0 h.stored).0
object_cases stored P path keys n t fs preserves type b cs (tree.number x) o h = absurd ((stored _ _).0 h.stored).0
object_cases stored P path keys n t fs preserves type b cs (tree.text x) o h = absurd ((stored _ _).0 h.stored).0
object_cases stored P path keys n t fs preserves type b cs (tree.list x) o h = absurd ((stored _ _).0 h.stored).0

abbrev RowLaw : Pools → Site → Data → Type 0
RowLaw P s v = IsPart P s v ↔ IsRowCase P s v

object_row : StoredLaw → (P : Pools) (path : List ℕ) (keys : List (List ℕ)) (n : Bool) (t : Option (List ℕ)) (fs : Fields) (preserves : Bool) (type : MapType) (b : Bounds) (cs : Validations) (v : Data) → AreOrdered fs
    → RowLaw P (record { node = node n t (object fs preserves type b cs); keys = keys; path = path; fixed = None }) v
object_row stored P path keys n t fs preserves type b cs v o =
    let s : Site = record { node = node n t (object fs preserves type b cs); keys = keys; path = path; fixed = None } in
    let up : (u : Data) → IsRowCase P s u → IsPart P s u = λ u h. elim h as (λ _. IsPart P s u) [
      | inl null ↦ let admitted = both n (not (asks_field P path fs)) null.1 in rw null.0 (null_part P s.node keys path ((stored s.node tree.null).1 (admitted.0, tt)) admitted.1)
      | inr q ↦
          let members = in_members P (slots P s) q.fillings (fields_in_order P path keys (named cs) fs o) q.are in
          let inside = in_slots P (slots P s) q.fillings (fields_in_order P path keys (named cs) fs o) q.are in
          rw q.is (object_up stored P n t fs preserves type b cs path keys _ o members inside ((ends_in (ending_of P s) (slots P s) q.fillings (field_bits P path keys (named cs) fs)).0 q.ends))
    ] in
    (object_cases stored P path keys n t fs preserves type b cs v o, up v)

map_cases : StoredLaw → (P : Pools) (path : List ℕ) (keys : List (List ℕ)) (n : Bool) (t : Option (List ℕ)) (M : Node) (type : MapType) (b : Bounds) (v : Data)
    → IsPart P (record { node = node n t (nodes.map M type b); keys = keys; path = path; fixed = None }) v → IsRowCase P (record { node = node n t (nodes.map M type b); keys = keys; path = path; fixed = None }) v
map_cases stored P path keys n t M type b tree.null h = inl (refl, and_true n _ ((stored _ _).0 h.stored).0 (over_down P _ _ _ h.over).0)
map_cases stored P path keys n t M type b (tree.object ms) h =
    let d = map_down stored P path keys n t M type b ms h in
    inr (filled_object P (record { node = node n t (nodes.map M type b); keys = keys; path = path; fixed = None }) ms (values_in_order P path M P.names) (value_bits P path M (in_order P.names)) d.0 d.1 (d.2, refl))
map_cases stored P path keys n t M type b (tree.boolean x) h = absurd ((stored _ _).0 h.stored).0
map_cases stored P path keys n t M type b (tree.integer x) h = absurd ((stored _ _).0 h.stored).0
map_cases stored P path keys n t M type b (tree.number x) h = absurd ((stored _ _).0 h.stored).0
map_cases stored P path keys n t M type b (tree.text x) h = absurd ((stored _ _).0 h.stored).0
map_cases stored P path keys n t M type b (tree.list x) h = absurd ((stored _ _).0 h.stored).0

map_row : StoredLaw → (P : Pools) (path : List ℕ) (keys : List (List ℕ)) (n : Bool) (t : Option (List ℕ)) (M : Node) (type : MapType) (b : Bounds) (v : Data) → RowLaw P (record { node = node n t (nodes.map M type b); keys = keys; path = path; fixed = None }) v
map_row stored P path keys n t M type b v =
    let s : Site = record { node = node n t (nodes.map M type b); keys = keys; path = path; fixed = None } in
    let o = values_in_order P path M P.names in
    let up : (u : Data) → IsRowCase P s u → IsPart P s u = λ u h. elim h as (λ _. IsPart P s u) [
      | inl null ↦ let admitted = both n (not (is_present (below path step.value) P)) null.1 in rw null.0 (null_part P s.node keys path ((stored s.node tree.null).1 (admitted.0, tt)) admitted.1)
      | inr q ↦ rw q.is (map_up stored P path keys n t M type b _ (in_members P (slots P s) q.fillings o q.are) (in_slots P (slots P s) q.fillings o q.are) ((ends_in (ending_of P s) (slots P s) q.fillings (value_bits P path M (in_order P.names))).0 q.ends).0)
    ] in
    (map_cases stored P path keys n t M type b v, up v)

abbrev IsListCase : Pools → Site → Site → Data → Type 0
IsListCase P s M v = IsNullPart P s v ⊎ IsItemsPart P s M v

list_cases : StoredLaw → (P : Pools) (path : List ℕ) (own : List (List ℕ)) (n : Bool) (t : Option (List ℕ)) (K : Node) (names : List (List ℕ)) (type : ListType) (keys : List (List ℕ)) (b : Bounds) (v : Data)
    → IsPart P (record { node = node n t (list K type keys b); keys = own; path = path; fixed = None }) v → IsListCase P (record { node = node n t (list K type keys b); keys = own; path = path; fixed = None }) (item_of P type path K names) v
list_cases stored P path own n t K names type keys b tree.null h = inl (refl, and_true n _ ((stored _ _).0 h.stored).0 (over_down P _ _ _ h.over).0)
list_cases stored P path own n t K names type keys b (tree.list ds) h =
    let d = list_down stored P path own n t K names type keys b ds h in
    inr (record { items = ds; is = refl; are = d.0; apart = d.1; within = d.2 })
list_cases stored P path own n t K names type keys b (tree.boolean x) h = absurd ((stored _ _).0 h.stored).0
list_cases stored P path own n t K names type keys b (tree.integer x) h = absurd ((stored _ _).0 h.stored).0
list_cases stored P path own n t K names type keys b (tree.number x) h = absurd ((stored _ _).0 h.stored).0
list_cases stored P path own n t K names type keys b (tree.text x) h = absurd ((stored _ _).0 h.stored).0
list_cases stored P path own n t K names type keys b (tree.object x) h = absurd ((stored _ _).0 h.stored).0

list_up_cases : StoredLaw → (P : Pools) (path : List ℕ) (own : List (List ℕ)) (n : Bool) (t : Option (List ℕ)) (K : Node) (names : List (List ℕ)) (type : ListType) (keys : List (List ℕ)) (b : Bounds) (v : Data)
    → IsListCase P (record { node = node n t (list K type keys b); keys = own; path = path; fixed = None }) (item_of P type path K names) v → IsPart P (record { node = node n t (list K type keys b); keys = own; path = path; fixed = None }) v
list_up_cases stored P path own n t K names type keys b v (inl null) =
    let admitted = both n (not (is_present (below path step.item) P)) null.1 in rw null.0 (null_part P _ own path ((stored _ tree.null).1 (admitted.0, tt)) admitted.1)
list_up_cases stored P path own n t K names type keys b v (inr q) = rw q.is (list_up stored P path own n t K names type keys b q.items q.are q.apart q.within)

row_law : StoredLaw → (P : Pools) (fixed : Option (List Data)) (N : Node) (path : List ℕ) (keys : List (List ℕ)) (v : Data) → IsNode N → where_fixed fixed Leaf (sort_at N) ≡ Row → RowLaw P (record { node = N; keys = keys; path = path; fixed = fixed }) v
row_law stored P None (node n t (object fs preserves type b cs)) path keys v o is = object_row stored P path keys n t fs preserves type b cs v o
row_law stored P None (node n t (nodes.map M type b)) path keys v o is = map_row stored P path keys n t M type b v
row_law stored P None (node n t (scalar kind cs)) path keys v o is = absurd (cc)
row_law stored P None (node n t (list M type ks b)) path keys v o is = absurd (cc)
row_law stored P None (node n t open_) path keys v o is = absurd (cc)
row_law stored P (Some ds) N path keys v o is = absurd (cc)

list_law : StoredLaw → (P : Pools) (fixed : Option (List Data)) (N : Node) (path : List ℕ) (keys : List (List ℕ)) (M : Site) (v : Data) → item_site P (record { node = N; keys = keys; path = path; fixed = fixed }) ≡ Some M
    → IsPart P (record { node = N; keys = keys; path = path; fixed = fixed }) v ↔ IsListCase P (record { node = N; keys = keys; path = path; fixed = fixed }) M v
list_law stored P None (node n t (list K type ks b)) path keys M v is =
    rw (← same_Some _ M is) (list_cases stored P path keys n t K (item_keys type ks) type ks b v, list_up_cases stored P path keys n t K (item_keys type ks) type ks b v)
list_law stored P None (node n t (object fs preserves type b cs)) path keys M v is = absurd (cc)
list_law stored P None (node n t (nodes.map K type b)) path keys M v is = absurd (cc)
list_law stored P None (node n t (scalar kind cs)) path keys M v is = absurd (cc)
list_law stored P None (node n t open_) path keys M v is = absurd (cc)
list_law stored P (Some ds) N path keys M v is = absurd (cc)

-- a leaf has no parts but itself
leaf_parts_over : (P : Pools) (path : List ℕ) (N : Node) (v : Data) → sort_at N ≡ Leaf → ArePartsOver P path N v
leaf_parts_over P path (node n t (scalar kind cs)) v leaf s u M w follows leads found = absurd (cc)
leaf_parts_over P path (node n t open_) v leaf s u M w follows leads found = absurd (cc)
leaf_parts_over P path (node n t (object fs preserves type b cs)) v leaf s u M w follows leads found = absurd (cc)
leaf_parts_over P path (node n t (nodes.map K type b)) v leaf s u M w follows leads found = absurd (cc)
leaf_parts_over P path (node n t (list K type ks b)) v leaf s u M w follows leads found = absurd (cc)

leaf_law : (P : Pools) (fixed : Option (List Data)) (N : Node) (path : List ℕ) (keys : List (List ℕ)) (v : Data) → fixed ≡ None → where_fixed fixed Leaf (sort_at N) ≡ Leaf
    → IsPart P (record { node = N; keys = keys; path = path; fixed = fixed }) v ↔ (IsTree v × IsStored N v × (is_over_here P path N v ≡ true))
leaf_law P None N path keys v free leaf = (
  (λ h. (h.tree, h.stored, (over_down P path N v h.over).0)),
  λ h. record { tree = h.0; stored = h.1; over = over_up P path N v h.2 (leaf_parts_over P path N v leaf) },
)
leaf_law P (Some ds) N path keys v free leaf = absurd (cc)

-- of a node whose values are fixed the parts are not asked
fixed_law : (P : Pools) (fixed : Option (List Data)) (N : Node) (path : List ℕ) (keys : List (List ℕ)) (v : Data) (ds : List Data) → fixed ≡ Some ds
    → IsPart P (record { node = N; keys = keys; path = path; fixed = fixed }) v ↔ (IsTree v × IsStored N v × (is_in v (leasts ds) ≡ true))
fixed_law P (Some es) N path keys v ds is = rw (← same_Some es ds is) ((λ h. (h.tree, h.stored, h.over [] [])), λ h. record { tree = h.0; stored = h.1; over = λ rest p. h.2 })
fixed_law P None N path keys v ds is = absurd (cc)

pub part_laws : StoredLaw → PartLaws
part_laws stored = record {
  fixed = λ P s v ds is. fixed_law P s.fixed s.node s.path s.keys v ds is;
  leaf = λ P s v free leaf. leaf_law P s.fixed s.node s.path s.keys v free leaf;
  row = λ P s v o is. row_law stored P s.fixed s.node s.path s.keys v o is;
  list = λ P s M v is. list_law stored P s.fixed s.node s.path s.keys M v is;
}
