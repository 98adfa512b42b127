-- One step of a way: the entry of its node, from those of the nodes below it.
use Rattle.std.proofs.Common.{◌≡◌, ◌≢◌, ◌⊎◌, ◌<◌, ◌≤◌, ◌+◌, ℕ, zero, suc, List, [], ◌∷◌, ◌++◌, Bool, true, false, Option, Some, None, refl, sym, ap, subst, ◌∙◌, inl, inr, arith, length, get_or, set}
use Rattle.std.specs.Prelude.{◌||◌, is_some, map, option_map, option_and_then, All, IfSome}
use Rattle.std.specs.List.{slice_get}
use Rattle.std.specs.Str.{bytes_eq}
use Rattle.std.proofs.lemmas.Option.{same_Some}
use Rattle.std.proofs.lemmas.List.{get_or-set_same, get_or-set_other, length-set, append-nil, append_cancel_left}
use Rattle.jtree.specs.Data.{Data}
use Rattle.jtree.specs.Internal.Lookups.{bool_cases, own_name}
use Rattle.schema.specs.Nodes.Node.{Node, node, Sort, scalar, object, list, open_, Fields, no_fields, field, Validations, IsNode, AreOrdered}
use Rattle.schema.specs.Nodes.Node as nodes
use Rattle.schema.specs.Nodes.ByPlace.{Declared, field_at, node_at}
use Rattle.schema.specs.declared.node.Bounds.{Bounds}
use Rattle.schema.specs.declared.node.MapType.{MapType}
use Rattle.jtree.specs.declared.equality.Equality.{Equality}
use Rattle.schema.specs.declared.node.ListType.{ListType}
use Rattle.schema.specs.declared.node.ListType.TheVariants.{Atomic, Set, Map}
use Rattle.schema.specs.Nodes.Items.{HasSoundItems}
use Rattle.plan.specs.Pools.FixedPaths.{is_map_list}
use Rattle.explain.specs.Paths.FieldPath.{FieldStep, FieldPath, place_of}
use Rattle.explain.specs.Paths.FieldPath as step
use Rattle.explain.specs.Paths.PathText.{path_text}
use Rattle.plan.specs.Pools.Pools.{Pools, fixed_at, is_present}
use Rattle.plan.specs.Samples.Sites.{Site, no_site, plain, below, where_fixed, fixed_item, item_keys, item_site, site_at, Slot, slots, slots_at, field_slots, value_slot}
use Rattle.plan.specs.Samples.Names.{in_order}
use Rattle.plan.specs.Samples.Presence.{named, bit_of, no_validations}
use Rattle.plan.specs.Samples.Candidates.{sort_at, sort_of}
use Rattle.plan.specs.Samples.Sizes.{bounds_of, raised}
use Rattle.plan.specs.Samples.RuleOfParts.{takes_null, admits_null}
use Rattle.plan.specs.Internal.Arena.{IsSlot, AreSlots, HasContent, IsRight, AreRightBelow, AreRight, slots_in, item_in, with_must}
use Rattle.plan.specs.Internal.Building.{IsSound}
use Rattle.plan.specs.Internal.Values.{AreValues}
use Rattle.plan.specs.Internal.Way.{over, values_node, IsWay}
use Rattle.plan.specs.Internal.Renewed.{IsOnWay, AreRenewedTo, IsRenewed, IsRowRemade, IsFieldAt, AreEndsOf}
use Rattle.plan.specs.declared.values.Values.{Values}
use Rattle.plan.specs.declared.arena.SlotEntry.{SlotEntry}
use Rattle.plan.specs.declared.arena.Content.{Content}
use Rattle.plan.specs.declared.arena.Content.TheVariants as content
use Rattle.plan.specs.declared.arena.Entry.{Entry}
use Rattle.plan.specs.declared.sort.Sort.{Sort as EntrySort}
use Rattle.plan.specs.declared.sort.Sort.TheVariants.{Leaf, Row, List as ListSort}
use Rattle.std.proofs.Common.{zero-add}
use Rattle.std.proofs.lemmas.List.{get_or_default}
use Rattle.explain.specs.Fields.Declared.{IsDeclared}
use Rattle.stored.specs.Schemas.Accepted.{IsSchema}
use Rattle.plan.specs.Pools.PlanFault.{HasGoodPaths}
use Rattle.plan.specs.Pools.Along.{DifferAlong}
use Rattle.plan.specs.Samples.Sites.{sites_of}
use Rattle.plan.specs.Samples.Question.{Question}
use Rattle.plan.specs.Internal.Laws.{SchemaLaws}
use Rattle.plan.specs.Internal.Arena.{AreSitesFrom}
use Rattle.plan.specs.Internal.Frame.{ListTheSame}
use Rattle.plan.specs.Internal.Plan.{IsPlan}
use Rattle.plan.proofs.BuildingLemmas.{last_site}
use Rattle.plan.proofs.FrameLemmas.{values_over}
use Rattle.plan.proofs.PlaceLemmas.{way_made}
use Rattle.plan.proofs.PoolPathLemmas.{OneText}
use Rattle.plan.proofs.FixedLemmas.{leaf_any}
use Rattle.plan.proofs.NameLemmas.{few_named}
use Rattle.plan.proofs.PlanLemmas.{item_sort}
use Rattle.plan.proofs.PlaceLemmas.{text_below, join_one}
use Rattle.plan.proofs.SeenLemmas.{map_met}
use Rattle.plan.proofs.SoundLemmas.{later_field}
use Rattle.plan.proofs.WayLemmas.{IsBeside, same_at, right_between, right_leaf, right_end, right_one}

-- ---- the node itself

fixed_leaf : (fixed : Option (List Data)) (sort : EntrySort) → is_some fixed ≡ true → where_fixed fixed Leaf sort ≡ Leaf
fixed_leaf (Some ds) sort is = refl
fixed_leaf None sort is = absurd (cc)

none_too : (x y : Option (List Data)) → is_some x ≡ is_some y → x ≡ None → y ≡ None
none_too x None both is = refl
none_too None (Some ds) both is = absurd (cc)
none_too (Some es) (Some ds) both is = absurd (cc)

module _ {root : Node} {P Q : Pools} {p : FieldPath} {sites others : List Site} (way : IsWay root P Q p sites others) {n : ℕ} {path : List ℕ} {N : Node} {steps : FieldPath} (on : IsOnWay p sites n path N steps) where
  -- its site over the changed pools
  here_over : site_at others n ≡ record { node = N; keys = (site_at sites n).keys; path = path; fixed = fixed_at path Q }
  here_over =
      let s = site_at sites n in
      way.others_are n on.inside ∙ (ap (λ M. record { node = M; keys = s.keys; path = s.path; fixed = fixed_at s.path Q }) on.node ∙ ap (λ t. record { node = N; keys = s.keys; path = t; fixed = fixed_at t Q }) on.path_is)

  text_here : (site_at sites n).path ≡ path_text on.front
  text_here = on.path_is ∙ on.text

  both_fix : (sort_at N ≡ Leaf) ⊎ (is_some (fixed_at path Q) ≡ is_some (fixed_at path P))
  both_fix =
      let placed = way.placed n on.inside in
      let text : path_text placed.front ≡ path = sym placed.path_is ∙ on.path_is in
      subst (λ t. (sort_at N ≡ Leaf) ⊎ (is_some (fixed_at t Q) ≡ is_some (fixed_at t P))) text (way.differ.whole placed.front N (placed.leads ∙ ap Some on.node))

  fixed_here : (site_at sites n).fixed ≡ fixed_at path P
  fixed_here = (way.placed n on.inside).fixed_is ∙ ap (λ t. fixed_at t P) on.path_is

  leaf_here : (is_some (fixed_at path Q) ≡ true) ⊎ (sort_at N ≡ Leaf) → sort_of (site_at sites n) ≡ Leaf
  leaf_here leafy =
      let s = site_at sites n in
      let plain_leaf : sort_at N ≡ Leaf → sort_of s ≡ Leaf = λ l. leaf_any s.fixed (sort_at s.node) (ap sort_at on.node ∙ l) in
      elim leafy as (λ _. sort_of s ≡ Leaf) [
        | inr l ↦ plain_leaf l
        | inl some ↦ elim both_fix as (λ _. sort_of s ≡ Leaf) [ inl l ↦ plain_leaf l | inr both ↦ fixed_leaf s.fixed (sort_at s.node) (ap is_some fixed_here ∙ (sym both ∙ some)) ]
      ]

  -- where the changed pools fix no values there, neither do the other ones
  free_here : fixed_at path Q ≡ None → sort_at N ≢ Leaf → (site_at sites n).fixed ≡ None
  free_here free other = elim both_fix as (λ _. (site_at sites n).fixed ≡ None) [ inl l ↦ absurd (other l) | inr both ↦ fixed_here ∙ none_too (fixed_at path Q) (fixed_at path P) both free ]

module _ (one : OneText) {Z : Type 0} (holds : Z → ℕ → Type 0) (limit : ℕ) (Q : Pools) (v : Values) where
  -- a leaf
  pub leaf_renewed : (path : List ℕ) (N : Node) (n : ℕ) (steps : FieldPath) (old new : List (Entry Z)) (entry : Entry Z) → new ≡ set old n entry → (is_some (fixed_at path Q) ≡ true) ⊎ (sort_at N ≡ Leaf)
      → ((sites : List Site) (i : ℕ) (keys : List (List ℕ)) → AreValues Q v → site_at sites i ≡ record { node = N; keys = keys; path = path; fixed = fixed_at path Q } → IsRight holds limit Q v sites i entry)
      → IsRenewed holds limit Q v path N n steps old new
  leaf_renewed path N n steps old new entry is leafy right = record {
    count = rw (is, length-set) refl;
    right = λ root P p sites others way on count values rights.
        let inside : n < length old = let l = on.inside in omega arith in
        let before = right_leaf one way holds limit v old count rights on.front steps n on.whole on.inside (text_here way on) (leaf_here way on leafy) in
        record {
          right = right_one holds limit Q v others n old new before (λ i e l. let other : i ≢ n = omega arith in rw (is, get_or-set_other old n i entry e other) refl)
              (λ e. rw (is, get_or-set_same old n entry e inside) (right others n (site_at sites n).keys values (here_over way on)));
          after = λ i e l. let other : i ≢ n = omega arith in rw (is, get_or-set_other old n i entry e other) refl;
        };
  }

  -- the end of the way, where no values are fixed
  pub end_renewed : (path : List ℕ) (N : Node) (n : ℕ) (old : List (Entry Z)) → fixed_at path Q ≡ None → sort_at N ≢ Leaf → IsRenewed holds limit Q v path N n [] old old
  end_renewed path N n old free other = record {
    count = refl;
    right = λ root P p sites others way on count values rights.
        let s = site_at sites n in
        let end : on.front ≡ p = sym (append-nil on.front) ∙ on.whole in
        let none : fixed_at s.path P ≡ None = sym (way.placed n on.inside).fixed_is ∙ free_here way on free other in
        let same : fixed_at s.path Q ≡ fixed_at s.path P = ap (λ t. fixed_at t Q) on.path_is ∙ (free ∙ sym none) in
        record { right = right_end one way holds limit v old count rights n on.inside (text_here way on ∙ ap path_text end) same; after = λ i e l. refl };
  }

  -- where nothing was made, the way does not lead on
  pub never_renewed : (path : List ℕ) (N : Node) (n : ℕ) (steps : FieldPath) (old new : List (Entry Z)) → length new ≡ length old
      → ((root : Node) (P : Pools) (p : FieldPath) (sites others : List Site) → IsWay root P Q p sites others → IsOnWay p sites n path N steps → length old ≡ length sites → AreRight holds limit P v sites old → ⊥)
      → IsRenewed holds limit Q v path N n steps old new
  never_renewed path N n steps old new same never = record {
    count = same;
    right = λ root P p sites others way on count values rights. absurd (never root P p sites others way on count rights);
  }

-- ---- the slots of an object

slots_nodes : (names : List (List ℕ)) (sites : List Site) (n : ℕ) (es : List SlotEntry) (ss : List Slot) → AreSlots names sites n es ss → All (λ (e : SlotEntry). e.node < n) es
slots_nodes names sites n [] ss h k d l = absurd (omega arith)
slots_nodes names sites n (e ∷ es) [] h k d l = absurd h
slots_nodes names sites n (e ∷ es) (s ∷ ss) h zero d l = h.0.below
slots_nodes names sites n (e ∷ es) (s ∷ ss) h (suc k) d l = slots_nodes names sites n es ss h.1 k d (omega arith)

bit_below : (k : List ℕ) (names : List (List ℕ)) → IfSome (bit_of k names) (λ j. j < length names)
bit_below k [] = tt
bit_below k (l ∷ ls) = elim (bool_cases (bytes_eq k l)) as (λ _. IfSome (bit_of k (l ∷ ls)) (λ j. j < length (l ∷ ls))) [
  | inl same ↦ rw same (omega arith)
  | inr other ↦ rw other (more (bit_of k ls) (bit_below k ls))
] where
  more : (o : Option ℕ) → IfSome o (λ j. j < length ls) → IfSome (option_map (λ j. j + 1) o) (λ j. j < length (l ∷ ls))
  more None h = tt
  more (Some j) h = omega arith

slots_bits : (P : Pools) (names : List (List ℕ)) (sites : List Site) (n : ℕ) (es : List SlotEntry) (path : List ℕ) (keys named : List (List ℕ)) (fs : Fields) → AreSlots names sites n es (field_slots P path keys named fs) → All (λ (e : SlotEntry). IfSome e.bit (λ j. j < length named)) es
slots_bits P names sites n [] path keys named fs h k d l = absurd (omega arith)
slots_bits P names sites n (e ∷ es) path keys named no_fields h k d l = absurd h
slots_bits P names sites n (e ∷ es) path keys named (field m N required default fs) h zero d l = subst (λ o. IfSome o (λ j. j < length named)) (sym h.0.bit) (bit_below m named)
slots_bits P names sites n (e ∷ es) path keys named (field m N required default fs) h (suc k) d l = slots_bits P names sites n es path keys named fs h.1 k d (omega arith)

-- the field at a place is that of its name
pub field_found : (i : ℕ) (k : List ℕ) (N : Node) (required : Bool) (default : Option Data) (fs : Fields) → AreOrdered fs → IsFieldAt i k N required default fs → field_at k fs ≡ Some (record { node = N; required = required; default = default })
field_found i k N r d no_fields o h = absurd h
field_found zero k N r d (field l M r2 d2 fs) o h =
    let own : bytes_eq k l ≡ true = subst (λ x. bytes_eq x l ≡ true) h.0 (own_name l) in
    rw own (ap (λ x. Some (record { node = x; required = r2; default = d2 })) h.1 ∙ (ap (λ x. Some (record { node = N; required = x; default = d2 })) h.2 ∙ ap (λ x. Some (record { node = N; required = r; default = x })) h.3))
field_found (suc i) k N r d (field l M r2 d2 fs) o h =
    let later = field_found i k N r d fs o.2 h in
    rw (later_field l M r2 d2 fs o k _ later) later

module _ (P Q : Pools) (names : List (List ℕ)) (sites others : List Site) (n : ℕ) (over_are : (j : ℕ) → j < n → site_at others j ≡ over Q (site_at sites j)) where
  -- a slot whose place is beside the way, or that is judged anew
  slot_over : (e : SlotEntry) (path : List ℕ) (k : List ℕ) (N : Node) (s : Slot) (must : Bool) → IsSlot names sites n e s → s.site ≡ plain P (below path (step.field k)) N
      → IsSlot names others n (record { name = e.name; node = e.node; must = must; key = e.key; bit = e.bit }) (record { name = s.name; site = plain Q (below path (step.field k)) N; must = must; key = s.key; bit = s.bit })
  slot_over e path k N s must h is = record {
    name = h.name;
    below = h.below;
    node = over_are e.node h.below ∙ ap (over Q) (h.node ∙ is);
    must = refl;
    key = h.key;
    bit = h.bit;
  }

  -- no field is that on the way
  slots_beside : (path : List ℕ) (keys named : List (List ℕ)) (es : List SlotEntry) (fs : Fields) → ((l : List ℕ) (f : Declared) → field_at l fs ≡ Some f → is_present (below path (step.field l)) Q ≡ is_present (below path (step.field l)) P) → AreOrdered fs
      → AreSlots names sites n es (field_slots P path keys named fs) → AreSlots names others n es (field_slots Q path keys named fs)
  slots_beside path keys named [] no_fields same o h = tt
  slots_beside path keys named (e ∷ es) no_fields same o h = absurd h
  slots_beside path keys named [] (field l M r d fs) same o h = absurd h
  slots_beside path keys named (e ∷ es) (field l M r d fs) same o h =
      let f : Declared = record { node = M; required = r; default = d } in
      let own = same l f (rw (own_name l) refl) in
      let slot = slot_over e path l M _ e.must h.0 refl in (
        record { name = slot.name; below = slot.below; node = slot.node; must = h.0.must ∙ ap (λ b. (r || is_some d) || b) (sym own); key = slot.key; bit = slot.bit },
        slots_beside path keys named es fs (λ m g is. same m g (rw (later_field l M r d fs o m g is) is)) o.2 h.1,
      )

  -- the field at this place is on the way
  pub slots_renewed : (path : List ℕ) (keys named : List (List ℕ)) (k : List ℕ) (N : Node) (required : Bool) (default : Option Data) (must : Bool) (at : ℕ) (es : List SlotEntry) (fs : Fields) → must ≡ ((required || is_some default) || is_present (below path (step.field k)) Q)
      → ((l : List ℕ) → l ≢ k → is_present (below path (step.field l)) Q ≡ is_present (below path (step.field l)) P) → AreOrdered fs → IsFieldAt at k N required default fs
      → AreSlots names sites n es (field_slots P path keys named fs) → AreSlots names others n (with_must at must es) (field_slots Q path keys named fs)
  slots_renewed path keys named k N r d must at es no_fields is same o here h = absurd here
  slots_renewed path keys named k N r d must at [] (field l M r2 d2 fs) is same o here h = absurd h
  slots_renewed path keys named k N r d must zero (e ∷ es) (field l M r2 d2 fs) is same o here h =
      let slot = slot_over e path l M _ must h.0 refl in
      let asked : must ≡ ((r2 || is_some d2) || is_present (below path (step.field l)) Q) =
      is ∙ (ap (λ x. (x || is_some d) || is_present (below path (step.field k)) Q) (sym here.2) ∙ (ap (λ x. (r2 || is_some x) || is_present (below path (step.field k)) Q) (sym here.3) ∙ ap (λ x. (r2 || is_some d2) || is_present (below path (step.field x)) Q) (sym here.0))) in (
        record { name = slot.name; below = slot.below; node = slot.node; must = asked; key = slot.key; bit = slot.bit },
        slots_beside path keys named es fs (λ m g found. same m (λ e. let other = later_field l M r2 d2 fs o m g found in let t : m ≡ l = e ∙ sym here.0 in let own = own_name l in let bad = rw t at other in cc)) o.2 h.1,
      )
  slots_renewed path keys named k N r d must (suc at) (e ∷ es) (field l M r2 d2 fs) is same o here h =
      let found = field_found at k N r d fs o.2 here in
      let other = later_field l M r2 d2 fs o k _ found in
      let own = same l (λ t. let self = own_name k in let wrong = rw t at other in cc) in
      let slot = slot_over e path l M _ e.must h.0 refl in (
        record { name = slot.name; below = slot.below; node = slot.node; must = h.0.must ∙ ap (λ b. (r2 || is_some d2) || b) (sym own); key = slot.key; bit = slot.bit },
        slots_renewed path keys named k N r d must at es fs is same o.2 here h.1,
      )

  -- the slots of a map
  value_slots_renewed : (path : List ℕ) (N : Node) (es : List SlotEntry) (ks : List (List ℕ)) → AreSlots names sites n es (map (value_slot P path N) ks) → AreSlots names others n (with_must 0 false es) (map (value_slot Q path N) ks)
  value_slots_renewed path N [] [] h = tt
  value_slots_renewed path N [] (k ∷ ks) h = absurd h
  value_slots_renewed path N (e ∷ es) [] h = absurd h
  value_slots_renewed path N (e ∷ es) (k ∷ ks) h =
      (record { name = h.0.name; below = h.0.below; node = over_are e.node h.0.below ∙ ap (over Q) h.0.node; must = refl; key = h.0.key; bit = h.0.bit }, rest es ks h.1) where
        rest : (es : List SlotEntry) (ks : List (List ℕ)) → AreSlots names sites n es (map (value_slot P path N) ks) → AreSlots names others n es (map (value_slot Q path N) ks)
        rest [] [] h = tt
        rest [] (k ∷ ks) h = absurd h
        rest (e ∷ es) [] h = absurd h
        rest (e ∷ es) (k ∷ ks) h = (record { name = h.0.name; below = h.0.below; node = over_are e.node h.0.below ∙ ap (over Q) h.0.node; must = h.0.must; key = h.0.key; bit = h.0.bit }, rest es ks h.1)

value_bits : (P : Pools) (names : List (List ℕ)) (sites : List Site) (n : ℕ) (es : List SlotEntry) (path : List ℕ) (N : Node) (ks : List (List ℕ)) → AreSlots names sites n es (map (value_slot P path N) ks) → All (λ (e : SlotEntry). IfSome e.bit (λ j. j < 0)) es
value_bits P names sites n [] path N ks h k d l = absurd (omega arith)
value_bits P names sites n (e ∷ es) path N [] h k d l = absurd h
value_bits P names sites n (e ∷ es) path N (x ∷ ks) h zero d l = subst (λ o. IfSome o (λ j. j < 0)) (sym h.0.bit) tt
value_bits P names sites n (e ∷ es) path N (x ∷ ks) h (suc k) d l = value_bits P names sites n es path N ks h.1 k d (omega arith)

-- the slot of the field at a place
slot_of_place : (P : Pools) (names : List (List ℕ)) (sites : List Site) (n at : ℕ) (es : List SlotEntry) (path : List ℕ) (keys named : List (List ℕ)) (k : List ℕ) (N : Node) (required : Bool) (default : Option Data) (fs : Fields) (c : ℕ) → IsFieldAt at k N required default fs
    → AreSlots names sites n es (field_slots P path keys named fs) → Some c ≡ option_map (λ (s : SlotEntry). s.node) (slice_get es at) → (c < n) × (site_at sites c ≡ plain P (below path (step.field k)) N)
slot_of_place P names sites n at es path keys named k N r d no_fields c here h is = absurd here
slot_of_place P names sites n at [] path keys named k N r d (field l M r2 d2 fs) c here h is = absurd h
slot_of_place P names sites n zero (e ∷ es) path keys named k N r d (field l M r2 d2 fs) c here h is =
    let same : c ≡ SlotEntry.node e = cc in
    (rw same h.0.below, rw same (h.0.node ∙ (ap (λ x. plain P (below path (step.field x)) M) here.0 ∙ ap (λ x. plain P (below path (step.field k)) x) here.1)))
slot_of_place P names sites n (suc at) (e ∷ es) path keys named k N r d (field l M r2 d2 fs) c here h is = slot_of_place P names sites n at es path keys named k N r d fs c here h.1 is

-- the content of a row
row_slots : {Z : Type 0} (holds : Z → ℕ → Type 0) (limit : ℕ) (P : Pools) (v : Values) (sites : List Site) (n : ℕ) (c : Content Z) → HasContent holds limit P v sites n c → sort_of (site_at sites n) ≡ Row → AreSlots v.names.items sites n (slots_in c) (slots P (site_at sites n))
row_slots holds limit P v sites n (content.Row r) h row = h.are
row_slots holds limit P v sites n (content.Leaf l) h row = let bad = sym h.sort ∙ row in absurd (cc)
row_slots holds limit P v sites n (content.List l) h row = let bad = sym (item_sort P (site_at sites n) (site_at sites l.item) h.item) ∙ row in absurd (cc)

-- the content of a list
list_content : {Z : Type 0} (holds : Z → ℕ → Type 0) (limit : ℕ) (P : Pools) (v : Values) (sites : List Site) (n : ℕ) (c : Content Z) (i : ℕ) → HasContent holds limit P v sites n c → Some i ≡ item_in c → (i < n) × (item_site P (site_at sites n) ≡ Some (site_at sites i))
list_content holds limit P v sites n (content.Row r) i h is = absurd (cc)
list_content holds limit P v sites n (content.Leaf l) i h is = absurd (cc)
list_content holds limit P v sites n (content.List l) i h is = let same : i ≡ l.item = cc in (rw same h.below, rw same h.item)

no_item_content : {Z : Type 0} (holds : Z → ℕ → Type 0) (limit : ℕ) (P : Pools) (v : Values) (sites : List Site) (n : ℕ) (c : Content Z) → HasContent holds limit P v sites n c → sort_of (site_at sites n) ≡ ListSort → None ≡ item_in c → ⊥
no_item_content holds limit P v sites n (content.Row r) h sort none = let bad = sym h.sort ∙ sort in cc
no_item_content holds limit P v sites n (content.Leaf l) h sort none = let bad = sym h.sort ∙ sort in cc
no_item_content holds limit P v sites n (content.List l) h sort none = cc

no_slot_at : (P : Pools) (names : List (List ℕ)) (sites : List Site) (n at : ℕ) (es : List SlotEntry) (path : List ℕ) (keys named : List (List ℕ)) (k : List ℕ) (N : Node) (required : Bool) (default : Option Data) (fs : Fields) → IsFieldAt at k N required default fs
    → AreSlots names sites n es (field_slots P path keys named fs) → None ≡ option_map (λ (s : SlotEntry). s.node) (slice_get es at) → ⊥
no_slot_at P names sites n at es path keys named k N r d no_fields here h none = here
no_slot_at P names sites n at [] path keys named k N r d (field l M r2 d2 fs) here h none = h
no_slot_at P names sites n zero (e ∷ es) path keys named k N r d (field l M r2 d2 fs) here h none = cc
no_slot_at P names sites n (suc at) (e ∷ es) path keys named k N r d (field l M r2 d2 fs) here h none = no_slot_at P names sites n at es path keys named k N r d fs here h.1 none

item_free : (Q : Pools) (text : List ℕ) (t : ListType) → ((e : Equality) → t ≡ Map e → fixed_at text Q ≡ None) → fixed_item Q t text ≡ fixed_at text Q
item_free Q text Atomic h = refl
item_free Q text (Set e) h = refl
item_free Q text (Map e) h = sym (h e refl)

some_of : {X : Type 0} (xs : List X) → 0 < length xs → X
some_of [] l = absurd (omega arith)
some_of (x ∷ xs) l = x

-- ---- steps

over_before : {root : Node} {P Q : Pools} {p : FieldPath} {sites others : List Site} (way : IsWay root P Q p sites others) (n : ℕ) → n < length sites → (j : ℕ) → j < n → site_at others j ≡ over Q (site_at sites j)
over_before way n inside j l = way.others_are j (omega arith)

module _ (one : OneText) {Z : Type 0} (holds : Z → ℕ → Type 0) (limit : ℕ) (Q : Pools) (v : Values) where
  module _ (n : ℕ) (path : List ℕ) (m : Bool) (d : Option (List ℕ)) (fs : Fields) (preserves : Bool) (type : MapType) (b : Bounds) (cs : Validations) (rest : FieldPath) (k : List ℕ) (M : Node) (required : Bool) (default : Option Data) (at c : ℕ) (must nullable : Bool) (names : List (List ℕ)) (ends : List Bool)
      (old mid new : List (Entry Z)) (free : fixed_at path Q ≡ None) (found : IsFieldAt at k M required default fs) (child : n < length old → (e : Entry Z) → Some c ≡ option_map (λ (s : SlotEntry). s.node) (slice_get (slots_in (get_or old n e).content) at))
      (must_is : must ≡ ((required || is_some default) || is_present (below path (step.field k)) Q)) (null : nullable ≡ takes_null Q path (node m d (object fs preserves type b cs))) (ends_are : AreEndsOf cs names ends)
      (under : IsRenewed holds limit Q v (below path (step.field k)) M c rest old mid) (made : IsRowRemade holds limit v n b names ends at must nullable mid new) where
    abbrev ObjectHere : Node
    ObjectHere = node m d (object fs preserves type b cs)

    object_step : (root : Node) (P : Pools) (p : FieldPath) (sites others : List Site) → IsWay root P Q p sites others → IsOnWay p sites n path ObjectHere (step.field k ∷ rest) → length old ≡ length sites → AreValues Q v → AreRight holds limit P v sites old → (e : Entry Z)
        → AreRenewedTo holds limit Q v others n old new
    object_step root P p sites others way on count values rights e =
        let s = site_at sites n in
        let inside : n < length old = let l = on.inside in omega arith in
        let o : AreOrdered fs = subst IsNode on.node (way.sound n on.inside).0 in
        let sound = subst IsSound on.node (way.sound n on.inside).1 in
        let unfixed = free_here way on free (λ leaf. cc) in
        let same_names : names ≡ named cs = ends_are.names_are (few_named fs cs sound.1) in
        let own : s ≡ record { node = ObjectHere; keys = s.keys; path = path; fixed = None } =
        ap (λ x. record { node = x; keys = s.keys; path = s.path; fixed = s.fixed }) on.node ∙ (ap (λ x. record { node = ObjectHere; keys = s.keys; path = x; fixed = s.fixed }) on.path_is ∙ ap (λ x. record { node = ObjectHere; keys = s.keys; path = path; fixed = x }) unfixed)
        in
        let before = (rights n e inside).content in
        let es = slots_in (get_or old n e).content in
        let slots_old : AreSlots v.names.items sites n es (field_slots P path s.keys (named cs) fs) = subst (λ x. AreSlots v.names.items sites n es (slots P x)) own (row_slots holds limit P v sites n (get_or old n e).content before (ap sort_of own)) in
        let slot = slot_of_place P v.names.items sites n at es path s.keys (named cs) k M required default fs c found slots_old (child inside e) in
        let next_text : below path (step.field k) ≡ path_text (on.front ++ step.field k ∷ []) = ap (λ t. below t (step.field k)) on.text ∙ text_below on.front (step.field k) in
        let leads : node_at M (place_of rest) ≡ Some on.end = subst (λ x. option_and_then (λ K. node_at K (place_of rest)) (option_map (λ f. Declared.node f) x) ≡ Some on.end) (field_found at k M required default fs o found) on.leads in
        let child_on : IsOnWay p sites c (below path (step.field k)) M rest =
        record { front = on.front ++ step.field k ∷ []; whole = join_one on.front (step.field k) rest ∙ on.whole; text = next_text; inside = (let l = slot.0 in let w = on.inside in omega arith); node = ap (λ x. Site.node x) slot.1; path_is = ap (λ x. Site.path x) slot.1; end = on.end; leads = leads }
        in
        let done = under.right root P p sites others way child_on count values rights in
        let all = right_between one way holds limit v old count rights on.front rest (step.field k) n c mid on.whole on.inside (text_here way on) (ap (λ x. Site.path x) slot.1 ∙ next_text) done.right done.after in
        let here = here_over way on in
        let plain_here : site_at others n ≡ record { node = ObjectHere; keys = s.keys; path = path; fixed = None } = here ∙ ap (λ f. record { node = ObjectHere; keys = s.keys; path = path; fixed = f }) free in
        let kept : get_or mid n e ≡ get_or old n e = done.after n e slot.0 in
        let mid_inside : n < length mid = let w = under.count in omega arith in
        let beside : (l : List ℕ) → l ≢ k → is_present (below path (step.field l)) Q ≡ is_present (below path (step.field l)) P = λ l other.
        let text : below path (step.field l) ≡ path_text (on.front ++ step.field l ∷ []) = ap (λ t. below t (step.field l)) on.text ∙ text_below on.front (step.field l) in
        let off : IsBeside p (on.front ++ step.field l ∷ []) = λ r e.
        let steps : step.field l ∷ r ≡ step.field k ∷ rest = append_cancel_left on.front (step.field l ∷ r) (step.field k ∷ rest) (sym (join_one on.front (step.field l) r) ∙ (e ∙ sym on.whole)) in
        other (cc)
        in
        subst (λ t. is_present t Q ≡ is_present t P) (sym text) (same_at one way.differ (on.front ++ step.field l ∷ []) off).0
        in
        let slots_new : AreSlots v.names.items others n (with_must at must es) (field_slots Q path s.keys (named cs) fs) =
        slots_renewed P Q v.names.items sites others n (over_before way n on.inside) path s.keys (named cs) k M required default must at es fs must_is beside o found slots_old
        in
        record {
          right = right_one holds limit Q v others n mid new all (λ i x l. let other : i ≢ n = omega arith in made.others i x other) (λ x.
              made.right Q others cs e x mid_inside all (rw plain_here o) (rw plain_here refl) (rw plain_here refl) (ends_are.met same_names) (rw plain_here (sym null))
              (rw kept (slots_nodes v.names.items sites n es (field_slots P path s.keys (named cs) fs) slots_old))
              (rw (kept, same_names) (slots_bits P v.names.items sites n es path s.keys (named cs) fs slots_old))
              (rw (kept, plain_here) slots_new));
          after = λ i x l. let other : i ≢ n = omega arith in made.others i x other ∙ done.after i x (let below_n = slot.0 in omega arith);
        }

    pub object_renewed : IsRenewed holds limit Q v path ObjectHere n (step.field k ∷ rest) old new
    object_renewed = record {
      count = made.count ∙ under.count;
      right = λ root P p sites others way on count values rights. object_step root P p sites others way on count values rights (some_of old (let l = on.inside in omega arith));
    }

  module _ (n : ℕ) (path : List ℕ) (m : Bool) (d : Option (List ℕ)) (M : Node) (type : MapType) (b : Bounds) (rest : FieldPath) (c : ℕ) (bounds : Bounds) (nullable : Bool) (old mid new : List (Entry Z)) (free : fixed_at path Q ≡ None) (child : c + 1 ≡ n)
      (bounds_are : bounds ≡ raised (is_present (below path step.value) Q) b) (null : nullable ≡ takes_null Q path (node m d (nodes.map M type b))) (under : IsRenewed holds limit Q v (below path step.value) M c rest old mid)
      (made : IsRowRemade holds limit v n bounds [] (true ∷ []) 0 false nullable mid new) where
    abbrev MapHere : Node
    MapHere = node m d (nodes.map M type b)

    map_step : (root : Node) (P : Pools) (p : FieldPath) (sites others : List Site) → IsWay root P Q p sites others → IsOnWay p sites n path MapHere (step.value ∷ rest) → length old ≡ length sites → AreValues Q v → AreRight holds limit P v sites old → (e : Entry Z)
        → AreRenewedTo holds limit Q v others n old new
    map_step root P p sites others way on count values rights e =
        let s = site_at sites n in
        let inside : n < length old = let l = on.inside in omega arith in
        let o : IsNode MapHere = subst IsNode on.node (way.sound n on.inside).0 in
        let unfixed = free_here way on free (λ leaf. cc) in
        let own : s ≡ record { node = MapHere; keys = s.keys; path = path; fixed = None } =
        ap (λ x. record { node = x; keys = s.keys; path = s.path; fixed = s.fixed }) on.node ∙ (ap (λ x. record { node = MapHere; keys = s.keys; path = x; fixed = s.fixed }) on.path_is ∙ ap (λ x. record { node = MapHere; keys = s.keys; path = path; fixed = x }) unfixed)
        in
        let before = (rights n e inside).content in
        let es = slots_in (get_or old n e).content in
        let slots_old : AreSlots v.names.items sites n es (map (value_slot P path M) (in_order P.names)) = subst (λ x. AreSlots v.names.items sites n es (slots P x)) own (row_slots holds limit P v sites n (get_or old n e).content before (ap sort_of own)) in
        let after_values = way.values n M on.inside unfixed (ap values_node on.node) in
        let same_child : after_values.before ≡ c = let x = after_values.next in omega arith in
        let slot : site_at sites c ≡ plain P (below path step.value) M = ap (λ j. site_at sites j) (sym same_child) ∙ (after_values.site ∙ ap (λ t. plain P (below t step.value) M) on.path_is) in
        let next_text : below path step.value ≡ path_text (on.front ++ step.value ∷ []) = ap (λ t. below t step.value) on.text ∙ text_below on.front step.value in
        let below_n : c < n = omega arith in
        let child_on : IsOnWay p sites c (below path step.value) M rest =
        record { front = on.front ++ step.value ∷ []; whole = join_one on.front step.value rest ∙ on.whole; text = next_text; inside = (let w = on.inside in omega arith); node = ap (λ x. Site.node x) slot; path_is = ap (λ x. Site.path x) slot; end = on.end; leads = on.leads }
        in
        let done = under.right root P p sites others way child_on count values rights in
        let all = right_between one way holds limit v old count rights on.front rest step.value n c mid on.whole on.inside (text_here way on) (ap (λ x. Site.path x) slot ∙ next_text) done.right done.after in
        let plain_here : site_at others n ≡ record { node = MapHere; keys = s.keys; path = path; fixed = None } = here_over way on ∙ ap (λ f. record { node = MapHere; keys = s.keys; path = path; fixed = f }) free in
        let kept : get_or mid n e ≡ get_or old n e = done.after n e below_n in
        let mid_inside : n < length mid = let w = under.count in omega arith in
        let slots_new : AreSlots v.names.items others n (with_must 0 false es) (map (value_slot Q path M) (in_order Q.names)) =
        subst (λ xs. AreSlots v.names.items others n (with_must 0 false es) (map (value_slot Q path M) (in_order xs))) (sym way.lists.names)
        (value_slots_renewed P Q v.names.items sites others n (over_before way n on.inside) path M es (in_order P.names) slots_old)
        in
        record {
          right = right_one holds limit Q v others n mid new all (λ i x l. let other : i ≢ n = omega arith in made.others i x other) (λ x.
              made.right Q others no_validations e x mid_inside all (rw plain_here o) (rw plain_here refl) (rw (plain_here, bounds_are) refl) map_met (rw plain_here (sym null))
              (rw kept (slots_nodes v.names.items sites n es (map (value_slot P path M) (in_order P.names)) slots_old))
              (rw kept (value_bits P v.names.items sites n es path M (in_order P.names) slots_old))
              (rw (kept, plain_here) slots_new));
          after = λ i x l. let other : i ≢ n = omega arith in made.others i x other ∙ done.after i x (omega arith);
        }

    pub map_renewed : IsRenewed holds limit Q v path MapHere n (step.value ∷ rest) old new
    map_renewed = record {
      count = made.count ∙ under.count;
      right = λ root P p sites others way on count values rights. map_step root P p sites others way on count values rights (some_of old (let l = on.inside in omega arith));
    }

  module _ (n : ℕ) (path : List ℕ) (m : Bool) (d : Option (List ℕ)) (M : Node) (type : ListType) (ks : List (List ℕ)) (b : Bounds) (rest : FieldPath) (c : ℕ) (bounds : Bounds) (nullable : Bool) (old mid new : List (Entry Z)) (entry : Entry Z) (free : fixed_at path Q ≡ None)
      (child : n < length old → (e : Entry Z) → Some c ≡ item_in (get_or old n e).content) (bounds_are : bounds ≡ raised (is_present (below path step.item) Q) b) (null : nullable ≡ takes_null Q path (node m d (list M type ks b)))
      (under : IsRenewed holds limit Q v (below path step.item) M c rest old mid) (put : new ≡ set mid n entry)
      (right : (sites : List Site) (i : ℕ) (x : Bool) (y : Option (List ℕ)) → AreRightBelow holds limit Q v sites i mid → c < i → i ≤ length mid → (site_at sites i).node ≡ node x y (list M type ks b) → admits_null Q (site_at sites i) ≡ nullable → bounds_of Q (site_at sites i) ≡ bounds
      → item_site Q (site_at sites i) ≡ Some (site_at sites c) → IsNode (site_at sites i).node → HasSoundItems (site_at sites i).node → IsRight holds limit Q v sites i entry) where
    abbrev ListHere : Node
    ListHere = node m d (list M type ks b)

    list_step : (root : Node) (P : Pools) (p : FieldPath) (sites others : List Site) → IsWay root P Q p sites others → IsOnWay p sites n path ListHere (step.item ∷ rest) → length old ≡ length sites → AreValues Q v → AreRight holds limit P v sites old → (e : Entry Z)
        → AreRenewedTo holds limit Q v others n old new
    list_step root P p sites others way on count values rights e =
        let s = site_at sites n in
        let inside : n < length old = let l = on.inside in omega arith in
        let o : IsNode ListHere = subst IsNode on.node (way.sound n on.inside).0 in
        let sound : IsSound ListHere = subst IsSound on.node (way.sound n on.inside).1 in
        let unfixed = free_here way on free (λ leaf. cc) in
        let own : s ≡ record { node = ListHere; keys = s.keys; path = path; fixed = None } =
        ap (λ x. record { node = x; keys = s.keys; path = s.path; fixed = s.fixed }) on.node ∙ (ap (λ x. record { node = ListHere; keys = s.keys; path = x; fixed = s.fixed }) on.path_is ∙ ap (λ x. record { node = ListHere; keys = s.keys; path = path; fixed = x }) unfixed)
        in
        let here = list_content holds limit P v sites n (get_or old n e).content c (rights n e inside).content (child inside e) in
        let item : record { node = M; keys = item_keys type ks; path = below path step.item; fixed = fixed_item P type (below path step.item) } ≡ site_at sites c = same_Some _ (site_at sites c) (subst (λ x. item_site P x ≡ Some (site_at sites c)) own here.1) in
        let next_text : below path step.item ≡ path_text (on.front ++ step.item ∷ []) = ap (λ t. below t step.item) on.text ∙ text_below on.front step.item in
        let child_on : IsOnWay p sites c (below path step.item) M rest =
        record { front = on.front ++ step.item ∷ []; whole = join_one on.front step.item rest ∙ on.whole; text = next_text; inside = (let l = here.0 in let w = on.inside in omega arith); node = ap (λ x. Site.node x) (sym item); path_is = ap (λ x. Site.path x) (sym item); end = on.end; leads = on.leads }
        in
        let done = under.right root P p sites others way child_on count values rights in
        let all = right_between one way holds limit v old count rights on.front rest step.item n c mid on.whole on.inside (text_here way on) (ap (λ x. Site.path x) (sym item) ∙ next_text) done.right done.after in
        let plain_here : site_at others n ≡ record { node = ListHere; keys = s.keys; path = path; fixed = None } = here_over way on ∙ ap (λ f. record { node = ListHere; keys = s.keys; path = path; fixed = f }) free in
        let placed = way.placed n on.inside in
        let free_items : fixed_item Q type (below path step.item) ≡ fixed_at (below path step.item) Q =
        item_free Q (below path step.item) type (λ e is. subst (λ t. fixed_at (below t step.item) Q ≡ None) (sym placed.path_is ∙ on.path_is) (way.items placed.front ListHere (placed.leads ∙ ap Some on.node) (ap (λ t. is_map_list (node m d (list M t ks b))) is)))
        in
        let item_over : site_at others c ≡ record { node = M; keys = item_keys type ks; path = below path step.item; fixed = fixed_item Q type (below path step.item) } =
        way.others_are c (let l = here.0 in let w = on.inside in omega arith) ∙ (ap (over Q) (sym item) ∙ ap (λ f. record { node = M; keys = item_keys type ks; path = below path step.item; fixed = f }) (sym free_items))
        in
        let mid_inside : n < length mid = let w = under.count in omega arith in
        record {
          right = right_one holds limit Q v others n mid new all (λ i x l. let other : i ≢ n = omega arith in rw (put, get_or-set_other mid n i entry x other) refl) (λ x.
              rw (put, get_or-set_same mid n entry x mid_inside)
              (right others n m d all here.0 (omega arith) (rw plain_here refl) (rw plain_here (sym null)) (rw (plain_here, bounds_are) refl) (rw (plain_here, item_over) refl) (rw plain_here o) (rw plain_here sound.0)));
          after = λ i x l. let other : i ≢ n = omega arith in rw (put, get_or-set_other mid n i entry x other) (done.after i x (let below_n = here.0 in omega arith));
        }

    pub list_renewed : IsRenewed holds limit Q v path ListHere n (step.item ∷ rest) old new
    list_renewed = record {
      count = rw (put, length-set) under.count;
      right = λ root P p sites others way on count values rights. list_step root P p sites others way on count values rights (some_of old (let l = on.inside in omega arith));
    }

  -- ---- where the way cannot lead

  -- the entry of a list has a node of its items
  pub item_never : (path : List ℕ) (n : ℕ) (m : Bool) (d : Option (List ℕ)) (M : Node) (type : ListType) (ks : List (List ℕ)) (b : Bounds) (steps : FieldPath) (old : List (Entry Z)) → fixed_at path Q ≡ None
      → (n < length old → (e : Entry Z) → None ≡ item_in (get_or old n e).content) → IsRenewed holds limit Q v path (node m d (list M type ks b)) n steps old old
  item_never path n m d M type ks b steps old free none = never_renewed one holds limit Q v path (node m d (list M type ks b)) n steps old old refl (λ root P p sites others way on count rights.
      let s = site_at sites n in
      let inside : n < length old = let l = on.inside in omega arith in
      let e = some_of old (omega arith) in
      let unfixed = free_here way on free (λ leaf. cc) in
      let sort : sort_of s ≡ ListSort = ap (λ f. where_fixed f Leaf (sort_at s.node)) unfixed ∙ ap sort_at on.node in
      no_item_content holds limit P v sites n (get_or old n e).content (rights n e inside).content sort (none inside e))

  -- that of a map is not the first
  pub first_never : (path : List ℕ) (n : ℕ) (m : Bool) (d : Option (List ℕ)) (M : Node) (type : MapType) (b : Bounds) (steps : FieldPath) (old : List (Entry Z)) → fixed_at path Q ≡ None → n ≡ 0 → IsRenewed holds limit Q v path (node m d (nodes.map M type b)) n steps old old
  first_never path n m d M type b steps old free first = never_renewed one holds limit Q v path (node m d (nodes.map M type b)) n steps old old refl (λ root P p sites others way on count rights.
      let after_values = way.values n M on.inside (free_here way on free (λ leaf. cc)) (ap values_node on.node) in
      absurd (let x = after_values.next in omega arith))

  -- that of an object has a slot for each field
  pub slot_never : (path : List ℕ) (n at : ℕ) (m : Bool) (d : Option (List ℕ)) (fs : Fields) (preserves : Bool) (type : MapType) (b : Bounds) (cs : Validations) (k : List ℕ) (M : Node) (required : Bool) (default : Option Data) (steps : FieldPath) (old : List (Entry Z)) → fixed_at path Q ≡ None
      → IsFieldAt at k M required default fs → (n < length old → (e : Entry Z) → None ≡ option_map (λ (s : SlotEntry). s.node) (slice_get (slots_in (get_or old n e).content) at)) → IsRenewed holds limit Q v path (node m d (object fs preserves type b cs)) n steps old old
  slot_never path n at m d fs preserves type b cs k M required default steps old free found none = never_renewed one holds limit Q v path (node m d (object fs preserves type b cs)) n steps old old refl (λ root P p sites others way on count rights.
      let s = site_at sites n in
      let inside : n < length old = let l = on.inside in omega arith in
      let e = some_of old (omega arith) in
      let unfixed = free_here way on free (λ leaf. cc) in
      let row : sort_of s ≡ Row = ap (λ f. where_fixed f Leaf (sort_at s.node)) unfixed ∙ ap sort_at on.node in
      let slots_are = row_slots holds limit P v sites n (get_or old n e).content (rights n e inside).content row in
      let here : slots P s ≡ field_slots P s.path s.keys (named cs) fs = ap (λ f. where_fixed f [] (slots_at P s.path s.node s.keys)) unfixed ∙ ap (λ x. slots_at P s.path x s.keys) on.node in
      no_slot_at P v.names.items sites n at (slots_in (get_or old n e).content) s.path s.keys (named cs) k M required default fs found (subst (AreSlots v.names.items sites n (slots_in (get_or old n e).content)) here slots_are) (none inside e))

  -- and the node of the items is one of the plan
  pub past_never : (path : List ℕ) (n : ℕ) (m : Bool) (d : Option (List ℕ)) (M : Node) (type : ListType) (ks : List (List ℕ)) (b : Bounds) (steps : FieldPath) (c : ℕ) (old mid : List (Entry Z)) → fixed_at path Q ≡ None → length mid ≡ length old
      → (n < length old → (e : Entry Z) → Some c ≡ item_in (get_or old n e).content) → length mid ≤ c → IsRenewed holds limit Q v path (node m d (list M type ks b)) n steps old mid
  past_never path n m d M type ks b steps c old mid free same child past = never_renewed one holds limit Q v path (node m d (list M type ks b)) n steps old mid same (λ root P p sites others way on count rights.
      let inside : n < length old = let l = on.inside in omega arith in
      let e = some_of old (omega arith) in
      let here = list_content holds limit P v sites n (get_or old n e).content c (rights n e inside).content (child inside e) in
      absurd (let l = here.0 in omega arith))

-- ---- the whole plan

-- a plan over pools that differ along a path, where the entries along it were made anew
pub plan_renewed : OneText → SchemaLaws → {Z : Type 0} (holds : Z → ℕ → Type 0) (BITS : ℕ) (root : Node) (P Q : Pools) (p : FieldPath) (limit : ℕ) (v : Values) (old new : List (Entry Z)) (first : ℕ) → IsSchema root → HasGoodPaths root P → HasGoodPaths root Q → DifferAlong root P Q p → ListTheSame P Q
    → IsDeclared root p → IsPlan holds BITS root P limit v old first → IsRenewed holds limit Q v [] root first p old new → IsPlan holds BITS root Q limit v new first
plan_renewed one laws holds BITS root P Q p limit v old new first schema good good_too differ lists declared plan renewed =
    let way = way_made one root P Q good good_too p differ laws schema lists in
    let sites = sites_of P root in
    let inside : first < length sites = omega (arith, plan.last, plan.count) in
    let at : AreSitesFrom sites 0 sites = λ i s below. rw (zero-add i) (get_or_default sites i no_site s below) in
    let here = last_site P None sites 0 first [] root [] (omega (arith, plan.last, plan.count)) at in
    let on : IsOnWay p sites first [] root p = record { front = []; whole = refl; text = refl; inside = inside; node = ap (λ s. Site.node s) here; path_is = ap (λ s. Site.path s) here; end = declared.1.0; leads = declared.1.1 } in
    let values = values_over P Q v lists plan.values in
    let done = renewed.right root P p sites (sites_of Q root) way on plan.count values plan.right in
    let all : first + 1 ≡ length new = omega (arith, plan.last, renewed.count) in
    record {
      within = plan.within;
      room = plan.room;
      values = values;
      count = renewed.count ∙ (plan.count ∙ sym way.count);
      last = all;
      right = λ i e l. done.right i e (omega arith);
    }

-- in terms of the plan's view, where the pools are changed so
pub plan_changed : OneText → SchemaLaws → {Z : Type 0} (holds : Z → ℕ → Type 0) (BITS : ℕ) (root : Node) (P Q : Pools) (p : FieldPath) (limit : ℕ) (v : Values) (old new : List (Entry Z)) (first : ℕ) (q : Question) (change : Pools → Pools)
    → record { root = root; pools = P; limit = limit } ≡ q → Q ≡ change P → ListTheSame P (change P) → IsSchema root → HasGoodPaths q.root q.pools → HasGoodPaths q.root (change q.pools) → DifferAlong q.root q.pools (change q.pools) p → IsDeclared q.root p
    → IsPlan holds BITS root P limit v old first → IsRenewed holds limit Q v [] root first p old new → IsPlan holds BITS root Q limit v new first
plan_changed one laws holds BITS root P Q p limit v old new first q change view is lists schema good good_too differ declared plan renewed =
    let at : HasGoodPaths root P → HasGoodPaths root (change P) → DifferAlong root P (change P) p → IsDeclared root p → IsPlan holds BITS root (change P) limit v new first = λ good good_too differ declared.
    plan_renewed one laws holds BITS root P (change P) p limit v old new first schema good good_too differ lists declared plan (subst (λ X. IsRenewed holds limit X v [] root first p old new) is renewed)
    in
    subst (λ X. IsPlan holds BITS root X limit v new first) (sym is)
    (subst (λ (x : Question). HasGoodPaths x.root x.pools → HasGoodPaths x.root (change x.pools) → DifferAlong x.root x.pools (change x.pools) p → IsDeclared x.root p → IsPlan holds BITS root (change P) limit v new first) view at good good_too differ declared)
