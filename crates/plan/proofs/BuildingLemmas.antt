-- What is added to a plan, node by node.
use Rattle.std.specs.Prelude.{◌≡◌, ℕ, ◌+◌, ◌^◌, ◌≤◌, ◌<◌, List, map, take, Bool, false, Option, Some, None, option_map, ◌||◌, is_some}
use Rattle.std.proofs.Common.{Result, Ok, Err, IfOk, refl, ap, sym, subst, ◌∙◌, arith, [], ◌∷◌, ◌++◌, length, get_or}
use Rattle.std.proofs.lemmas.List.{get_or_append_left, get_or_push, get_or-append-add, append-nil, append_assoc, length_push, length-append, take_more}
use Rattle.jtree.specs.View.{data_of}
use Rattle.schema.specs.Document.Texts.{is_among}
use Rattle.schema.specs.Nodes.Node.{Node, node, Sort, scalar, object, list, open_, Fields, no_fields, field, Validations, IsNode}
use Rattle.schema.specs.Nodes.Node as nodes
use Rattle.schema.specs.Nodes.Items.{HasSoundItems}
use Rattle.schema.specs.Nodes.Junctors.{HasSoundJunctors}
use Rattle.schema.specs.declared.node.ListType.{ListType}
use Rattle.schema.specs.Nodes.View.{node_of, fields_of}
use Rattle.schema.specs.declared.node.Field.{Field}
use Rattle.jtree.specs.Data.{Data}
use Rattle.plan.specs.Pools.Pools.{Pools, fixed_at, is_present}
use Rattle.explain.specs.Paths.FieldPath as step
use Rattle.plan.specs.Samples.Sites.{Site, plain, below, where_fixed, fixed_item, item_site, item_keys, sites_from, sites_below, sites_of_fields, Slot, slots, slots_at, field_slots, value_slot}
use Rattle.plan.specs.Samples.Candidates.{sort_at, sort_of}
use Rattle.plan.specs.Samples.Sizes.{bounds_at, bounds_of, ending_at, ending_of}
use Rattle.plan.specs.Samples.Presence.{bit_of}
use Rattle.plan.specs.Internal.Tables.{IsClosed, AreMet}
use Rattle.plan.specs.Samples.RuleOfParts.{takes_null, admits_null}
use Rattle.plan.specs.declared.sort.Sort.TheVariants.{Leaf as LeafSort, Row}
use Rattle.schema.specs.declared.node.Bounds.{Bounds}
use Rattle.plan.specs.Internal.Values.{AreValues}
use Rattle.plan.specs.Internal.Arena.{IsSlot, AreSlots, IsKept, IsRight, AreRightBelow, AreRight, AreSitesFrom}
use Rattle.plan.specs.Samples.Sites.{site_at}
use Rattle.plan.specs.Internal.Building.{IsSound, IsSortSound, AreFieldsSound, IsBuilt, Builds, BuildsLeaf, BuildsSort, AreBuilt, IsFieldSlot}
use Rattle.plan.specs.declared.values.Values.{Values}
use Rattle.plan.specs.declared.arena.SlotName.TheVariants.{Pool}
use Rattle.plan.specs.declared.arena.PlanNode.{PlanNode}
use Rattle.plan.specs.declared.arena.SlotEntry.{SlotEntry}
use Rattle.plan.specs.declared.arena.Entry.{Entry}
use Rattle.plan.specs.declared.arena.Arena.{Arena}
use Rattle.plan.proofs.SizeLemmas.{each_push}
use Rattle.plan.proofs.EntryLemmas.{right_push}

-- ---- sites one after the other

pub sites_left : (sites : List Site) (start : ℕ) (xs ys : List Site) → AreSitesFrom sites start (xs ++ ys) → AreSitesFrom sites start xs
sites_left sites start xs ys h j s l = h j s (omega (arith, length-append xs ys)) ∙ get_or_append_left xs ys s j l

pub sites_right : (sites : List Site) (start : ℕ) (xs ys : List Site) → AreSitesFrom sites start (xs ++ ys) → AreSitesFrom sites (start + length xs) ys
sites_right sites start xs ys h j s l =
    let e : start + length xs + j ≡ start + (length xs + j) = omega arith in
    rw e (h (length xs + j) s (omega (arith, length-append xs ys)) ∙ get_or-append-add xs ys j s)

pub sites_last : (sites : List Site) (start : ℕ) (xs : List Site) (s : Site) → AreSitesFrom sites start (xs ++ s ∷ []) → site_at sites (start + length xs) ≡ s
sites_last sites start xs s h = h (length xs) s (omega (arith, length_push xs s)) ∙ get_or_push xs s s (length xs) refl

-- ---- fields

-- the sites of a field
abbrev field_sites : Pools → List ℕ → Field → List Site
field_sites P path x = sites_from P (fixed_at (below path (step.field x.name)) P) (below path (step.field x.name)) (node_of x.node) []

sites_push : (P : Pools) (path : List ℕ) (xs : List Field) (x : Field) → sites_of_fields P path (fields_of (xs ++ x ∷ [])) ≡ sites_of_fields P path (fields_of xs) ++ field_sites P path x
sites_push P path [] x = append-nil (field_sites P path x)
sites_push P path (y ∷ xs) x =
    ap (λ l. field_sites P path y ++ l) (sites_push P path xs x) ∙ sym (append_assoc (field_sites P path y) (sites_of_fields P path (fields_of xs)) (field_sites P path x))

abbrev slot_of : Pools → List ℕ → List (List ℕ) → List (List ℕ) → Field → Slot
slot_of P path keys named x =
    record { name = x.name; site = plain P (below path (step.field x.name)) (node_of x.node); must = (x.required || is_some (option_map data_of x.default)) || is_present (below path (step.field x.name)) P; key = is_among x.name keys; bit = bit_of x.name named }

slots_push : (P : Pools) (path : List ℕ) (keys named : List (List ℕ)) (xs : List Field) (x : Field) → field_slots P path keys named (fields_of (xs ++ x ∷ [])) ≡ field_slots P path keys named (fields_of xs) ++ slot_of P path keys named x ∷ []
slots_push P path keys named [] x = refl
slots_push P path keys named (y ∷ xs) x = ap (λ l. slot_of P path keys named y ∷ l) (slots_push P path keys named xs x)

sound_push : (xs : List Field) (x : Field) → AreFieldsSound (fields_of (xs ++ x ∷ [])) → AreFieldsSound (fields_of xs) × IsSound (node_of x.node)
sound_push [] x h = (tt, h.0)
sound_push (y ∷ xs) x h = let r = sound_push xs x h.1 in ((h.0, r.0), r.1)

-- the site of the node itself is the last of its sites
pub last_site : (P : Pools) (fixed : Option (List Data)) (sites : List Site) (start n : ℕ) (path : List ℕ) (N : Node) (keys : List (List ℕ)) → n + 1 ≡ start + length (sites_from P fixed path N keys) → AreSitesFrom sites start (sites_from P fixed path N keys) → site_at sites n ≡ record { node = N; keys = keys; path = path; fixed = fixed }
last_site P fixed sites start n path (node nullable description sort) keys last placed =
    let under = where_fixed fixed [] (sites_below P path sort) in
    let s : Site = record { node = node nullable description sort; keys = keys; path = path; fixed = fixed } in
    let e : start + length under ≡ n = omega (arith, last, length_push under s) in
    rw e at (sites_last sites start under s placed)

slots_are_push : (names : List (List ℕ)) (sites : List Site) (i : ℕ) (es : List SlotEntry) (ss : List Slot) (e : SlotEntry) (s : Slot) → AreSlots names sites i es ss → IsSlot names sites i e s → AreSlots names sites i (es ++ e ∷ []) (ss ++ s ∷ [])
slots_are_push names sites i [] [] e s h here = (here, tt)
slots_are_push names sites i [] (t ∷ ss) e s h here = absurd h
slots_are_push names sites i (x ∷ es) [] e s h here = absurd h
slots_are_push names sites i (x ∷ es) (t ∷ ss) e s h here = (h.0, slots_are_push names sites i es ss e s h.1 here)

map_push : {X Y : Type 0} (f : X → Y) (xs : List X) (x : X) → map f (xs ++ x ∷ []) ≡ map f xs ++ f x ∷ []
map_push f [] x = refl
map_push f (y ∷ xs) x = ap (λ l. f y ∷ l) (map_push f xs x)

-- the slot of one name of the pools more
pub value_slots_push : (P : Pools) (names : List (List ℕ)) (sites : List Site) (i k : ℕ) (p : PlanNode) (path : List ℕ) (M : Node) (es : List SlotEntry) → k < length names → p < i → site_at sites p ≡ plain P (below path step.value) M
    → AreSlots names sites i es (map (value_slot P path M) (take k names)) → AreSlots names sites i (es ++ record { name = Pool k; node = p; must = false; key = false; bit = None } ∷ []) (map (value_slot P path M) (take (k + 1) names))
value_slots_push P names sites i k p path M es l within site h =
    let x = get_or names k [] in
    rw (take_more names k [] l, map_push (value_slot P path M) (take k names) x)
    (slots_are_push names sites i es (map (value_slot P path M) (take k names)) _ (value_slot P path M x) h (record { name = refl; below = within; node = site; must = refl; key = refl; bit = refl }))

pub no_fields_built : {Z : Type 0} (holds : Z → ℕ → Type 0) (limit : ℕ) (P : Pools) (v : Values) (es : List (Entry Z)) (path : List ℕ) (keys named : List (List ℕ)) → AreBuilt holds limit P v es es path no_fields keys named []
no_fields_built holds limit P v es path keys named = record {
  count = omega arith;
  below = λ k d l. absurd (omega arith);
  bits = λ k d l. absurd (omega arith);
  right = λ sites values sound placed right. right;
  slots_are = λ names sites i placed within. tt;
}

pub field_built : {Z : Type 0} (holds : Z → ℕ → Type 0) (limit : ℕ) (P : Pools) (v : Values) (old mid new : List (Entry Z)) (path : List ℕ) (xs : List Field) (x : Field) (keys named : List (List ℕ)) (slots : List SlotEntry) (s : SlotEntry)
    → AreBuilt holds limit P v old mid path (fields_of xs) keys named slots → IsBuilt holds limit P v mid new (fixed_at (below path (step.field x.name)) P) (below path (step.field x.name)) (node_of x.node) [] s.node → IsFieldSlot P path keys named x.name x.required (option_map data_of x.default) s → IsClosed (2 ^ length named) s.bit
    → AreBuilt holds limit P v old new path (fields_of (xs ++ x ∷ [])) keys named (slots ++ s ∷ [])
field_built holds limit P v old mid new path xs x keys named slots s a b f closed =
    let before = sites_of_fields P path (fields_of xs) in
    let here = field_sites P path x in
    let start : length old + length before ≡ length mid = sym a.count in
    let first : (sites : List Site) → AreSitesFrom sites (length old) (sites_of_fields P path (fields_of (xs ++ x ∷ []))) → AreSitesFrom sites (length old) before × AreSitesFrom sites (length mid) here = λ sites placed.
    let both : AreSitesFrom sites (length old) (before ++ here) = rw (sites_push P path xs x) at placed in
    (sites_left sites (length old) before here both, rw start at (sites_right sites (length old) before here both))
    in
    record {
      count = rw (sites_push P path xs x) (omega (arith, a.count, b.count, length-append before here));
      below = each_push (λ k (e : SlotEntry). e.node < length new) slots s (λ k d l. let h = a.below k d l in omega (arith, b.count)) (omega (arith, b.last));
      bits = each_push (λ k (e : SlotEntry). IsClosed (2 ^ length named) e.bit) slots s a.bits closed;
      right = λ sites values sound placed right.
          let parts = sound_push xs x sound in
          let split = first sites placed in
          b.right sites values parts.1 split.1 (a.right sites values parts.0 split.0 right);
      slots_are = λ names sites i placed within.
          let split = first sites placed in
          let site = last_site P (fixed_at (below path (step.field x.name)) P) sites (length mid) s.node (below path (step.field x.name)) (node_of x.node) [] (omega (arith, b.last, b.count)) split.1 in
          rw (slots_push P path keys named xs x)
          (slots_are_push names sites i slots (field_slots P path keys named (fields_of xs)) s _ (a.slots_are names sites i split.0 (omega (arith, b.count))) (record { name = f.name_is names; below = omega (arith, b.last); node = site; must = f.must; key = f.key; bit = f.bit }));
    }

-- a node whose sites below are there
pub node_built : {Z : Type 0} (holds : Z → ℕ → Type 0) (limit : ℕ) (P : Pools) (v : Values) (old new : List (Entry Z)) (fixed : Option (List Data)) (path : List ℕ) (nullable : Bool) (description : Option (List ℕ)) (sort : Sort) (keys : List (List ℕ)) (n : ℕ)
    → n ≡ length old + length (where_fixed fixed [] (sites_below P path sort)) → length new ≡ n + 1
    → ((sites : List Site) → AreValues P v → IsSound (node nullable description sort) → AreSitesFrom sites (length old) (where_fixed fixed [] (sites_below P path sort)) → site_at sites n ≡ record { node = node nullable description sort; keys = keys; path = path; fixed = fixed }
    → AreRight holds limit P v sites old → AreRight holds limit P v sites new)
    → IsBuilt holds limit P v old new fixed path (node nullable description sort) keys n
node_built holds limit P v old new fixed path nullable description sort keys n number count right =
    let s : Site = record { node = node nullable description sort; keys = keys; path = path; fixed = fixed } in
    let under = where_fixed fixed [] (sites_below P path sort) in
    record {
      count = omega (arith, length_push under s);
      last = omega arith;
      right = λ sites values sound placed before.
          let here : site_at sites n ≡ s = rw (← number) at (sites_last sites (length old) under s placed) in
          right sites values sound (sites_left sites (length old) under (s ∷ []) placed) here before;
    }

-- what three clauses say of a value, if there is one
-- what is kept twice
pub kept_on : {Z : Type 0} (a b c : Arena Z) → IsKept a b → IsKept b c → IsKept a c
kept_on a b c h k = (k.0 ∙ h.0, k.1 ∙ h.1)

-- what is built of a node is what is built of a leaf, or of its sort where its values are not fixed
pub leaf_answered : {Z E : Type 0} (holds : Z → ℕ → Type 0) (old new : Arena Z) (P : Pools) (fixed : Option (List Data)) (path : List ℕ) (N : Node) (keys : List (List ℕ)) (nullable : Bool) (r : Result ℕ E)
    → nullable ≡ takes_null P path N → IfOk r (BuildsLeaf holds old new P fixed path N nullable) → IfOk r (Builds holds old new P fixed path N keys)
leaf_answered holds old new P fixed path N keys nullable (Ok n) takes h = h keys (sym takes)
leaf_answered holds old new P fixed path N keys nullable (Err e) takes h = tt

pub sort_answered : {Z E X : Type 0} (holds : Z → ℕ → Type 0) (old new : Arena Z) (P : Pools) (trees : X → List Data) (fixed : Option X) (path : List ℕ) (m : Bool) (d : Option (List ℕ)) (s sort : Sort) (keys : List (List ℕ)) (nullable : Bool) (r : Result ℕ E)
    → false ≡ is_some fixed → s ≡ sort → nullable ≡ takes_null P path (node m d s) → IfOk r (BuildsSort holds old new P path sort keys nullable) → IfOk r (Builds holds old new P (option_map trees fixed) path (node m d s) keys)
sort_answered holds old new P trees None path m d s sort keys nullable (Ok n) free is takes h =
    subst (λ x. Builds holds old new P None path (node m d x) keys n) (sym is) (h m d (subst (λ x. takes_null P path (node m d x) ≡ nullable) is (sym takes)))
sort_answered holds old new P trees None path m d s sort keys nullable (Err e) free is takes h = tt
sort_answered holds old new P trees (Some x) path m d s sort keys nullable r free is takes h = absurd (cc)

pub three_ok : {X E : Type 0} (r : Result X E) (A B C D : X → Type 0) → IfOk r A → IfOk r B → IfOk r C → ((x : X) → A x → B x → C x → D x) → IfOk r D
three_ok (Ok x) A B C D a b c d = d x a b c
three_ok (Err e) A B C D a b c d = tt

-- a row whose slots' nodes are there
pub row_built : {Z : Type 0} (holds : Z → ℕ → Type 0) (limit : ℕ) (P : Pools) (v : Values) (old mid new : List (Entry Z)) (path : List ℕ) (nullable : Bool) (description : Option (List ℕ)) (sort : Sort) (keys : List (List ℕ)) (b : Bounds) (cs : Validations) (ends : List Bool) (es : List SlotEntry) (null_ok : Bool) (n : ℕ) (e : Entry Z)
    → takes_null P path (node nullable description sort) ≡ null_ok → IsNode (node nullable description sort) → sort_at (node nullable description sort) ≡ Row → ending_at P path (node nullable description sort) ≡ record { bounds = b; asked = cs } → (HasSoundJunctors (node nullable description sort) → AreMet cs ends)
    → n ≡ length old + length (sites_below P path sort) → length new ≡ n + 1
    → ((sites : List Site) → AreValues P v → IsSortSound sort → AreSitesFrom sites (length old) (sites_below P path sort) → AreRight holds limit P v sites old → AreRight holds limit P v sites mid)
    → ((sites : List Site) → AreValues P v → HasSoundJunctors (node nullable description sort) → AreSitesFrom sites (length old) (sites_below P path sort) → AreSlots v.names.items sites n es (slots_at P path (node nullable description sort) keys))
    → new ≡ mid ++ e ∷ [] → n ≡ length mid
    → ((Q : Pools) (sites : List Site) (i : ℕ) (asked : Validations) → AreRightBelow holds limit Q v sites i mid → i ≤ length mid → IsNode (site_at sites i).node → sort_of (site_at sites i) ≡ Row → ending_of Q (site_at sites i) ≡ record { bounds = b; asked = asked } → AreMet asked ends
    → admits_null Q (site_at sites i) ≡ null_ok → AreSlots v.names.items sites i es (slots Q (site_at sites i)) → IsRight holds limit Q v sites i e)
    → IsBuilt holds limit P v old new None path (node nullable description sort) keys n
row_built holds limit P v old mid new path nullable description sort keys b cs ends es null_ok n e takes o row ending met number count under are added last right =
    node_built holds limit P v old new None path nullable description sort keys n number count
    (λ sites values sound placed here before.
    let rights = under sites values sound.2 placed before in
    let rights_below : AreRightBelow holds limit P v sites n mid = λ i x l. rights i x (omega (arith, last)) in
    right_push holds limit P v sites mid new e n rights added last (right P sites n cs rights_below (omega (arith, last)) (rw here o) (rw here row) (rw here ending) (met sound.1) (rw here takes) (rw here (are sites values sound.1 placed))))

-- a list whose item is there
pub list_built : {Z : Type 0} (holds : Z → ℕ → Type 0) (limit : ℕ) (P : Pools) (v : Values) (old mid new : List (Entry Z)) (path : List ℕ) (nullable : Bool) (description : Option (List ℕ)) (M : Node) (type : ListType) (item_names : List (List ℕ)) (b c : Bounds) (keys : List (List ℕ)) (item : PlanNode) (null_ok : Bool) (n : ℕ) (e : Entry Z)
    → takes_null P path (node nullable description (list M type item_names b)) ≡ null_ok → bounds_at P path (node nullable description (list M type item_names b)) ≡ c → IsNode M → IsBuilt holds limit P v old mid (fixed_item P type (below path step.item)) (below path step.item) M (item_keys type item_names) item → n ≡ length mid → length new ≡ n + 1
    → new ≡ mid ++ e ∷ []
    → ((Q : Pools) (sites : List Site) (i : ℕ) (m : Bool) (d : Option (List ℕ)) → AreRightBelow holds limit Q v sites i mid → item < i → i ≤ length mid → (site_at sites i).node ≡ node m d (list M type item_names b) → admits_null Q (site_at sites i) ≡ null_ok → bounds_of Q (site_at sites i) ≡ c
    → item_site Q (site_at sites i) ≡ Some (site_at sites item) → IsNode (site_at sites i).node → HasSoundItems (site_at sites i).node → IsRight holds limit Q v sites i e)
    → IsBuilt holds limit P v old new None path (node nullable description (list M type item_names b)) keys n
list_built holds limit P v old mid new path nullable description M type item_names b c keys item null_ok n e takes bounds o built number count added right =
    node_built holds limit P v old new None path nullable description (list M type item_names b) keys n (number ∙ built.count) count
    (λ sites values sound placed here before.
    let under = last_site P (fixed_item P type (below path step.item)) sites (length old) item (below path step.item) M (item_keys type item_names) (omega (arith, built.last, built.count)) placed in
    let rights = built.right sites values sound.2 placed before in
    let rights_below : AreRightBelow holds limit P v sites n mid = λ i x l. rights i x (omega (arith, number)) in
    right_push holds limit P v sites mid new e n rights added number
    (right P sites n nullable description rights_below (omega (arith, number, built.last)) (omega (arith, number)) (ap (λ s. Site.node s) here) (rw here takes) (rw here bounds) (rw (here, under) refl) (rw here o) (rw here sound.0)))

-- no site is below a leaf
leaf_below : (P : Pools) (fixed : Option (List Data)) (path : List ℕ) (nullable : Bool) (description : Option (List ℕ)) (sort : Sort) → where_fixed fixed LeafSort (sort_at (node nullable description sort)) ≡ LeafSort
    → length (where_fixed fixed [] (sites_below P path sort)) ≡ 0
leaf_below P (Some ds) path n t sort leaf = refl
leaf_below P None path n t (scalar kind cs) leaf = refl
leaf_below P None path n t (object fs preserves type b cs) leaf = absurd (cc)
leaf_below P None path n t (nodes.map M type b) leaf = absurd (cc)
leaf_below P None path n t (list M type keys b) leaf = absurd (cc)
leaf_below P None path n t open_ leaf = refl

-- a leaf
pub leaf_built : {Z : Type 0} (holds : Z → ℕ → Type 0) (limit : ℕ) (P : Pools) (v : Values) (old new : List (Entry Z)) (fixed : Option (List Data)) (path : List ℕ) (N : Node) (keys : List (List ℕ)) (n : ℕ) (e : Entry Z)
    → where_fixed fixed LeafSort (sort_at N) ≡ LeafSort → new ≡ old ++ e ∷ [] → n ≡ length old → length new ≡ n + 1
    → ((sites : List Site) (i : ℕ) → AreValues P v → site_at sites i ≡ record { node = N; keys = keys; path = path; fixed = fixed } → IsRight holds limit P v sites i e)
    → IsBuilt holds limit P v old new fixed path N keys n
leaf_built holds limit P v old new fixed path (node nullable description sort) keys n e leaf is number count right =
    let none = leaf_below P fixed path nullable description sort leaf in
    node_built holds limit P v old new fixed path nullable description sort keys n (omega (arith, none)) count
    (λ sites values sound placed here before. right_push holds limit P v sites old new e n before is number (right sites n values here))
