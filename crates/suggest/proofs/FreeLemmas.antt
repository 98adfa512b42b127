-- At a varied path and below it the parts of the object are over the pools around it.
use Rattle.std.proofs.Common.{◌≡◌, ◌<◌, ◌⊎◌, ℕ, zero, suc, List, [], ◌∷◌, ◌++◌, Bool, true, false, ◌||◌, ◌&&◌, not, Option, Some, None, length, map, filter, flat_map, option_map, option_and_then, is_some, unwrap_or, refl, sym, ap, ◌∙◌, subst, inl, inr, arith, append-nil}
use Rattle.std.specs.List.{cons_option}
use Rattle.std.specs.Str.{bytes_eq}
use Rattle.std.proofs.lemmas.Bool.{and_parts, and_from}
use Rattle.jtree.specs.Data.{Data, Items, no_items, item as item_of, Members, no_members, member}
use Rattle.jtree.specs.Data as tree
use Rattle.jtree.specs.Kind.{is_boolean}
use Rattle.jtree.specs.Path.{Step, name, index, Path, member_at, item_at, part_by, under}
use Rattle.jtree.specs.Internal.Lookups.{bool_cases, option_cases, same_name, own_name}
use Rattle.jtree.specs.Internal.Rising.{Among, among_left, among_right}
use Rattle.schema.specs.Document.Texts.{is_among}
use Rattle.schema.specs.Nodes.Node.{Node, node, scalar, object, list, open_, Fields, no_fields, Validations, validations, Branches, IsNode, AreOrdered}
use Rattle.schema.specs.Nodes.Node as nodes
use Rattle.schema.specs.Nodes.ByPlace.{Declared, field_at, node_below}
use Rattle.schema.specs.declared.node.Constraints.{Constraints}
use Rattle.schema.specs.declared.node.ListType.TheVariants.{Atomic, Set, Map}
use Rattle.schema.specs.declared.node.ScalarKind.{ScalarKind}
use Rattle.schema.specs.declared.node.ScalarKind.TheVariants.{Boolean, Integer, Number, String, IntOrString}
use Rattle.stored.specs.Objects.Becomes.{IsStored}
use Rattle.stored.specs.Objects.Fault.{is_null, constraints_of, items_count, members_count}
use Rattle.stored.specs.Objects.Parts.{at, part_of, part_by_path, leads}
use Rattle.stored.specs.Objects.Tests.{accepts_scalar, is_same, is_choice, is_other_value, fails_enum, meets_constraints, holds}
use Rattle.stored.specs.Objects.StoredByParts.{IsValidHere, IsStoredField}
use Rattle.explain.specs.Paths.FieldPath.{FieldStep, field, item, value, FieldPath, place_step}
use Rattle.explain.specs.Paths.PathText.{path_text}
use Rattle.plan.specs.Pools.Pools.{Pools, items_list, list_at, fixed_at, is_present}
use Rattle.plan.specs.Samples.Site.{below, fixed_below}
use Rattle.plan.specs.Samples.Over.{scalars_of, scalars_for, listed, listed_for, is_in, all_names, asks_field, has_present, has_enough, is_over_here, StepFollows, IsOverAlong}
use Rattle.plan.specs.Samples.Leasts.{has_lesser}
use Rattle.plan.specs.Internal.LeastLaws.{least_in, none_lesser}
use Rattle.suggest.specs.Suggested.Leasts.{IsLeastAmong, IsLeastAt}
use Rattle.suggest.specs.Suggested.LeftOut.{Follows}
use Rattle.suggest.specs.Suggested.VariedSamples.{can_be_sampled}
use Rattle.suggest.specs.Suggested.Chosen.{chosen_values}
use Rattle.suggest.specs.Suggested.ValuesBelow.{field_values, items_in, item_values, trees_of, names_of, members_in, member_values, member_names}
use Rattle.suggest.specs.Suggested.LeafValues.{General, takes, lists_itself, general_values, hinted_values, or_general, joined, leaf_values}
use Rattle.suggest.specs.Suggested.Lists.{Entry, entry_of, schema_of_field, schema_of_items, schema_of_values, lists_at, lists_of_fields, names_at, names_of_fields}
use Rattle.suggest.proofs.VariedSampleLemmas.{StoredLaw, own_values, field_node}
use Rattle.suggest.proofs.EntryLemmas.{values_at}
use Rattle.suggest.proofs.SuggestionLemmas.{OneText, further, other_field, before_off, lists_off, lists_off_fields, left_same, right_same}
use Rattle.suggest.proofs.UncutLemmas.{own_same, values_uncut, some_chosen}

-- samples can have each part at its node
abbrev pub CanAllBeSampled : Node → Data → Type 0
CanAllBeSampled N v = (path : Path) (M : Node) (w : Data) → part_by_path leads (at N v) path ≡ Some (at M w) → can_be_sampled M w ≡ true

-- each part that is a number is the least of its value among what is listed for it
abbrev pub AreAllLeast : Pools → List ℕ → Node → Data → Type 0
AreAllLeast P at_path N v = (path : Path) (p : FieldPath) (M : Node) (w : Data) → Follows path p → part_by_path leads (at N v) path ≡ Some (at M w) → IsLeastAt P (at_path ++ path_text p) M w

least_there : (ds : List Data) (v : Data) → IsLeastAmong ds v → has_lesser v ds ≡ false
least_there ds (tree.number s) least = least
least_there ds tree.null least = none_lesser tree.null ds refl
least_there ds (tree.boolean b) least = none_lesser (tree.boolean b) ds refl
least_there ds (tree.integer z) least = none_lesser (tree.integer z) ds refl
least_there ds (tree.text s) least = none_lesser (tree.text s) ds refl
least_there ds (tree.list es) least = none_lesser (tree.list es) ds refl
least_there ds (tree.object ms) least = none_lesser (tree.object ms) ds refl

-- what is listed and is the least is over the pools
pub in_listed : (P : Pools) (path : List ℕ) (N : Node) (v : Data) → IsLeastAt P path N v → is_in v (unwrap_or (list_at path P) (listed_for P N)) ≡ true → is_in v (listed P path N) ≡ true
in_listed P path N v least there = least_in v (unwrap_or (list_at path P) (listed_for P N)) there (least_there (unwrap_or (list_at path P) (listed_for P N)) v least)

-- ---- parts at nodes below

pub leads_there : (N M : Node) (v w : Data) (s : Step) (t : FieldStep) → StepFollows s t → node_below N (place_step t) ≡ Some M → part_by v s ≡ Some w → leads N v s ≡ Some (at M w)
leads_there (node nullable description (object fs preserves type bounds cs)) M (tree.object ms) w (name j) (field k) follows down found =
    let names : node_below (node nullable description (object fs preserves type bounds cs)) (place_step (field j)) ≡ Some M =
    subst (λ n. node_below (node nullable description (object fs preserves type bounds cs)) (place_step (field n)) ≡ Some M) (sym follows) down in
    ap (λ o. option_map (part_of o) (member_at j ms)) names ∙ ap (option_map (at M)) found
leads_there (node nullable description (nodes.map N type bounds)) M (tree.object ms) w (name j) value follows down found =
    ap (λ o. option_map (part_of o) (member_at j ms)) down ∙ ap (option_map (at M)) found
leads_there (node nullable description (list N type keys bounds)) M (tree.list ds) w (index i) item follows down found =
    ap (λ o. option_map (part_of o) (item_at i ds)) down ∙ ap (option_map (at M)) found
leads_there N M v w (name j) item follows down found = absurd follows
leads_there N M v w (index i) (field k) follows down found = absurd follows
leads_there N M v w (index i) value follows down found = absurd follows
leads_there N M v w s t follows down found = absurd (cc)

sampled_below : (N M : Node) (v w : Data) (s : Step) (t : FieldStep) → StepFollows s t → node_below N (place_step t) ≡ Some M → part_by v s ≡ Some w → CanAllBeSampled N v → CanAllBeSampled M w
sampled_below N M v w s t follows down found h path K u there =
    h (s ∷ path) K u (ap (option_and_then (λ r. part_by_path leads r path)) (leads_there N M v w s t follows down found) ∙ there)

least_below : (P : Pools) (at_path : List ℕ) (N M : Node) (v w : Data) (s : Step) (t : FieldStep) → StepFollows s t → node_below N (place_step t) ≡ Some M → part_by v s ≡ Some w → AreAllLeast P at_path N v
    → AreAllLeast P (below at_path t) M w
least_below P at_path N M v w s t follows down found h path p K u on there = subst (λ x. IsLeastAt P x K u) (sym (further at_path t p))
    (h (s ∷ path) (t ∷ p) K u (follows, on) (ap (option_and_then (λ r. part_by_path leads r path)) (leads_there N M v w s t follows down found) ∙ there))

-- ---- what stands below

pub among_under : (k : List ℕ) (vs : List Data) (v w : Data) → Among vs v → under v k ≡ Some w → Among (field_values k vs) w
among_under k [] v w a found = absurd a
among_under k (u ∷ vs) v w (inl e) found = let here : under u k ≡ Some w = subst (λ x. under x k ≡ Some w) (sym e) found in rw here (inl refl)
among_under k (u ∷ vs) v w (inr a) found = later (under u k) (field_values k vs) w (among_under k vs v w a found) where
  later : (o : Option Data) (ws : List Data) (w : Data) → Among ws w → Among (cons_option o ws) w
  later None ws w a = a
  later (Some x) ws w a = inr a

pub among_flat : {X : Type 0} (f : Data → List X) (vs : List Data) (v : Data) (x : X) → Among vs v → Among (f v) x → Among (flat_map f vs) x
among_flat f [] v x a h = absurd a
among_flat f (u ∷ vs) v x (inl e) h = among_left (f u) (flat_map f vs) x (subst (λ y. Among (f y) x) (sym e) h)
among_flat f (u ∷ vs) v x (inr a) h = among_right (f u) (flat_map f vs) x (among_flat f vs v x a h)

pub among_trees : (ms : Members) (k : List ℕ) (w : Data) → member_at k ms ≡ Some w → Among (trees_of ms) w
among_trees no_members k w found = absurd (cc)
among_trees (member l d ms) k w found = elim (bool_cases (bytes_eq k l)) [
  | inl same ↦ let here : Some d ≡ Some w = rw same at found in inl (let is : d ≡ w = cc in is)
  | inr other ↦ inr (among_trees ms k w (rw other at found))
]

pub among_items : (ds : Items) (i : ℕ) (w : Data) → item_at i ds ≡ Some w → Among (items_list ds) w
among_items no_items i w found = absurd (cc)
among_items (item_of d ds) zero w found = inl (let is : d ≡ w = cc in is)
among_items (item_of d ds) (suc i) w found = inr (among_items ds i w found)

all_named : (test : List ℕ → Bool) (ms : Members) → ((k : List ℕ) → Among (names_of ms) k → test k ≡ true) → all_names test ms ≡ true
all_named test no_members h = refl
all_named test (member k d ms) h = and_from (test k) (all_names test ms) (h k (inl refl)) (all_named test ms (λ l a. h l (inr a)))

-- ---- lists and names below

field_lists : OneText → (G : General) (vs : List Data) (schema : Option Data) (path : List ℕ) (fs : Fields) (k : List ℕ) (f : Declared) (p : FieldPath) → AreOrdered fs → field_at k fs ≡ Some f
    → values_at (path ++ path_text (field k ∷ p)) (lists_of_fields G vs schema path fs)
    ≡ values_at (path ++ path_text (field k ∷ p)) (lists_at G (field_values k vs) f.default (schema_of_field schema k) (below path (field k)) f.node)
field_lists one G vs schema path no_fields k f p ordered found = absurd (cc)
field_lists one G vs schema path (nodes.field l N required default fs) k f p ordered found = elim (bool_cases (bytes_eq k l)) [
  | inl same ↦
      let here : Some (record { node = N; required = required; default = default }) ≡ Some f = rw same at found in
      let is : record { node = N; required = required; default = default } ≡ f = cc in
      let name : l ≡ k = sym (same_name k l same) in
      let rest : (p : FieldPath) → values_at (path ++ path_text (field l ∷ p)) (lists_of_fields G vs schema path (nodes.field l N required default fs))
      ≡ values_at (path ++ path_text (field l ∷ p)) (lists_at G (field_values l vs) default (schema_of_field schema l) (below path (field l)) N) = λ p.
      left_same (path ++ path_text (field l ∷ p)) (lists_at G (field_values l vs) default (schema_of_field schema l) (below path (field l)) N) (lists_of_fields G vs schema path fs)
      (lists_off_fields G vs schema path fs (path ++ path_text (field l ∷ p)) (before_off one path l p fs ordered.1 ordered.2)) in
      subst (λ (g : Declared). values_at (path ++ path_text (field k ∷ p)) (lists_of_fields G vs schema path (nodes.field l N required default fs))
      ≡ values_at (path ++ path_text (field k ∷ p)) (lists_at G (field_values k vs) g.default (schema_of_field schema k) (below path (field k)) g.node)) is
      (subst (λ n. values_at (path ++ path_text (field n ∷ p)) (lists_of_fields G vs schema path (nodes.field l N required default fs))
      ≡ values_at (path ++ path_text (field n ∷ p)) (lists_at G (field_values n vs) default (schema_of_field schema n) (below path (field n)) N)) name (rest p))
  | inr other ↦
      let names : l ≡ k → ⊥ = λ e. let own = own_name k in let no : bytes_eq k k ≡ false = subst (λ n. bytes_eq k n ≡ false) e other in cc in
      right_same (path ++ path_text (field k ∷ p)) (lists_at G (field_values l vs) default (schema_of_field schema l) (below path (field l)) N) (lists_of_fields G vs schema path fs)
      (lists_off G (field_values l vs) default (schema_of_field schema l) (below path (field l)) N (path ++ path_text (field k ∷ p)) (other_field one path k l p names))
      ∙ field_lists one G vs schema path fs k f p ordered.2 (rw other at found)
]

field_names : (vs : List Data) (fs : Fields) (k : List ℕ) (f : Declared) (x : List ℕ) → field_at k fs ≡ Some f → Among (names_at (field_values k vs) f.node) x → Among (names_of_fields vs fs) x
field_names vs no_fields k f x found a = absurd (cc)
field_names vs (nodes.field l N required default fs) k f x found a = elim (bool_cases (bytes_eq k l)) [
  | inl same ↦
      let here : Some (record { node = N; required = required; default = default }) ≡ Some f = rw same at found in
      let is : f.node ≡ N = cc in
      among_left (names_at (field_values l vs) N) (names_of_fields vs fs) x
      (subst (λ n. Among (names_at (field_values n vs) N) x) (same_name k l same) (subst (λ M. Among (names_at (field_values k vs) M) x) is a))
  | inr other ↦ among_right (names_at (field_values l vs) N) (names_of_fields vs fs) x (field_names vs fs k f x (rw other at found) a)
]

-- ---- where nothing is fixed or asked for

-- at a path and below it, with these lists
pub record AreFree (P : Pools) (path : List ℕ) (es : List Entry) : Type 0 where
  pub fixed : (p : FieldPath) → fixed_at (path ++ path_text p) P ≡ None
  pub present : (p : FieldPath) → is_present (path ++ path_text p) P ≡ false
  pub lists : (p : FieldPath) → list_at (path ++ path_text p) P ≡ values_at (path ++ path_text p) es

free_step : (P : Pools) (path : List ℕ) (s : FieldStep) (es ds : List Entry) → ((p : FieldPath) → values_at (path ++ path_text (s ∷ p)) es ≡ values_at (path ++ path_text (s ∷ p)) ds) → AreFree P path es
    → AreFree P (below path s) ds
free_step P path s es ds same f = record {
  fixed = λ p. subst (λ t. fixed_at t P ≡ None) (sym (further path s p)) (f.fixed (s ∷ p));
  present = λ p. subst (λ t. is_present t P ≡ false) (sym (further path s p)) (f.present (s ∷ p));
  lists = λ p. subst (λ t. list_at t P ≡ values_at t ds) (sym (further path s p)) (f.lists (s ∷ p) ∙ same p);
}

pub free_unfixed : (P : Pools) (path : List ℕ) (es : List Entry) → AreFree P path es → fixed_at path P ≡ None
free_unfixed P path es f = subst (λ t. fixed_at t P ≡ None) (append-nil path) (f.fixed [])

not_asked : (P : Pools) (path : List ℕ) (s : FieldStep) (es : List Entry) → AreFree P path es → is_present (below path s) P ≡ false
not_asked P path s es f = subst (λ t. is_present t P ≡ false) (append-nil (below path s)) (subst (λ t. is_present t P ≡ false) (sym (further path s [])) (f.present (s ∷ [])))

none_asked : (P : Pools) (path : List ℕ) (fs : Fields) (es : List Entry) → AreFree P path es → asks_field P path fs ≡ false
none_asked P path no_fields es f = refl
none_asked P path (nodes.field k N required default fs) es f = rw (not_asked P path (field k) es f) (none_asked P path fs es f)

none_missing : (P : Pools) (path : List ℕ) (fs : Fields) (ms : Members) (es : List Entry) → AreFree P path es → has_present P path fs ms ≡ true
none_missing P path no_fields ms es f = refl
none_missing P path (nodes.field k N required default fs) ms es f = rw (not_asked P path (field k) es f) (none_missing P path fs ms es f)

-- each list has fewer values than there can be
abbrev pub AreShort : Pools → ℕ → Type 0
AreShort P most = (text : List ℕ) (vs : List Data) → list_at text P ≡ Some vs → length vs < most

-- a part of the object in a free region, where these values stand in the object
pub record IsFreePart (P : Pools) (G : General) (path : List ℕ) (N : Node) (v : Data) : Type 0 where
  pub values : List Data
  pub default : Option Data
  pub schema : Option Data
  pub among : Among values v
  pub ordered : IsNode N
  pub stored : IsStored N v
  pub sampled : CanAllBeSampled N v
  pub least : AreAllLeast P path N v
  pub free : AreFree P path (lists_at G values default schema path N)
  pub named : (k : List ℕ) → Among (names_at values N) k → is_among k P.names ≡ true

-- ---- a scalar or a value of an open node

pub among_kept : (test : Data → Bool) (vs : List Data) (v : Data) → Among vs v → test v ≡ true → Among (filter test vs) v
among_kept test [] v a h = absurd a
among_kept test (u ∷ vs) v (inl e) h = let here : test u ≡ true = subst (λ x. test x ≡ true) (sym e) h in rw here (inl e)
among_kept test (u ∷ vs) v (inr a) h = elim (bool_cases (test u)) [
  | inl keeps ↦ rw keeps (inr (among_kept test vs v a h))
  | inr drops ↦ rw drops (among_kept test vs v a h)
]

entry_found : (path : List ℕ) (vs : List Data) (o : Option (List Data)) → o ≡ values_at path (entry_of path vs) → 0 < length vs → o ≡ Some vs
entry_found path [] o is some = absurd (omega arith)
entry_found path (v ∷ vs) o is some = is ∙ own_values path (v ∷ vs)

first_listed : (most : ℕ) (u : Data) (us : List Data) (v : Data) (path : List ℕ) (o : Option (List Data)) → Among (u ∷ us) v → 0 < most
    → o ≡ values_at path (entry_of path (chosen_values most (u ∷ us))) → ((vs : List Data) → o ≡ Some vs → length vs < most) → (ds : List Data) → is_in v (unwrap_or o ds) ≡ true
first_listed most u us v path o a room is short ds =
    let found = entry_found path (chosen_values most (u ∷ us)) o is (some_chosen most u us room) in
    subst (λ x. is_in v (unwrap_or x ds) ≡ true) (sym found) (values_uncut most (u ∷ us) v a (short (chosen_values most (u ∷ us)) found))

-- what stands there is listed, but where the node lists its values itself
standing_listed : (most : ℕ) (G : General) (N : Node) (standing hinted : List Data) (v : Data) (path : List ℕ) (o : Option (List Data)) → Among standing v → 0 < most
    → o ≡ values_at path (entry_of path (chosen_values most (joined G N standing hinted))) → ((vs : List Data) → o ≡ Some vs → length vs < most) → (ds : List Data)
    → (lists_itself N ≡ true → is_in v ds ≡ true) → is_in v (unwrap_or o ds) ≡ true
standing_listed most G N [] hinted v path o a room is short ds itself = absurd a
standing_listed most G N (u ∷ us) hinted v path o a room is short ds itself = elim (bool_cases G.beside) [
  | inl beside ↦ elim (bool_cases (lists_itself N)) [
    | inl lists ↦
        let none : o ≡ None = rw (beside, lists) at is in
        subst (λ x. is_in v (unwrap_or x ds) ≡ true) (sym none) (itself lists)
    | inr other ↦
        first_listed most u (us ++ or_general hinted (general_values G N)) v path o (among_left (u ∷ us) (or_general hinted (general_values G N)) v a) room (rw (beside, other) at is) short ds
  ]
  | inr alone ↦ first_listed most u us v path o a room (rw alone at is) short ds
]

leaf_listed : (P : Pools) (G : General) (path : List ℕ) (N : Node) (vs : List Data) (default schema : Option Data) (v : Data) → AreShort P G.limits.entries → 0 < G.limits.entries
    → Among vs v → takes N v ≡ true → (lists_itself N ≡ true → is_in v (listed_for P N) ≡ true) → IsLeastAt P path N v → AreFree P path (entry_of path (leaf_values G vs default schema N)) → is_in v (listed P path N) ≡ true
leaf_listed P G path N vs default schema v short room a accepted itself least f = in_listed P path N v least
    (standing_listed G.limits.entries G N (filter (takes N) vs) (hinted_values G N default schema) v path (list_at path P) (among_kept (takes N) vs v a accepted) room
    (subst (λ t. list_at t P ≡ values_at t (entry_of path (leaf_values G vs default schema N))) (append-nil path) (f.lists [])) (short path) (listed_for P N) itself)

pub or_left : (a b : Bool) → a ≡ true → (a || b) ≡ true
or_left true b e = refl
or_left false b e = absurd (cc)

pub or_right : (a b : Bool) → b ≡ true → (a || b) ≡ true
or_right true b e = refl
or_right false b e = e

-- ---- a node that lists its values itself

same_choice : (v : Data) (ds : Items) → is_choice v ds ≡ is_in v (items_list ds)
same_choice v no_items = refl
same_choice v (item_of d ds) = ap (λ b. is_same v d || b) (same_choice v ds)

not_not : (b : Bool) → not (not b) ≡ true → b ≡ true
not_not true e = refl
not_not false e = absurd (cc)

meets_choice : (t : Constraints) (ds : Items) (v : Data) → t.written ≡ None → t.choices ≡ Some ds → meets_constraints t v ≡ true → is_choice v ds ≡ true
meets_choice t ds v unwritten is m =
    let passes = rw unwritten at (and_parts (not (fails_enum t v)) _ m).0 in
    not_not (is_choice v ds) (subst (λ o. not (is_other_value o v) ≡ true) is passes)

third : (a b c : Bool) → a ≡ false → b ≡ false → (a || (b || c)) ≡ true → c ≡ true
third a b c x y e = rw (x, y) at e

-- where the schema as it is written is asked
written_choice : (t : Constraints) (ds : Items) (ks : Members) (v : Data) → t.written ≡ Some ks → t.choices ≡ Some ds → is_null v ≡ false
    → (is_null v || (not (is_some t.written) || not (is_other_value t.choices v))) ≡ true → is_choice v ds ≡ true
written_choice t ds ks v written is some sampled =
    let own = third (is_null v) (not (is_some t.written)) (not (is_other_value t.choices v)) some (ap (λ o. not (is_some o)) written) sampled in
    not_not (is_choice v ds) (subst (λ o. not (is_other_value o v) ≡ true) is own)

no_object : (kind : ScalarKind) (ms : Members) → accepts_scalar kind (tree.object ms) ≡ true → ⊥
no_object Boolean ms e = cc
no_object Integer ms e = cc
no_object String ms e = cc
no_object Number ms e = cc
no_object IntOrString ms e = cc

-- what is taken is not null
no_null : (kind : ScalarKind) → accepts_scalar kind tree.null ≡ true → ⊥
no_null Boolean e = cc
no_null Integer e = cc
no_null String e = cc
no_null Number e = cc
no_null IntOrString e = cc

pub some_taken : (N : Node) (v : Data) → takes N v ≡ true → is_null v ≡ false
some_taken (node nullable description (scalar kind cs)) tree.null e = absurd (no_null kind (and_parts (accepts_scalar kind tree.null) (holds cs tree.null) e).0)
some_taken N tree.null e = absurd (cc)
some_taken N (tree.boolean b) e = refl
some_taken N (tree.integer z) e = refl
some_taken N (tree.number s) e = refl
some_taken N (tree.text s) e = refl
some_taken N (tree.list ds) e = refl
some_taken N (tree.object ms) e = refl

scalar_meets : (kind : ScalarKind) (t : Constraints) (all any one negated : Branches) (v : Data) → accepts_scalar kind v ≡ true → holds (validations t all any one negated) v ≡ true → meets_constraints t v ≡ true
scalar_meets kind t all any one negated tree.null accepted h = (and_parts _ _ h).0
scalar_meets kind t all any one negated (tree.boolean b) accepted h = (and_parts _ _ h).0
scalar_meets kind t all any one negated (tree.integer z) accepted h = (and_parts _ _ h).0
scalar_meets kind t all any one negated (tree.number s) accepted h = (and_parts _ _ h).0
scalar_meets kind t all any one negated (tree.text s) accepted h = (and_parts _ _ h).0
scalar_meets kind t all any one negated (tree.list ds) accepted h = (and_parts _ _ h).0
scalar_meets kind t all any one negated (tree.object ms) accepted h = absurd (no_object kind ms accepted)

head_in : (v : Data) (ds : List Data) → is_in v (v ∷ ds) ≡ true
head_in v ds = or_left (is_same v v) (is_in v ds) (own_same v)

boolean_listed : (P : Pools) (v : Data) → is_boolean v ≡ true → is_in v (scalars_of P) ≡ true
boolean_listed P (tree.boolean false) e = head_in (tree.boolean false) (tree.boolean true ∷ map (λ z. tree.integer z) P.integers ++ map (λ t. tree.text t) P.strings)
boolean_listed P (tree.boolean true) e = or_right (is_same (tree.boolean true) (tree.boolean false)) (is_in (tree.boolean true) (tree.boolean true ∷ map (λ z. tree.integer z) P.integers ++ map (λ t. tree.text t) P.strings))
    (head_in (tree.boolean true) (map (λ z. tree.integer z) P.integers ++ map (λ t. tree.text t) P.strings))
boolean_listed P tree.null e = absurd (cc)
boolean_listed P (tree.integer z) e = absurd (cc)
boolean_listed P (tree.number s) e = absurd (cc)
boolean_listed P (tree.text s) e = absurd (cc)
boolean_listed P (tree.list ds) e = absurd (cc)
boolean_listed P (tree.object ms) e = absurd (cc)

without_choices : (P : Pools) (nullable : Bool) (description : Option (List ℕ)) (kind : ScalarKind) (cs : Validations) (v : Data) → (constraints_of cs).choices ≡ None → lists_itself (node nullable description (scalar kind cs)) ≡ true
    → accepts_scalar kind v ≡ true → is_in v (scalars_for kind P) ≡ true
without_choices P nullable description Boolean cs v none itself accepted = boolean_listed P v accepted
without_choices P nullable description Integer cs v none itself accepted = absurd (let is : is_some {T = Items} None ≡ true = rw none at itself in cc)
without_choices P nullable description String cs v none itself accepted = absurd (let is : is_some {T = Items} None ≡ true = rw none at itself in cc)
without_choices P nullable description Number cs v none itself accepted = absurd (let is : is_some {T = Items} None ≡ true = rw none at itself in cc)
without_choices P nullable description IntOrString cs v none itself accepted = absurd (let is : is_some {T = Items} None ≡ true = rw none at itself in cc)

-- a value that is taken there is over the pools where there is no list
itself_listed : (P : Pools) (nullable : Bool) (description : Option (List ℕ)) (kind : ScalarKind) (cs : Validations) (v : Data) → can_be_sampled (node nullable description (scalar kind cs)) v ≡ true
    → takes (node nullable description (scalar kind cs)) v ≡ true → lists_itself (node nullable description (scalar kind cs)) ≡ true → is_in v (listed_for P (node nullable description (scalar kind cs))) ≡ true
itself_listed P nullable description kind (validations t all any one negated) v sampled taken itself =
    let both = and_parts (accepts_scalar kind v) (holds (validations t all any one negated) v) taken in
    let some = some_taken (node nullable description (scalar kind (validations t all any one negated))) v taken in
    let chosen = λ (ds : Items) (is : t.choices ≡ Some ds). elim (option_cases t.written) as (λ _. is_choice v ds ≡ true) [
      | inl unwritten ↦ meets_choice t ds v unwritten is (scalar_meets kind t all any one negated v both.0 both.1)
      | inr written ↦ written_choice t ds written.0 v written.1 is some sampled
    ] in
    elim (option_cases t.choices) [
      | inl none ↦ rw none (without_choices P nullable description kind (validations t all any one negated) v none itself both.0)
      | inr listed ↦ rw listed.1 (sym (same_choice v listed.0) ∙ chosen listed.0 listed.1)
    ]

-- ---- what is valid is null or taken

pub scalar_valid : (nullable : Bool) (description : Option (List ℕ)) (kind : ScalarKind) (cs : Validations) (v : Data) → IsValidHere (node nullable description (scalar kind cs)) v
    → (takes (node nullable description (scalar kind cs)) v ≡ true) ⊎ ((is_null v && nullable) ≡ true)
scalar_valid nullable description kind cs tree.null h = inr (and_parts _ _ h).0
scalar_valid nullable description kind cs (tree.boolean b) h = inl (and_from _ _ h.0 h.1)
scalar_valid nullable description kind cs (tree.integer z) h = inl (and_from _ _ h.0 h.1)
scalar_valid nullable description kind cs (tree.number s) h = inl (and_from _ _ h.0 h.1)
scalar_valid nullable description kind cs (tree.text s) h = inl (and_from _ _ h.0 h.1)
scalar_valid nullable description kind cs (tree.list ds) h = inl (and_from _ _ h.0 h.1)
scalar_valid nullable description kind cs (tree.object ms) h = inl (and_from _ _ h.0 h.1)

pub open_valid : (nullable : Bool) (description : Option (List ℕ)) (v : Data) → IsValidHere (node nullable description open_) v
    → (takes (node nullable description open_) v ≡ true) ⊎ ((is_null v && nullable) ≡ true)
open_valid nullable description tree.null h = inr h
open_valid nullable description (tree.boolean b) h = inl refl
open_valid nullable description (tree.integer z) h = inl refl
open_valid nullable description (tree.number s) h = inl refl
open_valid nullable description (tree.text s) h = inl refl
open_valid nullable description (tree.list ds) h = inl refl
open_valid nullable description (tree.object ms) h = inl refl

-- ---- a part is over the pools at its node

own_least : (P : Pools) (G : General) (path : List ℕ) (N : Node) (v : Data) → IsFreePart P G path N v → IsLeastAt P path N v
own_least P G path N v f = subst (λ x. IsLeastAt P x N v) (append-nil path) (f.least [] [] N v tt refl)

free_here : StoredLaw → (P : Pools) (G : General) (path : List ℕ) (N : Node) (v : Data) → AreShort P G.limits.entries → 0 < G.limits.entries → IsFreePart P G path N v → is_over_here P path N v ≡ true
free_here law P G path (node nullable description (scalar kind cs)) v short room f = elim (scalar_valid nullable description kind cs v ((law (node nullable description (scalar kind cs)) v).0 f.stored).0) [
  | inl accepted ↦ or_left (is_in v (listed P path (node nullable description (scalar kind cs)))) (is_null v && nullable)
      (leaf_listed P G path (node nullable description (scalar kind cs)) f.values f.default f.schema v short room f.among accepted (itself_listed P nullable description kind cs v (f.sampled [] (node nullable description (scalar kind cs)) v refl) accepted) (own_least P G path (node nullable description (scalar kind cs)) v f) f.free)
  | inr null ↦ or_right (is_in v (listed P path (node nullable description (scalar kind cs)))) (is_null v && nullable) null
]
free_here law P G path (node nullable description open_) v short room f = elim (open_valid nullable description v ((law (node nullable description open_) v).0 f.stored).0) [
  | inl accepted ↦ or_left (is_in v (listed P path (node nullable description open_))) (is_null v && nullable)
      (leaf_listed P G path (node nullable description open_) f.values f.default f.schema v short room f.among accepted (λ itself. absurd (cc)) (own_least P G path (node nullable description open_) v f) f.free)
  | inr null ↦ or_right (is_in v (listed P path (node nullable description open_))) (is_null v && nullable) null
]
free_here law P G path (node nullable description (object fs preserves type bounds cs)) (tree.object ms) short room f =
    and_from (all_names (λ k. is_some (field_at k fs)) ms) (has_present P path fs ms) (f.sampled [] (node nullable description (object fs preserves type bounds cs)) (tree.object ms) refl)
    (none_missing P path fs ms (lists_at G f.values f.default f.schema path (node nullable description (object fs preserves type bounds cs))) f.free)
free_here law P G path (node nullable description (object fs preserves type bounds cs)) tree.null short room f =
    ap not (none_asked P path fs (lists_at G f.values f.default f.schema path (node nullable description (object fs preserves type bounds cs))) f.free)
free_here law P G path (node nullable description (object fs preserves type bounds cs)) (tree.boolean b) short room f = refl
free_here law P G path (node nullable description (object fs preserves type bounds cs)) (tree.integer z) short room f = refl
free_here law P G path (node nullable description (object fs preserves type bounds cs)) (tree.number s) short room f = refl
free_here law P G path (node nullable description (object fs preserves type bounds cs)) (tree.text s) short room f = refl
free_here law P G path (node nullable description (object fs preserves type bounds cs)) (tree.list ds) short room f = refl
free_here law P G path (node nullable description (nodes.map N type bounds)) (tree.object ms) short room f =
    and_from (all_names (λ k. is_among k P.names) ms) (has_enough (is_present (below path value) P) (members_count ms))
    (all_named (λ k. is_among k P.names) ms (λ k a. f.named k
    (among_left (member_names f.values) (names_at (member_values f.values) N) k (among_flat (λ v. names_of (members_in v)) f.values (tree.object ms) k f.among a))))
    (ap (λ b. has_enough b (members_count ms)) (not_asked P path value (lists_at G f.values f.default f.schema path (node nullable description (nodes.map N type bounds))) f.free))
free_here law P G path (node nullable description (nodes.map N type bounds)) tree.null short room f =
    ap not (not_asked P path value (lists_at G f.values f.default f.schema path (node nullable description (nodes.map N type bounds))) f.free)
free_here law P G path (node nullable description (nodes.map N type bounds)) (tree.boolean b) short room f = refl
free_here law P G path (node nullable description (nodes.map N type bounds)) (tree.integer z) short room f = refl
free_here law P G path (node nullable description (nodes.map N type bounds)) (tree.number s) short room f = refl
free_here law P G path (node nullable description (nodes.map N type bounds)) (tree.text s) short room f = refl
free_here law P G path (node nullable description (nodes.map N type bounds)) (tree.list ds) short room f = refl
free_here law P G path (node nullable description (list N type keys bounds)) (tree.list ds) short room f =
    ap (λ b. has_enough b (items_count ds)) (not_asked P path item (lists_at G f.values f.default f.schema path (node nullable description (list N type keys bounds))) f.free)
free_here law P G path (node nullable description (list N type keys bounds)) tree.null short room f =
    ap not (not_asked P path item (lists_at G f.values f.default f.schema path (node nullable description (list N type keys bounds))) f.free)
free_here law P G path (node nullable description (list N type keys bounds)) (tree.boolean b) short room f = refl
free_here law P G path (node nullable description (list N type keys bounds)) (tree.integer z) short room f = refl
free_here law P G path (node nullable description (list N type keys bounds)) (tree.number s) short room f = refl
free_here law P G path (node nullable description (list N type keys bounds)) (tree.text s) short room f = refl
free_here law P G path (node nullable description (list N type keys bounds)) (tree.object ms) short room f = refl

-- ---- one step below

pub found_node : (fs : Fields) (k : List ℕ) (M : Node) → option_map (λ f. f.node) (field_at k fs) ≡ Some M → (f : Declared) × (field_at k fs ≡ Some f) × (f.node ≡ M)
found_node fs k M down = cases (field_at k fs) M refl down where
  cases : (o : Option Declared) (M : Node) → o ≡ o → option_map (λ f. f.node) o ≡ Some M → (f : Declared) × (o ≡ Some f) × (f.node ≡ M)
  cases None M same down = absurd (cc)
  cases (Some f) M same down = (f, refl, (let is : f.node ≡ M = cc in is))

free_next : StoredLaw → OneText → (P : Pools) (G : General) (path : List ℕ) (N M : Node) (v w : Data) (s : Step) (t : FieldStep) → StepFollows s t → node_below N (place_step t) ≡ Some M → part_by v s ≡ Some w
    → IsFreePart P G path N v → IsFreePart P G (below path t) M w
free_next law one P G path (node nullable description (object fs preserves type bounds cs)) M (tree.object ms) w (name j) (field k) follows down found p =
    let f = found_node fs k M down in
    let there : member_at k ms ≡ Some w = subst (λ n. member_at n ms ≡ Some w) follows found in
    let parts = (law (node nullable description (object fs preserves type bounds cs)) (tree.object ms)).0 p.stored in
    subst (λ K. IsFreePart P G (below path (field k)) K w) f.2 (record {
      values = field_values k p.values;
      default = f.0.default;
      schema = schema_of_field p.schema k;
      among = among_under k p.values (tree.object ms) w p.among there;
      ordered = field_node fs k f.0 p.ordered f.1;
      stored = subst (λ o. IsStoredField f.0 o) there (parts.1.1 k f.0 f.1);
      sampled = subst (λ K. CanAllBeSampled K w) (sym f.2) (sampled_below (node nullable description (object fs preserves type bounds cs)) M (tree.object ms) w (name j) (field k) follows down found p.sampled);
      least = subst (λ K. AreAllLeast P (below path (field k)) K w) (sym f.2) (least_below P path (node nullable description (object fs preserves type bounds cs)) M (tree.object ms) w (name j) (field k) follows down found p.least);
      free = free_step P path (field k) (lists_of_fields G p.values p.schema path fs) (lists_at G (field_values k p.values) f.0.default (schema_of_field p.schema k) (below path (field k)) f.0.node)
          (λ q. field_lists one G p.values p.schema path fs k f.0 q p.ordered f.1) p.free;
      named = λ x a. p.named x (field_names p.values fs k f.0 x f.1 a);
    })
free_next law one P G path (node nullable description (nodes.map N type bounds)) M (tree.object ms) w (name j) value follows down found p =
    let is : N ≡ M = cc in
    let parts = (law (node nullable description (nodes.map N type bounds)) (tree.object ms)).0 p.stored in
    subst (λ K. IsFreePart P G (below path value) K w) is (record {
      values = member_values p.values;
      default = None;
      schema = schema_of_values p.schema;
      among = among_flat (λ v. trees_of (members_in v)) p.values (tree.object ms) w p.among (among_trees ms j w found);
      ordered = p.ordered;
      stored = parts.1 j w found;
      sampled = subst (λ K. CanAllBeSampled K w) (sym is) (sampled_below (node nullable description (nodes.map N type bounds)) M (tree.object ms) w (name j) value follows down found p.sampled);
      least = subst (λ K. AreAllLeast P (below path value) K w) (sym is) (least_below P path (node nullable description (nodes.map N type bounds)) M (tree.object ms) w (name j) value follows down found p.least);
      free = free_step P path value (lists_at G (member_values p.values) None (schema_of_values p.schema) (below path value) N) (lists_at G (member_values p.values) None (schema_of_values p.schema) (below path value) N)
          (λ q. refl) p.free;
      named = λ x a. p.named x (among_right (member_names p.values) (names_at (member_values p.values) N) x a);
    })
free_next law one P G path (node nullable description (list N type keys bounds)) M (tree.list ds) w (index i) item follows down found p =
    let is : N ≡ M = cc in
    let parts = (law (node nullable description (list N type keys bounds)) (tree.list ds)).0 p.stored in
    subst (λ K. IsFreePart P G (below path item) K w) is (record {
      values = item_values p.values;
      default = None;
      schema = schema_of_items p.schema;
      among = among_flat items_in p.values (tree.list ds) w p.among (among_items ds i w found);
      ordered = p.ordered;
      stored = parts.1 i w found;
      sampled = subst (λ K. CanAllBeSampled K w) (sym is) (sampled_below (node nullable description (list N type keys bounds)) M (tree.list ds) w (index i) item follows down found p.sampled);
      least = subst (λ K. AreAllLeast P (below path item) K w) (sym is) (least_below P path (node nullable description (list N type keys bounds)) M (tree.list ds) w (index i) item follows down found p.least);
      free = free_step P path item (lists_at G (item_values p.values) None (schema_of_items p.schema) (below path item) N) (lists_at G (item_values p.values) None (schema_of_items p.schema) (below path item) N)
          (λ q. refl) p.free;
      named = λ x a. p.named x a;
    })
free_next law one P G path N M v w (name j) item follows down found p = absurd follows
free_next law one P G path N M v w (index i) (field k) follows down found p = absurd follows
free_next law one P G path N M v w (index i) value follows down found p = absurd follows
free_next law one P G path N M v w s t follows down found p = absurd (cc)

unfixed_below : (P : Pools) (path : List ℕ) (N : Node) (t : FieldStep) → fixed_at (below path t) P ≡ None → fixed_below P path N t ≡ None
unfixed_below P path (node nullable description (list N (Map e) keys bounds)) t none = refl
unfixed_below P path (node nullable description (list N Atomic keys bounds)) t none = none
unfixed_below P path (node nullable description (list N (Set e) keys bounds)) t none = none
unfixed_below P path (node nullable description (scalar kind cs)) t none = none
unfixed_below P path (node nullable description open_) t none = none
unfixed_below P path (node nullable description (object fs preserves type bounds cs)) t none = none
unfixed_below P path (node nullable description (nodes.map N type bounds)) t none = none

pub free_over : StoredLaw → OneText → (P : Pools) (G : General) → AreShort P G.limits.entries → 0 < G.limits.entries → (q : Path) (p : FieldPath) (path : List ℕ) (N : Node) (v : Data)
    → IsFreePart P G path N v → IsOverAlong P None path N v q p
free_over law one P G short room [] [] path N v f = free_here law P G path N v short room f
free_over law one P G short room [] (t ∷ p) path N v f = tt
free_over law one P G short room (s ∷ q) [] path N v f = tt
free_over law one P G short room (s ∷ q) (t ∷ p) path N v f = λ M w follows down found.
    let next = free_next law one P G path N M v w s t follows down found f in
    let none = unfixed_below P path N t (free_unfixed P (below path t) (lists_at G next.values next.default next.schema (below path t) M) next.free) in
    subst (λ o. IsOverAlong P o (below path t) M w q p) (sym none) (free_over law one P G short room q p (below path t) M w next)
