-- Over the narrowed pools exactly those samples are left in which the path is there.
use Rattle.std.proofs.Common.{◌≡◌, ◌↔◌, ◌⊎◌, ℕ, zero, suc, List, [], ◌∷◌, ◌++◌, Bool, true, false, Option, Some, None, refl, sym, ap, subst, ◌∙◌, inl, inr, append-nil}
use Rattle.std.specs.Prelude.{◌&&◌, ◌||◌, not, is_some, nat_lt, unwrap_or, option_map}
use Rattle.std.specs.Str.{bytes_eq}
use Rattle.std.proofs.lemmas.Bool.{and_parts, and_from, or_cases}
use Rattle.jtree.specs.Data.{Data, Items, no_items, Members, no_members, member, AreTrees, AreMembers, IsTree}
use Rattle.jtree.specs.Data as tree
use Rattle.jtree.specs.Path.{Path, Step, part_by, item_at, member_at}
use Rattle.jtree.specs.Path as part
use Rattle.jtree.specs.Internal.Lookups.{bool_cases, option_cases, same_name}
use Rattle.schema.specs.declared.node.ScalarKind.{ScalarKind}
use Rattle.schema.specs.declared.node.ScalarKind.TheVariants.{Boolean, Integer, Number, String, IntOrString}
use Rattle.schema.specs.Nodes.Node.{Node, Validations, node, scalar, object, list, open_, Fields, no_fields}
use Rattle.schema.specs.Nodes.Node as nodes
use Rattle.schema.specs.Nodes.ByPlace.{Declared, field_at, node_below, node_at}
use Rattle.schema.specs.declared.node.ListType.TheVariants.{Atomic, Set, Map}
use Rattle.stored.specs.Objects.Becomes.{IsStored}
use Rattle.stored.specs.Objects.Fault.{is_null, constraints_of, items_count, members_count}
use Rattle.stored.specs.Objects.Tests.{is_same}
use Rattle.stored.specs.Objects.StoredByParts.{StoredByParts, IsStoredField}
use Rattle.explain.specs.Paths.FieldPath.{FieldStep, field, item, value, FieldPath, place_step, place_of}
use Rattle.explain.specs.Paths.PathText.{path_text}
use Rattle.plan.specs.Pools.Pools.{Pools, list_at, with_paths, fixed_at, is_present}
use Rattle.plan.specs.Pools.FixedPaths.{is_map_list, IsMapItem}
use Rattle.plan.specs.Samples.Leasts.{has_lesser, leasts}
use Rattle.plan.specs.Samples.Part.{IsPart}
use Rattle.plan.specs.Samples.Site.{below, fixed_below, plain}
use Rattle.schema.specs.Document.Texts.{is_among}
use Rattle.plan.specs.Samples.Over.{choices_or, scalars_for, listed, all_names, is_in, asks_field, has_present, has_enough, is_over_here, StepFollows, IsOverAlong, IsOver}
use Rattle.plan.specs.Internal.LeastLaws.{is_number, least_in, in_leasts, least_of_fewer, leasts_one, none_lesser}
use Rattle.cover.specs.There.{has_value, is_there}
use Rattle.cover.proofs.WayLemmas.{found_field}
use Rattle.cover.proofs.PathLemmas.{IsLeft, text_below, append_one}
use Rattle.cover.specs.Internal.Narrowed.{kept_of, end_alone, kept_fixed}
use Rattle.cover.proofs.ThereLemmas.{left_there, below_there, or_right, in_kept, in_all, kept_pass, enough_items, enough_values, tree_same_by, value_there, some_items, some_values}

-- the narrowed pools, by what they ask for and fix: `left` is what is left of a path after a text
pub record AreNarrowed (o : Option Data) (P Q : Pools) (left : List ℕ → Option FieldPath) : Type 0 where
  pub asked : (text : List ℕ) → is_present text Q ≡ (is_present text P || is_some (left text))
  pub fixed : (text : List ℕ) → fixed_at text Q ≡ kept_fixed o (left text) (fixed_at text P)

-- the node at this front is on the way, with this path left, or it is not
abbrev pub IsLeftAt : FieldPath → FieldPath → Option FieldPath → Type 0
IsLeftAt p front r = (x : FieldPath) → (r ≡ Some x) ↔ (front ++ x ≡ p)

left_below : (p front : FieldPath) (left : List ℕ → Option FieldPath) (t : FieldStep) → IsLeft p left → IsLeftAt p (front ++ t ∷ []) (left (below (path_text front) t))
left_below p front left t is x = (λ e. append_one front t x ∙ (is front t x).0 e, λ e. (is front t x).1 (sym (append_one front t x) ∙ e))

-- ---- what is asked for below a node, by a value in which the path is there

-- where something is left after a step, the whole is left here
left_here : (p front : FieldPath) (left : List ℕ → Option FieldPath) (r : Option FieldPath) (t : FieldStep) (x : FieldPath) → IsLeft p left → IsLeftAt p front r
    → left (below (path_text front) t) ≡ Some x → r ≡ Some (t ∷ x)
left_here p front left r t x is at e = (at (t ∷ x)).1 ((is front t x).0 e)

there_step : (o : Option Data) (r : Option FieldPath) (t : FieldStep) (x : FieldPath) (v : Data) → r ≡ Some (t ∷ x) → left_there o r v ≡ true → is_there o (t ∷ x) v ≡ true
there_step o r t x v e there = subst (λ q. left_there o q v ≡ true) e there

-- a step for which more is asked is there
abbrev Leads : Option Data → (FieldStep → Option FieldPath) → Data → Type 0
Leads o next v = (t : FieldStep) (x : FieldPath) → next t ≡ Some x → is_there o (t ∷ x) v ≡ true

leads_here : (o : Option Data) (p front : FieldPath) (left : List ℕ → Option FieldPath) (r : Option FieldPath) (v : Data) → IsLeft p left → IsLeftAt p front r → left_there o r v ≡ true
    → Leads o (λ t. left (below (path_text front) t)) v
leads_here o p front left r v is at there t x e = there_step o r t x v (left_here p front left r t x is at e) there

field_there : (o : Option Data) (k : List ℕ) (x : Option FieldPath) (ms : Members) → ((y : FieldPath) → x ≡ Some y → is_there o (field k ∷ y) (tree.object ms) ≡ true) → (not (is_some x) || is_some (member_at k ms)) ≡ true
field_there o k None ms there = refl
field_there o k (Some y) ms there = value_there (λ w. is_there o y w) (member_at k ms) (there y refl)

more_asked : (a b c : Bool) → (not a || c) ≡ true → (not b || c) ≡ true → (not (a || b) || c) ≡ true
more_asked true b c p q = p
more_asked false b c p q = q

present_narrowed : (o : Option Data) (P Q : Pools) (at : List ℕ) (left : List ℕ → Option FieldPath) (fs : Fields) (ms : Members) → AreNarrowed o P Q left
    → Leads o (λ t. left (below at t)) (tree.object ms) → has_present P at fs ms ≡ true → has_present Q at fs ms ≡ true
present_narrowed o P Q at left no_fields ms n leads h = refl
present_narrowed o P Q at left (nodes.field k N required default fs) ms n leads h =
    let old = and_parts (not (is_present (below at (field k)) P) || is_some (member_at k ms)) (has_present P at fs ms) h in
    and_from (not (is_present (below at (field k)) Q) || is_some (member_at k ms)) (has_present Q at fs ms)
    (subst (λ b. (not b || is_some (member_at k ms)) ≡ true) (sym (n.asked (below at (field k))))
    (more_asked (is_present (below at (field k)) P) (is_some (left (below at (field k)))) (is_some (member_at k ms)) old.0
    (field_there o k (left (below at (field k))) ms (λ y e. leads (field k) y e))))
    (present_narrowed o P Q at left fs ms n leads old.1)

enough_or : (a b c : Bool) → (not a || c) ≡ true → (b ≡ true → c ≡ true) → (not (a || b) || c) ≡ true
enough_or true b c p q = p
enough_or false true c p q = q refl
enough_or false false c p q = refl

enough_by_value : (o : Option Data) (x : Option FieldPath) (ms : Members) → is_some x ≡ true → ((y : FieldPath) → x ≡ Some y → is_there o (value ∷ y) (tree.object ms) ≡ true) → nat_lt 0 (members_count ms) ≡ true
enough_by_value o None ms some there = absurd (cc)
enough_by_value o (Some y) ms some there = enough_values (λ w. is_there o y w) ms (there y refl)

enough_by_item : (o : Option Data) (x : Option FieldPath) (ds : Items) → is_some x ≡ true → ((y : FieldPath) → x ≡ Some y → is_there o (item ∷ y) (tree.list ds) ≡ true) → nat_lt 0 (items_count ds) ≡ true
enough_by_item o None ds some there = absurd (cc)
enough_by_item o (Some y) ds some there = enough_items (λ w. is_there o y w) ds (there y refl)

-- the end of the path, where a value is wanted; or nothing more is fixed
end_cases : (o : Option Data) (r : Option FieldPath) → (kept_fixed o r None ≡ None) ⊎ ((w : Data) × (o ≡ Some w) × (r ≡ Some []))
end_cases o None = inl refl
end_cases None (Some []) = inl refl
end_cases (Some w) (Some []) = inr (w, refl, refl)
end_cases o (Some (s ∷ r)) = inl refl

-- nothing more is asked below a null
none_more : (o : Option Data) (t : FieldStep) (x : Option FieldPath) (v : Data) → v ≡ tree.null → ((y : FieldPath) → x ≡ Some y → is_there o (t ∷ y) v ≡ true) → is_some x ≡ false
none_more o t None v is there = refl
none_more o (field k) (Some y) v is there = absurd (let h = subst (λ u. is_there o (field k ∷ y) u ≡ true) is (there y refl) in cc)
none_more o item (Some y) v is there = absurd (let h = subst (λ u. is_there o (item ∷ y) u ≡ true) is (there y refl) in cc)
none_more o value (Some y) v is there = absurd (let h = subst (λ u. is_there o (value ∷ y) u ≡ true) is (there y refl) in cc)

same_asked : (o : Option Data) (P Q : Pools) (at : List ℕ) (left : List ℕ → Option FieldPath) (t : FieldStep) → AreNarrowed o P Q left → Leads o (λ t. left (below at t)) tree.null
    → is_present (below at t) Q ≡ is_present (below at t) P
same_asked o P Q at left t n leads = n.asked (below at t) ∙ or_false (is_present (below at t) P) (is_some (left (below at t))) (none_more o t (left (below at t)) tree.null refl (λ y e. leads t y e)) where
  or_false : (a b : Bool) → b ≡ false → (a || b) ≡ a
  or_false true b e = refl
  or_false false b e = e

same_fields : (o : Option Data) (P Q : Pools) (at : List ℕ) (left : List ℕ → Option FieldPath) (fs : Fields) → AreNarrowed o P Q left → Leads o (λ t. left (below at t)) tree.null → asks_field Q at fs ≡ asks_field P at fs
same_fields o P Q at left no_fields n leads = refl
same_fields o P Q at left (nodes.field k N required default fs) n leads = rw (same_asked o P Q at left (field k) n leads) (ap (λ b. is_present (below at (field k)) P || b) (same_fields o P Q at left fs n leads))

-- ---- a value at its node

same_scalars : (P : Pools) (F : Members) (ps : List (List ℕ)) (kind : ScalarKind) → scalars_for kind P ≡ scalars_for kind (with_paths P F ps)
same_scalars P F ps Number = refl
same_scalars P F ps Boolean = refl
same_scalars P F ps Integer = refl
same_scalars P F ps String = refl
same_scalars P F ps IntOrString = refl

same_listed : (P : Pools) (F : Members) (ps : List (List ℕ)) (at : List ℕ) (nullable : Bool) (description : Option (List ℕ)) (kind : ScalarKind) (cs : Validations)
    → listed P at (node nullable description (scalar kind cs)) ≡ listed (with_paths P F ps) at (node nullable description (scalar kind cs))
same_listed P F ps at nullable description kind cs = ap (λ xs. leasts (unwrap_or (list_at at P) xs)) (ap (choices_or (constraints_of cs).choices) (same_scalars P F ps kind))

here_narrow : (o : Option Data) (P : Pools) (F : Members) (ps : List (List ℕ)) (at : List ℕ) (left : List ℕ → Option FieldPath) (N : Node) (v : Data) → AreNarrowed o P (with_paths P F ps) left
    → Leads o (λ t. left (below at t)) v → is_over_here P at N v ≡ true → is_over_here (with_paths P F ps) at N v ≡ true
here_narrow o P F ps at left (node nullable description (scalar kind cs)) tree.null n leads h = subst (λ xs. (is_in tree.null xs || (is_null tree.null && nullable)) ≡ true) (same_listed P F ps at nullable description kind cs) h
here_narrow o P F ps at left (node nullable description (scalar kind cs)) (tree.boolean b) n leads h = subst (λ xs. (is_in (tree.boolean b) xs || (is_null (tree.boolean b) && nullable)) ≡ true) (same_listed P F ps at nullable description kind cs) h
here_narrow o P F ps at left (node nullable description (scalar kind cs)) (tree.integer z) n leads h = subst (λ xs. (is_in (tree.integer z) xs || (is_null (tree.integer z) && nullable)) ≡ true) (same_listed P F ps at nullable description kind cs) h
here_narrow o P F ps at left (node nullable description (scalar kind cs)) (tree.number s) n leads h = subst (λ xs. (is_in (tree.number s) xs || (is_null (tree.number s) && nullable)) ≡ true) (same_listed P F ps at nullable description kind cs) h
here_narrow o P F ps at left (node nullable description (scalar kind cs)) (tree.text s) n leads h = subst (λ xs. (is_in (tree.text s) xs || (is_null (tree.text s) && nullable)) ≡ true) (same_listed P F ps at nullable description kind cs) h
here_narrow o P F ps at left (node nullable description (scalar kind cs)) (tree.list ds) n leads h = subst (λ xs. (is_in (tree.list ds) xs || (is_null (tree.list ds) && nullable)) ≡ true) (same_listed P F ps at nullable description kind cs) h
here_narrow o P F ps at left (node nullable description (scalar kind cs)) (tree.object ms) n leads h = subst (λ xs. (is_in (tree.object ms) xs || (is_null (tree.object ms) && nullable)) ≡ true) (same_listed P F ps at nullable description kind cs) h
here_narrow o P F ps at left (node nullable description open_) tree.null n leads h = h
here_narrow o P F ps at left (node nullable description open_) (tree.boolean b) n leads h = h
here_narrow o P F ps at left (node nullable description open_) (tree.integer z) n leads h = h
here_narrow o P F ps at left (node nullable description open_) (tree.number s) n leads h = h
here_narrow o P F ps at left (node nullable description open_) (tree.text s) n leads h = h
here_narrow o P F ps at left (node nullable description open_) (tree.list ds) n leads h = h
here_narrow o P F ps at left (node nullable description open_) (tree.object ms) n leads h = h
here_narrow o P F ps at left (node nullable description (object fs preserves type bounds cs)) (tree.object ms) n leads h =
    let old = and_parts (all_names (λ k. is_some (field_at k fs)) ms) (has_present P at fs ms) h in
    and_from (all_names (λ k. is_some (field_at k fs)) ms) (has_present (with_paths P F ps) at fs ms) old.0 (present_narrowed o P (with_paths P F ps) at left fs ms n leads old.1)
here_narrow o P F ps at left (node nullable description (object fs preserves type bounds cs)) tree.null n leads h = ap not (same_fields o P (with_paths P F ps) at left fs n leads) ∙ h
here_narrow o P F ps at left (node nullable description (object fs preserves type bounds cs)) (tree.boolean b) n leads h = refl
here_narrow o P F ps at left (node nullable description (object fs preserves type bounds cs)) (tree.integer z) n leads h = refl
here_narrow o P F ps at left (node nullable description (object fs preserves type bounds cs)) (tree.number s) n leads h = refl
here_narrow o P F ps at left (node nullable description (object fs preserves type bounds cs)) (tree.text s) n leads h = refl
here_narrow o P F ps at left (node nullable description (object fs preserves type bounds cs)) (tree.list ds) n leads h = refl
here_narrow o P F ps at left (node nullable description (nodes.map N type bounds)) (tree.object ms) n leads h =
    let old = and_parts (all_names (λ k. is_among k P.names) ms) (has_enough (is_present (below at value) P) (members_count ms)) h in
    and_from (all_names (λ k. is_among k P.names) ms) (has_enough (is_present (below at value) (with_paths P F ps)) (members_count ms)) old.0
    (subst (λ b. has_enough b (members_count ms) ≡ true) (sym (n.asked (below at value)))
    (enough_or (is_present (below at value) P) (is_some (left (below at value))) (nat_lt 0 (members_count ms)) old.1
    (λ some. enough_by_value o (left (below at value)) ms some (λ y e. leads value y e))))
here_narrow o P F ps at left (node nullable description (nodes.map N type bounds)) tree.null n leads h = ap not (same_asked o P (with_paths P F ps) at left value n leads) ∙ h
here_narrow o P F ps at left (node nullable description (nodes.map N type bounds)) (tree.boolean b) n leads h = refl
here_narrow o P F ps at left (node nullable description (nodes.map N type bounds)) (tree.integer z) n leads h = refl
here_narrow o P F ps at left (node nullable description (nodes.map N type bounds)) (tree.number s) n leads h = refl
here_narrow o P F ps at left (node nullable description (nodes.map N type bounds)) (tree.text s) n leads h = refl
here_narrow o P F ps at left (node nullable description (nodes.map N type bounds)) (tree.list ds) n leads h = refl
here_narrow o P F ps at left (node nullable description (list N type keys bounds)) (tree.list ds) n leads h =
    subst (λ b. has_enough b (items_count ds) ≡ true) (sym (n.asked (below at item)))
    (enough_or (is_present (below at item) P) (is_some (left (below at item))) (nat_lt 0 (items_count ds)) h
    (λ some. enough_by_item o (left (below at item)) ds some (λ y e. leads item y e)))
here_narrow o P F ps at left (node nullable description (list N type keys bounds)) tree.null n leads h = ap not (same_asked o P (with_paths P F ps) at left item n leads) ∙ h
here_narrow o P F ps at left (node nullable description (list N type keys bounds)) (tree.boolean b) n leads h = refl
here_narrow o P F ps at left (node nullable description (list N type keys bounds)) (tree.integer z) n leads h = refl
here_narrow o P F ps at left (node nullable description (list N type keys bounds)) (tree.number s) n leads h = refl
here_narrow o P F ps at left (node nullable description (list N type keys bounds)) (tree.text s) n leads h = refl
here_narrow o P F ps at left (node nullable description (list N type keys bounds)) (tree.object ms) n leads h = refl

-- what is over the narrowed pools is over the pools
or_left : (a b : Bool) → a ≡ true → (a || b) ≡ true
or_left true b e = refl
or_left false b e = absurd (cc)

fewer : (a b : Bool) → (a ≡ true → b ≡ true) → not b ≡ true → not a ≡ true
fewer true b more h = rw (more refl) at h
fewer false b more h = refl

still_asked : (o : Option Data) (P Q : Pools) (left : List ℕ → Option FieldPath) (text : List ℕ) → AreNarrowed o P Q left → is_present text P ≡ true → is_present text Q ≡ true
still_asked o P Q left text n e = n.asked text ∙ or_left (is_present text P) (is_some (left text)) e

less_asked : (a b c : Bool) → (a ≡ true → b ≡ true) → (not b || c) ≡ true → (not a || c) ≡ true
less_asked true b c more h = rw (more refl) at h
less_asked false b c more h = refl

fewer_fields : (o : Option Data) (P Q : Pools) (at : List ℕ) (left : List ℕ → Option FieldPath) (fs : Fields) → AreNarrowed o P Q left → asks_field P at fs ≡ true → asks_field Q at fs ≡ true
fewer_fields o P Q at left no_fields n e = e
fewer_fields o P Q at left (nodes.field k N required default fs) n e = elim (or_cases (is_present (below at (field k)) P) (asks_field P at fs) e) [
  | inl here ↦ or_left (is_present (below at (field k)) Q) (asks_field Q at fs) (still_asked o P Q left (below at (field k)) n here)
  | inr later ↦ or_right (is_present (below at (field k)) Q) (asks_field Q at fs) (fewer_fields o P Q at left fs n later)
]

present_wide : (o : Option Data) (P Q : Pools) (at : List ℕ) (left : List ℕ → Option FieldPath) (fs : Fields) (ms : Members) → AreNarrowed o P Q left → has_present Q at fs ms ≡ true → has_present P at fs ms ≡ true
present_wide o P Q at left no_fields ms n h = refl
present_wide o P Q at left (nodes.field k N required default fs) ms n h =
    let old = and_parts (not (is_present (below at (field k)) Q) || is_some (member_at k ms)) (has_present Q at fs ms) h in
    and_from (not (is_present (below at (field k)) P) || is_some (member_at k ms)) (has_present P at fs ms)
    (less_asked (is_present (below at (field k)) P) (is_present (below at (field k)) Q) (is_some (member_at k ms)) (still_asked o P Q left (below at (field k)) n) old.0)
    (present_wide o P Q at left fs ms n old.1)

here_wide : (o : Option Data) (P : Pools) (F : Members) (ps : List (List ℕ)) (at : List ℕ) (left : List ℕ → Option FieldPath) (N : Node) (v : Data) → AreNarrowed o P (with_paths P F ps) left
    → is_over_here (with_paths P F ps) at N v ≡ true → is_over_here P at N v ≡ true
here_wide o P F ps at left (node nullable description (scalar kind cs)) tree.null n h = subst (λ xs. (is_in tree.null xs || (is_null tree.null && nullable)) ≡ true) (sym (same_listed P F ps at nullable description kind cs)) h
here_wide o P F ps at left (node nullable description (scalar kind cs)) (tree.boolean b) n h = subst (λ xs. (is_in (tree.boolean b) xs || (is_null (tree.boolean b) && nullable)) ≡ true) (sym (same_listed P F ps at nullable description kind cs)) h
here_wide o P F ps at left (node nullable description (scalar kind cs)) (tree.integer z) n h = subst (λ xs. (is_in (tree.integer z) xs || (is_null (tree.integer z) && nullable)) ≡ true) (sym (same_listed P F ps at nullable description kind cs)) h
here_wide o P F ps at left (node nullable description (scalar kind cs)) (tree.number s) n h = subst (λ xs. (is_in (tree.number s) xs || (is_null (tree.number s) && nullable)) ≡ true) (sym (same_listed P F ps at nullable description kind cs)) h
here_wide o P F ps at left (node nullable description (scalar kind cs)) (tree.text s) n h = subst (λ xs. (is_in (tree.text s) xs || (is_null (tree.text s) && nullable)) ≡ true) (sym (same_listed P F ps at nullable description kind cs)) h
here_wide o P F ps at left (node nullable description (scalar kind cs)) (tree.list ds) n h = subst (λ xs. (is_in (tree.list ds) xs || (is_null (tree.list ds) && nullable)) ≡ true) (sym (same_listed P F ps at nullable description kind cs)) h
here_wide o P F ps at left (node nullable description (scalar kind cs)) (tree.object ms) n h = subst (λ xs. (is_in (tree.object ms) xs || (is_null (tree.object ms) && nullable)) ≡ true) (sym (same_listed P F ps at nullable description kind cs)) h
here_wide o P F ps at left (node nullable description open_) tree.null n h = h
here_wide o P F ps at left (node nullable description open_) (tree.boolean b) n h = h
here_wide o P F ps at left (node nullable description open_) (tree.integer z) n h = h
here_wide o P F ps at left (node nullable description open_) (tree.number s) n h = h
here_wide o P F ps at left (node nullable description open_) (tree.text s) n h = h
here_wide o P F ps at left (node nullable description open_) (tree.list ds) n h = h
here_wide o P F ps at left (node nullable description open_) (tree.object ms) n h = h
here_wide o P F ps at left (node nullable description (object fs preserves type bounds cs)) (tree.object ms) n h =
    let old = and_parts (all_names (λ k. is_some (field_at k fs)) ms) (has_present (with_paths P F ps) at fs ms) h in
    and_from (all_names (λ k. is_some (field_at k fs)) ms) (has_present P at fs ms) old.0 (present_wide o P (with_paths P F ps) at left fs ms n old.1)
here_wide o P F ps at left (node nullable description (object fs preserves type bounds cs)) tree.null n h =
    fewer (asks_field P at fs) (asks_field (with_paths P F ps) at fs) (fewer_fields o P (with_paths P F ps) at left fs n) h
here_wide o P F ps at left (node nullable description (object fs preserves type bounds cs)) (tree.boolean b) n h = refl
here_wide o P F ps at left (node nullable description (object fs preserves type bounds cs)) (tree.integer z) n h = refl
here_wide o P F ps at left (node nullable description (object fs preserves type bounds cs)) (tree.number s) n h = refl
here_wide o P F ps at left (node nullable description (object fs preserves type bounds cs)) (tree.text s) n h = refl
here_wide o P F ps at left (node nullable description (object fs preserves type bounds cs)) (tree.list ds) n h = refl
here_wide o P F ps at left (node nullable description (nodes.map N type bounds)) (tree.object ms) n h =
    let old = and_parts (all_names (λ k. is_among k P.names) ms) (has_enough (is_present (below at value) (with_paths P F ps)) (members_count ms)) h in
    and_from (all_names (λ k. is_among k P.names) ms) (has_enough (is_present (below at value) P) (members_count ms)) old.0
    (less_asked (is_present (below at value) P) (is_present (below at value) (with_paths P F ps)) (nat_lt 0 (members_count ms)) (still_asked o P (with_paths P F ps) left (below at value) n) old.1)
here_wide o P F ps at left (node nullable description (nodes.map N type bounds)) tree.null n h =
    fewer (is_present (below at value) P) (is_present (below at value) (with_paths P F ps)) (still_asked o P (with_paths P F ps) left (below at value) n) h
here_wide o P F ps at left (node nullable description (nodes.map N type bounds)) (tree.boolean b) n h = refl
here_wide o P F ps at left (node nullable description (nodes.map N type bounds)) (tree.integer z) n h = refl
here_wide o P F ps at left (node nullable description (nodes.map N type bounds)) (tree.number s) n h = refl
here_wide o P F ps at left (node nullable description (nodes.map N type bounds)) (tree.text s) n h = refl
here_wide o P F ps at left (node nullable description (nodes.map N type bounds)) (tree.list ds) n h = refl
here_wide o P F ps at left (node nullable description (list N type keys bounds)) (tree.list ds) n h =
    less_asked (is_present (below at item) P) (is_present (below at item) (with_paths P F ps)) (nat_lt 0 (items_count ds)) (still_asked o P (with_paths P F ps) left (below at item) n) h
here_wide o P F ps at left (node nullable description (list N type keys bounds)) tree.null n h =
    fewer (is_present (below at item) P) (is_present (below at item) (with_paths P F ps)) (still_asked o P (with_paths P F ps) left (below at item) n) h
here_wide o P F ps at left (node nullable description (list N type keys bounds)) (tree.boolean b) n h = refl
here_wide o P F ps at left (node nullable description (list N type keys bounds)) (tree.integer z) n h = refl
here_wide o P F ps at left (node nullable description (list N type keys bounds)) (tree.number s) n h = refl
here_wide o P F ps at left (node nullable description (list N type keys bounds)) (tree.text s) n h = refl
here_wide o P F ps at left (node nullable description (list N type keys bounds)) (tree.object ms) n h = refl

-- ---- along a path of the value

pub node_after : (root N M : Node) (front : FieldPath) (t : FieldStep) → node_at root (place_of front) ≡ Some N → node_below N (place_step t) ≡ Some M
    → node_at root (place_of (front ++ t ∷ [])) ≡ Some M
node_after root N M [] t reach down = let same : root ≡ N = cc in rw (same, down) refl
node_after root N M (s ∷ front) t reach down = elim (option_cases (node_below root (place_step s))) [
  | inl none ↦ absurd (let h = rw none at reach in cc)
  | inr some ↦ rw some.1 (node_after some.0 N M front t (rw some.1 at reach) down)
]

-- from a map list a step leads to its items alone
map_list_step : (N M : Node) (t : FieldStep) → is_map_list N ≡ true → node_below N (place_step t) ≡ Some M → t ≡ item
map_list_step (node nullable description (list N type keys bounds)) M item is down = refl
map_list_step (node nullable description (list N type keys bounds)) M (field k) is down = absurd (cc)
map_list_step (node nullable description (list N type keys bounds)) M value is down = absurd (cc)
map_list_step (node nullable description (scalar kind cs)) M t is down = absurd (cc)
map_list_step (node nullable description open_) M t is down = absurd (cc)
map_list_step (node nullable description (object fs preserves type bounds cs)) M t is down = absurd (cc)
map_list_step (node nullable description (nodes.map N type bounds)) M t is down = absurd (cc)

-- the end of the path is no item of a map list
abbrev IsNoItem : Node → Option Data → FieldPath → Type 0
IsNoItem root o p = (w : Data) → o ≡ Some w → IsMapItem root p → ⊥

no_end : (o : Option Data) (root N M : Node) (p front : FieldPath) (left : List ℕ → Option FieldPath) (t : FieldStep) → IsLeft p left → IsNoItem root o p
    → node_at root (place_of front) ≡ Some N → node_below N (place_step t) ≡ Some M → is_map_list N ≡ true → kept_fixed o (left (below (path_text front) t)) None ≡ None
no_end o root N M p front left t is no_item reach down map_list = elim (end_cases o (left (below (path_text front) t))) [
  | inl none ↦ none
  | inr e ↦
      let ends : front ++ t ∷ [] ≡ p = (is front t []).0 e.2 in
      let step = map_list_step N M t map_list down in
      absurd (no_item e.0 e.1 (front, (sym ends ∙ ap (λ s. front ++ s ∷ []) step, (N, (reach, map_list)))))
]

fixed_narrowed : (o : Option Data) (P Q : Pools) (at : List ℕ) (left : List ℕ → Option FieldPath) (N : Node) (t : FieldStep) → AreNarrowed o P Q left
    → (is_map_list N ≡ true → kept_fixed o (left (below at t)) None ≡ None) → fixed_below Q at N t ≡ kept_fixed o (left (below at t)) (fixed_below P at N t)
fixed_narrowed o P Q at left (node nullable description (list N (Map e) keys bounds)) t n ends = sym (ends refl)
fixed_narrowed o P Q at left (node nullable description (list N Atomic keys bounds)) t n ends = n.fixed (below at t)
fixed_narrowed o P Q at left (node nullable description (list N (Set e) keys bounds)) t n ends = n.fixed (below at t)
fixed_narrowed o P Q at left (node nullable description (scalar kind cs)) t n ends = n.fixed (below at t)
fixed_narrowed o P Q at left (node nullable description open_) t n ends = n.fixed (below at t)
fixed_narrowed o P Q at left (node nullable description (object fs preserves type bounds cs)) t n ends = n.fixed (below at t)
fixed_narrowed o P Q at left (node nullable description (nodes.map N type bounds)) t n ends = n.fixed (below at t)

-- what is fixed below another node is what is fixed at the path
fixed_plain : (P : Pools) (at : List ℕ) (N : Node) (t : FieldStep) → is_map_list N ≡ false → fixed_below P at N t ≡ fixed_at (below at t) P
fixed_plain P at (node nullable description (list N (Map e) keys bounds)) t other = absurd (cc)
fixed_plain P at (node nullable description (list N Atomic keys bounds)) t other = refl
fixed_plain P at (node nullable description (list N (Set e) keys bounds)) t other = refl
fixed_plain P at (node nullable description (scalar kind cs)) t other = refl
fixed_plain P at (node nullable description open_) t other = refl
fixed_plain P at (node nullable description (object fs preserves type bounds cs)) t other = refl
fixed_plain P at (node nullable description (nodes.map N type bounds)) t other = refl

-- no path leads on from a number
no_number : (o : Option Data) (t : FieldStep) (x : FieldPath) (v : Data) → is_there o (t ∷ x) v ≡ true → is_number v ≡ false
no_number o (field k) x (tree.number s) there = absurd (cc)
no_number o item x (tree.number s) there = absurd (cc)
no_number o value x (tree.number s) there = absurd (cc)
no_number o t x tree.null there = refl
no_number o t x (tree.boolean b) there = refl
no_number o t x (tree.integer z) there = refl
no_number o t x (tree.text s) there = refl
no_number o t x (tree.list ds) there = refl
no_number o t x (tree.object ms) there = refl

-- a number that is the least of its value among those that are kept is so among all: at the end of the path all are kept, or the one that
-- is wanted, and before it no number
still_least : (o : Option Data) (v : Data) (ds : List Data) (x : FieldPath) → is_there o x v ≡ true → ((w : Data) → o ≡ Some w → x ≡ [] → has_lesser w ds ≡ false)
    → has_lesser v (kept_of (is_there o x) ds) ≡ false → has_lesser v ds ≡ false
still_least None v ds [] there ends least = least_of_fewer v ds (kept_of (is_there None []) ds) (λ d has. in_kept (is_there None []) d ds has refl) least
still_least (Some w) v ds [] there ends least = subst (λ u. has_lesser u ds ≡ false) (sym (tree_same_by v w there)) (ends w refl refl)
still_least o v ds (t ∷ x) there ends least = none_lesser v ds (no_number o t x v there)

narrow_fixed : (o : Option Data) (P : Pools) (F : Members) (ps : List (List ℕ)) (at : List ℕ) (N : Node) (v : Data) (ds : List Data) (r : Option FieldPath) (path : Path) (q : FieldPath)
    → left_there o r v ≡ true → is_in v (leasts ds) ≡ true → IsOverAlong (with_paths P F ps) (kept_fixed o r (Some ds)) at N v path q
narrow_fixed o P F ps at N v ds None path q there is = is
narrow_fixed o P F ps at N v ds (Some x) path q there is =
    let all = in_leasts v ds is in
    least_in v (kept_of (is_there o x) ds) (in_kept (is_there o x) v ds all.0 there) (least_of_fewer v (kept_of (is_there o x) ds) ds (λ d has. in_all (is_there o x) d ds has) all.1)

wide_fixed : (o : Option Data) (P : Pools) (F : Members) (ps : List (List ℕ)) (at : List ℕ) (N : Node) (v : Data) (ds : List Data) (r : Option FieldPath) (path : Path) (q : FieldPath)
    → ((w : Data) → o ≡ Some w → r ≡ Some [] → is_in w (leasts ds) ≡ true) → IsOverAlong (with_paths P F ps) (kept_fixed o r (Some ds)) at N v path q → is_in v (leasts ds) ≡ true
wide_fixed o P F ps at N v ds None path q ends is = is
wide_fixed o P F ps at N v ds (Some x) path q ends is =
    let kept = in_leasts v (kept_of (is_there o x) ds) is in
    least_in v ds (in_all (is_there o x) v ds kept.0)
    (still_least o v ds x (kept_pass (is_there o x) v ds kept.0) (λ w wanted end. (in_leasts w ds (ends w wanted (ap Some end))).1) kept.1)

-- the value that is wanted is the one that is fixed at the end
alone_here : (v w : Data) → is_in v (leasts (w ∷ [])) ≡ true → is_same v w ≡ true
alone_here v w is = elim (or_cases (is_same v w) false (subst (λ ds. is_in v ds ≡ true) (leasts_one w) is)) [
  | inl same ↦ same
  | inr never ↦ absurd (cc)
]

narrow_end : (o : Option Data) (Q : Pools) (at : List ℕ) (N : Node) (v : Data) (r : Option FieldPath) (path : Path) (q : FieldPath) (w : Data) → o ≡ Some w → r ≡ Some [] → left_there o r v ≡ true
    → IsOverAlong Q (kept_fixed o r None) at N v path q
narrow_end o Q at N v r path q w is end there =
    let same : is_same v w ≡ true = rw (is, end) at there in
    let here : is_in v (leasts (w ∷ [])) ≡ true = subst (λ ds. is_in v ds ≡ true) (sym (leasts_one w)) (rw same refl) in
    rw (is, end) here

wide_end : (o : Option Data) (Q : Pools) (at : List ℕ) (N : Node) (v : Data) (r : Option FieldPath) (path : Path) (q : FieldPath) (w : Data) → o ≡ Some w → r ≡ Some []
    → IsOverAlong Q (kept_fixed o r None) at N v path q → v ≡ w
wide_end o Q at N v r path q w is end h =
    let here : is_in v (leasts (w ∷ [])) ≡ true = rw (is, end) at h in
    tree_same_by v w (alone_here v w here)

next_there : (o : Option Data) (p front : FieldPath) (left : List ℕ → Option FieldPath) (r : Option FieldPath) (v w : Data) (s : Step) (t : FieldStep) → IsLeft p left → IsLeftAt p front r
    → left_there o r v ≡ true → StepFollows s t → part_by v s ≡ Some w → left_there o (left (below (path_text front) t)) w ≡ true
next_there o p front left r v w s t is at there follows found = elim (option_cases (left (below (path_text front) t))) [
  | inl none ↦ rw none refl
  | inr some ↦ rw some.1 (below_there o t some.0 s v w (leads_here o p front left r v is at there t some.0 some.1) follows found)
]

-- what the narrowing of pools to a path needs: what it leaves, and that no item of a map list is fixed
pub record Narrows (o : Option Data) (root : Node) (P : Pools) (F : Members) (ps : List (List ℕ)) (p : FieldPath) (left : List ℕ → Option FieldPath) : Type 0 where
  pub narrowed : AreNarrowed o P (with_paths P F ps) left
  pub is_left : IsLeft p left
  pub no_item : (w : Data) → o ≡ Some w → IsMapItem root p → ⊥

next_fixed : (o : Option Data) (root : Node) (P : Pools) (F : Members) (ps : List (List ℕ)) (p : FieldPath) (left : List ℕ → Option FieldPath) → Narrows o root P F ps p left
    → (front : FieldPath) (N M : Node) (t : FieldStep) → node_at root (place_of front) ≡ Some N → node_below N (place_step t) ≡ Some M
    → fixed_below (with_paths P F ps) (path_text front) N t ≡ kept_fixed o (left (below (path_text front) t)) (fixed_below P (path_text front) N t)
next_fixed o root P F ps p left n front N M t reach down =
    fixed_narrowed o P (with_paths P F ps) (path_text front) left N t n.narrowed (no_end o root N M p front left t n.is_left n.no_item reach down)

pub narrow_along : (o : Option Data) (root : Node) (P : Pools) (F : Members) (ps : List (List ℕ)) (p : FieldPath) (left : List ℕ → Option FieldPath) → Narrows o root P F ps p left
    → (path : Path) (q front : FieldPath) (r : Option FieldPath) (fixed : Option (List Data)) (N : Node) (v : Data) → node_at root (place_of front) ≡ Some N → IsLeftAt p front r → left_there o r v ≡ true
    → IsOverAlong P fixed (path_text front) N v path q → IsOverAlong (with_paths P F ps) (kept_fixed o r fixed) (path_text front) N v path q
narrow_along o root P F ps p left n path q front r (Some ds) N v reach at there h = narrow_fixed o P F ps (path_text front) N v ds r path q there h
narrow_along o root P F ps p left n [] [] front r None N v reach at there h = elim (end_cases o r) [
  | inl none ↦ rw none (here_narrow o P F ps (path_text front) left N v n.narrowed (leads_here o p front left r v n.is_left at there) h)
  | inr e ↦ narrow_end o (with_paths P F ps) (path_text front) N v r [] [] e.0 e.1 e.2 there
]
narrow_along o root P F ps p left n [] (t ∷ q) front r None N v reach at there h = elim (end_cases o r) [
  | inl none ↦ rw none tt
  | inr e ↦ narrow_end o (with_paths P F ps) (path_text front) N v r [] (t ∷ q) e.0 e.1 e.2 there
]
narrow_along o root P F ps p left n (s ∷ path) [] front r None N v reach at there h = elim (end_cases o r) [
  | inl none ↦ rw none tt
  | inr e ↦ narrow_end o (with_paths P F ps) (path_text front) N v r (s ∷ path) [] e.0 e.1 e.2 there
]
narrow_along o root P F ps p left n (s ∷ path) (t ∷ q) front r None N v reach at there h = elim (end_cases o r) [
  | inr e ↦ narrow_end o (with_paths P F ps) (path_text front) N v r (s ∷ path) (t ∷ q) e.0 e.1 e.2 there
  | inl none ↦ rw none (λ M w follows down found.
      let next = next_there o p front left r v w s t n.is_left at there follows found in
      let old : IsOverAlong P (fixed_below P (path_text front) N t) (path_text (front ++ t ∷ [])) M w path q =
      subst (λ x. IsOverAlong P (fixed_below P (path_text front) N t) x M w path q) (text_below front t) (h M w follows down found) in
      let new = narrow_along o root P F ps p left n path q (front ++ t ∷ []) (left (below (path_text front) t)) (fixed_below P (path_text front) N t) M w
      (node_after root N M front t reach down) (left_below p front left t n.is_left) next old in
      subst (λ x. IsOverAlong (with_paths P F ps) x (below (path_text front) t) M w path q) (sym (next_fixed o root P F ps p left n front N M t reach down))
      (subst (λ x. IsOverAlong (with_paths P F ps) (kept_fixed o (left (below (path_text front) t)) (fixed_below P (path_text front) N t)) x M w path q) (sym (text_below front t)) new))
]

-- where the path ends, what is fixed is what is fixed at its text
abbrev IsFixedEnd : Option Data → Option FieldPath → Option (List Data) → List ℕ → Pools → Type 0
IsFixedEnd o r fixed at P = (w : Data) → o ≡ Some w → r ≡ Some [] → fixed ≡ fixed_at at P

next_end : (o : Option Data) (root : Node) (P : Pools) (p : FieldPath) (left : List ℕ → Option FieldPath) → IsLeft p left → IsNoItem root o p → (front : FieldPath) (N M : Node) (t : FieldStep)
    → node_at root (place_of front) ≡ Some N → node_below N (place_step t) ≡ Some M → IsFixedEnd o (left (below (path_text front) t)) (fixed_below P (path_text front) N t) (below (path_text front) t) P
next_end o root P p left is no_item front N M t reach down w wanted end = elim (bool_cases (is_map_list N)) [
  | inr other ↦ fixed_plain P (path_text front) N t other
  | inl map_list ↦
      let none = no_end o root N M p front left t is no_item reach down map_list in
      absurd (let h : end_alone [] (Some w) ≡ None = rw (end, wanted) at none in cc)
]

-- a value that is a part of the site at the end is over the pools there
part_end : (o : Option Data) (root : Node) (P Q : Pools) (p : FieldPath) → ((w : Data) → o ≡ Some w → (N : Node) → node_at root (place_of p) ≡ Some N → IsPart P (plain P (path_text p) N) w)
    → (path : Path) (q front : FieldPath) (r : Option FieldPath) (N : Node) (v : Data) → node_at root (place_of front) ≡ Some N → IsLeftAt p front r → IsFixedEnd o r None (path_text front) P
    → (w : Data) → o ≡ Some w → r ≡ Some [] → IsOverAlong Q (kept_fixed o r None) (path_text front) N v path q → IsOverAlong P None (path_text front) N v path q
part_end o root P Q p part path q front r N v reach at ends w wanted end h =
    let same : front ≡ p = sym (append-nil front) ∙ (at []).0 end in
    let over = (part w wanted N (subst (λ x. node_at root (place_of x) ≡ Some N) same reach)).over path q in
    let is = wide_end o Q (path_text front) N v r path q w wanted end h in
    let here : IsOverAlong P (fixed_at (path_text front) P) (path_text front) N w path q = subst (λ x. IsOverAlong P (fixed_at (path_text x) P) (path_text x) N w path q) (sym same) over in
    subst (λ u. IsOverAlong P None (path_text front) N u path q) (sym is)
    (subst (λ x. IsOverAlong P x (path_text front) N w path q) (sym (ends w wanted end)) here)

-- where values are fixed at the end, the one that is wanted is one of them, of numbers the least
end_least : (o : Option Data) (root : Node) (P : Pools) (p : FieldPath) → ((w : Data) → o ≡ Some w → (N : Node) → node_at root (place_of p) ≡ Some N → IsPart P (plain P (path_text p) N) w)
    → (front : FieldPath) (r : Option FieldPath) (ds : List Data) (N : Node) (w : Data) → node_at root (place_of front) ≡ Some N → IsLeftAt p front r → o ≡ Some w → r ≡ Some []
    → Some ds ≡ fixed_at (path_text front) P → is_in w (leasts ds) ≡ true
end_least o root P p part front r ds N w reach at wanted end fixed =
    let same : front ≡ p = sym (append-nil front) ∙ (at []).0 end in
    let over = (part w wanted N (subst (λ x. node_at root (place_of x) ≡ Some N) same reach)).over [] [] in
    let here : IsOverAlong P (fixed_at (path_text front) P) (path_text front) N w [] [] = subst (λ x. IsOverAlong P (fixed_at (path_text x) P) (path_text x) N w [] []) (sym same) over in
    subst (λ x. IsOverAlong P x (path_text front) N w [] []) (sym fixed) here

pub wide_along : (o : Option Data) (root : Node) (P : Pools) (F : Members) (ps : List (List ℕ)) (p : FieldPath) (left : List ℕ → Option FieldPath) → Narrows o root P F ps p left
    → ((w : Data) → o ≡ Some w → (N : Node) → node_at root (place_of p) ≡ Some N → IsPart P (plain P (path_text p) N) w)
    → (path : Path) (q front : FieldPath) (r : Option FieldPath) (fixed : Option (List Data)) (N : Node) (v : Data) → node_at root (place_of front) ≡ Some N → IsLeftAt p front r
    → IsFixedEnd o r fixed (path_text front) P → IsOverAlong (with_paths P F ps) (kept_fixed o r fixed) (path_text front) N v path q → IsOverAlong P fixed (path_text front) N v path q
wide_along o root P F ps p left n part path q front r (Some ds) N v reach at ends h =
    wide_fixed o P F ps (path_text front) N v ds r path q (λ w wanted end. end_least o root P p part front r ds N w reach at wanted end (ends w wanted end)) h
wide_along o root P F ps p left n part [] [] front r None N v reach at ends h = elim (end_cases o r) [
  | inl none ↦ here_wide o P F ps (path_text front) left N v n.narrowed (rw none at h)
  | inr e ↦ part_end o root P (with_paths P F ps) p part [] [] front r N v reach at ends e.0 e.1 e.2 h
]
wide_along o root P F ps p left n part [] (t ∷ q) front r None N v reach at ends h = tt
wide_along o root P F ps p left n part (s ∷ path) [] front r None N v reach at ends h = tt
wide_along o root P F ps p left n part (s ∷ path) (t ∷ q) front r None N v reach at ends h = elim (end_cases o r) [
  | inr e ↦ part_end o root P (with_paths P F ps) p part (s ∷ path) (t ∷ q) front r N v reach at ends e.0 e.1 e.2 h
  | inl none ↦ λ M w follows down found.
      let all : IsOverAlong (with_paths P F ps) None (path_text front) N v (s ∷ path) (t ∷ q) = subst (λ x. IsOverAlong (with_paths P F ps) x (path_text front) N v (s ∷ path) (t ∷ q)) none h in
      let here = subst (λ x. IsOverAlong (with_paths P F ps) x (below (path_text front) t) M w path q) (next_fixed o root P F ps p left n front N M t reach down) (all M w follows down found) in
      let next_ends = next_end o root P p left n.is_left n.no_item front N M t reach down in
      subst (λ x. IsOverAlong P (fixed_below P (path_text front) N t) x M w path q) (sym (text_below front t))
      (wide_along o root P F ps p left n part path q (front ++ t ∷ []) (left (below (path_text front) t)) (fixed_below P (path_text front) N t) M w
      (node_after root N M front t reach down) (left_below p front left t n.is_left)
      (subst (λ x. IsFixedEnd o (left (below (path_text front) t)) (fixed_below P (path_text front) N t) x P) (text_below front t) next_ends)
      (subst (λ x. IsOverAlong (with_paths P F ps) (kept_fixed o (left (below (path_text front) t)) (fixed_below P (path_text front) N t)) x M w path q) (text_below front t) here))
]

-- ---- the path is there in what is over the narrowed pools

abbrev pub StoredLaw : Type 0
StoredLaw = (N : Node) (v : Data) → IsStored N v ↔ StoredByParts N v

asked_on_way : (o : Option Data) (P Q : Pools) (p front : FieldPath) (left : List ℕ → Option FieldPath) (t : FieldStep) (x : FieldPath) → AreNarrowed o P Q left → IsLeft p left → front ++ t ∷ x ≡ p
    → is_present (below (path_text front) t) Q ≡ true
asked_on_way o P Q p front left t x n is e = n.asked (below (path_text front) t) ∙
    (ap (λ y. is_present (below (path_text front) t) P || is_some y) ((is front t x).1 e) ∙ or_right (is_present (below (path_text front) t) P) true refl)

field_asked : (Q : Pools) (at : List ℕ) (fs : Fields) (k : List ℕ) (f : Declared) → field_at k fs ≡ Some f → is_present (below at (field k)) Q ≡ true → asks_field Q at fs ≡ true
field_asked Q at no_fields k f found e = absurd (cc)
field_asked Q at (nodes.field l N required default fs) k f found e = elim (bool_cases (bytes_eq k l)) [
  | inl same ↦ or_left (is_present (below at (field l)) Q) (asks_field Q at fs) (subst (λ n. is_present (below at (field n)) Q ≡ true) (same_name k l same) e)
  | inr other ↦ or_right (is_present (below at (field l)) Q) (asks_field Q at fs) (field_asked Q at fs k f (rw other at found) e)
]

field_present : (Q : Pools) (at : List ℕ) (fs : Fields) (ms : Members) (k : List ℕ) (f : Declared) → field_at k fs ≡ Some f → is_present (below at (field k)) Q ≡ true
    → has_present Q at fs ms ≡ true → is_some (member_at k ms) ≡ true
field_present Q at no_fields ms k f found e h = absurd (cc)
field_present Q at (nodes.field l N required default fs) ms k f found e h =
    let old = and_parts (not (is_present (below at (field l)) Q) || is_some (member_at l ms)) (has_present Q at fs ms) h in
    elim (bool_cases (bytes_eq k l)) [
      | inl same ↦
          let name = same_name k l same in
          let asked : is_present (below at (field l)) Q ≡ true = subst (λ n. is_present (below at (field n)) Q ≡ true) name e in
          subst (λ n. is_some (member_at n ms) ≡ true) (sym name) (rw asked at old.0)
      | inr other ↦ field_present Q at fs ms k f (rw other at found) e old.1
    ]

some_value : (o : Option Data) → is_some o ≡ true → (w : Data) × (o ≡ Some w)
some_value None e = absurd (cc)
some_value (Some w) e = (w, refl)

has_from : (test : Data → Bool) (o : Option Data) (w : Data) → o ≡ Some w → test w ≡ true → has_value test o ≡ true
has_from test o w found e = rw found e

contrary : (b : Bool) → b ≡ true → not b ≡ true → ⊥
contrary true e f = cc
contrary false e f = cc

enough_from : (a c : Bool) → a ≡ true → (not a || c) ≡ true → c ≡ true
enough_from true c e h = h
enough_from false c e h = absurd (cc)

member_tree : (ms : Members) (k : List ℕ) (w : Data) → AreMembers ms → member_at k ms ≡ Some w → IsTree w
member_tree no_members k w trees found = absurd (cc)
member_tree (member l d ms) k w trees found = elim (bool_cases (bytes_eq k l)) [
  | inl same ↦
      let here : Some d ≡ Some w = rw same at found in
      let is : d ≡ w = cc in
      subst IsTree is trees.0
  | inr other ↦ member_tree ms k w trees.2 (rw other at found)
]

item_tree : (ds : Items) (i : ℕ) (w : Data) → AreTrees ds → item_at i ds ≡ Some w → IsTree w
item_tree no_items i w trees found = absurd (cc)
item_tree (tree.item d ds) zero w trees found = let is : d ≡ w = cc in subst IsTree is trees.0
item_tree (tree.item d ds) (suc i) w trees found = item_tree ds i w trees.1 found

next_over : (o : Option Data) (root : Node) (P : Pools) (F : Members) (ps : List (List ℕ)) (p front : FieldPath) (left : List ℕ → Option FieldPath) (t : FieldStep) (x : FieldPath) (N M : Node) (v w : Data)
    → Narrows o root P F ps p left → node_at root (place_of front) ≡ Some N → front ++ t ∷ x ≡ p → node_below N (place_step t) ≡ Some M → IsOver (with_paths P F ps) None (path_text front) N v
    → (s : Step) → StepFollows s t → part_by v s ≡ Some w → IsOver (with_paths P F ps) (kept_fixed o (Some x) (fixed_below P (path_text front) N t)) (path_text (front ++ t ∷ [])) M w
next_over o root P F ps p front left t x N M v w n reach e down over s follows found path q =
    let here = over (s ∷ path) (t ∷ q) M w follows down found in
    let fixed = next_fixed o root P F ps p left n front N M t reach down ∙ ap (λ y. kept_fixed o y (fixed_below P (path_text front) N t)) ((n.is_left front t x).1 e) in
    subst (λ y. IsOverAlong (with_paths P F ps) (kept_fixed o (Some x) (fixed_below P (path_text front) N t)) y M w path q) (text_below front t)
    (subst (λ y. IsOverAlong (with_paths P F ps) y (below (path_text front) t) M w path q) fixed here)

pub there_over : StoredLaw → (o : Option Data) (root : Node) (P : Pools) (F : Members) (ps : List (List ℕ)) (p : FieldPath) (left : List ℕ → Option FieldPath) → Narrows o root P F ps p left
    → (x front : FieldPath) (fixed : Option (List Data)) (N M : Node) (v : Data) → node_at root (place_of front) ≡ Some N → node_at N (place_of x) ≡ Some M → front ++ x ≡ p → IsTree v → IsStored N v
    → IsOver (with_paths P F ps) (kept_fixed o (Some x) fixed) (path_text front) N v → is_there o x v ≡ true
there_over law o root P F ps p left n x front (Some ds) N M v reach leads e whole stored over = kept_pass (is_there o x) v ds (in_leasts v (kept_of (is_there o x) ds) (over [] [])).0
there_over law None root P F ps p left n [] front None N M v reach leads e whole stored over = refl
there_over law (Some w) root P F ps p left n [] front None N M v reach leads e whole stored over = alone_here v w (over [] [])
there_over law o root P F ps p left n (field k ∷ x) front None (node nullable description (object fs preserves type bounds cs)) M (tree.object ms) reach leads e whole stored over =
    let f = found_field fs k x M leads in
    let asked = asked_on_way o P (with_paths P F ps) p front left (field k) x n.narrowed n.is_left e in
    let here = and_parts (all_names (λ k. is_some (field_at k fs)) ms) (has_present (with_paths P F ps) (path_text front) fs ms) (over [] []) in
    let w = some_value (member_at k ms) (field_present (with_paths P F ps) (path_text front) fs ms k f.0 f.1.0 asked here.1) in
    let parts = (law (node nullable description (object fs preserves type bounds cs)) (tree.object ms)).0 stored in
    let below_stored = subst (λ o. IsStoredField f.0 o) w.1 (parts.1.1 k f.0 f.1.0) in
    has_from (λ w. is_there o x w) (member_at k ms) w.0 w.1
    (there_over law o root P F ps p left n x (front ++ field k ∷ []) (fixed_at (below (path_text front) (field k)) P) f.0.node M w.0 (node_after root (node nullable description (object fs preserves type bounds cs)) f.0.node front (field k) reach (ap (option_map (λ f. f.node)) f.1.0)) f.1.1 (append_one front (field k) x ∙ e)
    (member_tree ms k w.0 whole w.1) below_stored
    (next_over o root P F ps p front left (field k) x (node nullable description (object fs preserves type bounds cs)) f.0.node (tree.object ms) w.0 n reach e (ap (option_map (λ f. f.node)) f.1.0) over
    (part.name k) refl w.1))
there_over law o root P F ps p left n (field k ∷ x) front None (node nullable description (object fs preserves type bounds cs)) M tree.null reach leads e whole stored over =
    let f = found_field fs k x M leads in
    absurd (contrary (asks_field (with_paths P F ps) (path_text front) fs) (field_asked (with_paths P F ps) (path_text front) fs k f.0 f.1.0 (asked_on_way o P (with_paths P F ps) p front left (field k) x n.narrowed n.is_left e)) (over [] []))
there_over law o root P F ps p left n (field k ∷ x) front None (node nullable description (object fs preserves type bounds cs)) M v reach leads e whole stored over =
    absurd ((law (node nullable description (object fs preserves type bounds cs)) v).0 stored).0
there_over law o root P F ps p left n (field k ∷ x) front None N M v reach leads e whole stored over = absurd (cc)
there_over law o root P F ps p left n (value ∷ x) front None (node nullable description (nodes.map N type bounds)) M (tree.object ms) reach leads e whole stored over =
    let asked = asked_on_way o P (with_paths P F ps) p front left value x n.narrowed n.is_left e in
    let here = and_parts (all_names (λ k. is_among k P.names) ms) (has_enough (is_present (below (path_text front) value) (with_paths P F ps)) (members_count ms)) (over [] []) in
    let parts = (law (node nullable description (nodes.map N type bounds)) (tree.object ms)).0 stored in
    some_values (λ w. is_there o x w) ms whole (enough_from (is_present (below (path_text front) value) (with_paths P F ps)) (nat_lt 0 (members_count ms)) asked here.1)
    (λ k w found. there_over law o root P F ps p left n x (front ++ value ∷ []) (fixed_at (below (path_text front) value) P) N M w (node_after root (node nullable description (nodes.map N type bounds)) N front value reach refl) leads (append_one front value x ∙ e)
    (member_tree ms k w whole found) (parts.1 k w found)
    (next_over o root P F ps p front left value x (node nullable description (nodes.map N type bounds)) N (tree.object ms) w n reach e refl over (part.name k) tt found))
there_over law o root P F ps p left n (value ∷ x) front None (node nullable description (nodes.map N type bounds)) M tree.null reach leads e whole stored over =
    absurd (contrary (is_present (below (path_text front) value) (with_paths P F ps)) (asked_on_way o P (with_paths P F ps) p front left value x n.narrowed n.is_left e) (over [] []))
there_over law o root P F ps p left n (value ∷ x) front None (node nullable description (nodes.map N type bounds)) M v reach leads e whole stored over =
    absurd ((law (node nullable description (nodes.map N type bounds)) v).0 stored).0
there_over law o root P F ps p left n (value ∷ x) front None N M v reach leads e whole stored over = absurd (cc)
there_over law o root P F ps p left n (item ∷ x) front None (node nullable description (list N type keys bounds)) M (tree.list ds) reach leads e whole stored over =
    let asked = asked_on_way o P (with_paths P F ps) p front left item x n.narrowed n.is_left e in
    let parts = (law (node nullable description (list N type keys bounds)) (tree.list ds)).0 stored in
    some_items (λ w. is_there o x w) ds (enough_from (is_present (below (path_text front) item) (with_paths P F ps)) (nat_lt 0 (items_count ds)) asked (over [] []))
    (λ i w found. there_over law o root P F ps p left n x (front ++ item ∷ []) (fixed_below P (path_text front) (node nullable description (list N type keys bounds)) item) N M w (node_after root (node nullable description (list N type keys bounds)) N front item reach refl) leads (append_one front item x ∙ e)
    (item_tree ds i w whole found) (parts.1 i w found)
    (next_over o root P F ps p front left item x (node nullable description (list N type keys bounds)) N (tree.list ds) w n reach e refl over (part.index i) tt found))
there_over law o root P F ps p left n (item ∷ x) front None (node nullable description (list N type keys bounds)) M tree.null reach leads e whole stored over =
    absurd (contrary (is_present (below (path_text front) item) (with_paths P F ps)) (asked_on_way o P (with_paths P F ps) p front left item x n.narrowed n.is_left e) (over [] []))
there_over law o root P F ps p left n (item ∷ x) front None (node nullable description (list N type keys bounds)) M v reach leads e whole stored over =
    absurd ((law (node nullable description (list N type keys bounds)) v).0 stored).0
there_over law o root P F ps p left n (item ∷ x) front None N M v reach leads e whole stored over = absurd (cc)
