-- Outside of the varied paths each sample over the pools around an object is as the object.
use Rattle.std.proofs.Common.{◌≡◌, ◌↔◌, ℕ, List, [], ◌∷◌, ◌++◌, Bool, true, false, ◌||◌, not, Option, Some, None, option_map, option_and_then, is_some, refl, sym, ap, ◌∙◌, subst, inl, inr, append_assoc, append-nil}
use Rattle.std.specs.Prelude.{◌==◌}
use Rattle.std.specs.Ordering.{is_eq}
use Rattle.std.specs.Str.{bytes_eq}
use Rattle.std.specs.declared.cmp.Ordering.{Ordering}
use Rattle.std.specs.declared.cmp.Ordering.TheVariants.{Less, Equal, Greater}
use Rattle.std.proofs.lemmas.Bool.{and_parts, and_from}
use Rattle.std.proofs.lemmas.List.Elements.{All-head}
use Rattle.jtree.specs.Data.{Data, Members}
use Rattle.jtree.specs.Data as tree
use Rattle.jtree.specs.Order.{tree_cmp}
use Rattle.jtree.specs.Path.{member_at, under}
use Rattle.jtree.specs.Path as part
use Rattle.jtree.specs.Internal.Lookups.{bool_cases, option_cases, same_name, own_name}
use Rattle.jtree.specs.Internal.OrderLaws.{tree_same}
use Rattle.schema.specs.Document.Texts.{is_among}
use Rattle.schema.specs.Nodes.Node.{Node, node, object, Fields, no_fields, Validations, IsNode, AreOrdered}
use Rattle.schema.specs.Nodes.Node as nodes
use Rattle.schema.specs.Nodes.ByPlace.{Declared, field_at, node_at}
use Rattle.schema.specs.declared.node.Bounds.{Bounds}
use Rattle.schema.specs.declared.node.MapType.{MapType}
use Rattle.stored.specs.Objects.Becomes.{IsStored}
use Rattle.stored.specs.Objects.StoredByParts.{StoredByParts, IsStoredField}
use Rattle.stored.specs.Objects.Tests.{is_same}
use Rattle.explain.specs.Paths.FieldPath.{FieldStep, field, FieldPath, place_of}
use Rattle.explain.specs.Paths.PathText.{step_text, path_text}
use Rattle.plan.specs.Pools.Pools.{Pools, fixed_at, is_present}
use Rattle.plan.specs.Pools.Document.{pools_of}
use Rattle.plan.specs.Samples.Site.{below}
use Rattle.plan.specs.Internal.LeastLaws.{in_leasts}
use Rattle.plan.specs.Samples.Over.{all_names, is_in, asks_field, has_present, IsOver}
use Rattle.plan.specs.Samples.Part.{IsSample}
use Rattle.plan.specs.declared.pool_limits.PoolLimits.{PoolLimits}
use Rattle.suggest.specs.Suggested.VariedSamples.{path_of_names, part_under, is_varied_above, SamplesAreTheObjectOutside}
use Rattle.suggest.specs.Suggested.Document.{general_of, for_variation, document_of}
use Rattle.suggest.specs.Suggested.LeafValues.{General}
use Rattle.suggest.specs.Suggested.Lists.{schema_of_field}
use Rattle.suggest.specs.Suggested.Varied.{Suggestions, both, begins_with, goes_on, leads_on, as_in_object, always_present, suggestions_at, suggestions_below, suggestions_of_fields, reach, reach_by_fields}
use Rattle.suggest.specs.declared.varying.Reach.TheVariants.{There}
use Rattle.suggest.proofs.EntryLemmas.{values_at, pool_fixed, pool_present, all_present}
use Rattle.suggest.proofs.SuggestionLemmas.{OneText, further, field_says, said_of_field, nothing_here, asks_below_same}
use Rattle.suggest.proofs.WithoutLemmas.{nothing_taken}

abbrev pub StoredLaw : Type 0
StoredLaw = (N : Node) (v : Data) → IsStored N v ↔ StoredByParts N v

-- ---- pools in which this is said

-- below a path
pub record AreSaidBelow (P : Pools) (path : List ℕ) (S : Suggestions) : Type 0 where
  pub fixed : (s : FieldStep) (p : FieldPath) → fixed_at (path ++ path_text (s ∷ p)) P ≡ values_at (path ++ path_text (s ∷ p)) S.fixed
  pub present : (s : FieldStep) (p : FieldPath) → is_present (path ++ path_text (s ∷ p)) P ≡ is_among (path ++ path_text (s ∷ p)) S.present

-- at a path, and below it
pub record AreSaidAt (P : Pools) (path : List ℕ) (S : Suggestions) : Type 0 where
  pub fixed : (p : FieldPath) → fixed_at (path ++ path_text p) P ≡ values_at (path ++ path_text p) S.fixed
  pub present : (p : FieldPath) → is_present (path ++ path_text p) P ≡ is_among (path ++ path_text p) S.present

pub fixed_here : (P : Pools) (path : List ℕ) (S : Suggestions) → AreSaidAt P path S → fixed_at path P ≡ values_at path S.fixed
fixed_here P path S a = subst (λ t. fixed_at t P ≡ values_at t S.fixed) (append-nil path) (a.fixed [])

pub present_here : (P : Pools) (path : List ℕ) (S : Suggestions) → AreSaidAt P path S → is_present path P ≡ is_among path S.present
present_here P path S a = subst (λ t. is_present t P ≡ is_among t S.present) (append-nil path) (a.present [])

pub said_at_field : OneText → (P : Pools) (G : General) (ts : List (List ℕ)) (v schema : Option Data) (path : List ℕ) (fs : Fields) (k : List ℕ) (f : Declared) → AreOrdered fs → field_at k fs ≡ Some f
    → AreSaidBelow P path (suggestions_of_fields G ts v schema path fs) → AreSaidAt P (below path (field k)) (said_of_field G ts v schema path k f)
said_at_field one P G ts v schema path fs k f ordered found a = record {
  fixed = λ p. subst (λ t. fixed_at t P ≡ values_at t (said_of_field G ts v schema path k f).fixed) (sym (further path (field k) p))
      (a.fixed (field k) p ∙ (field_says one G ts v schema path fs k f p ordered found).fixed);
  present = λ p. subst (λ t. is_present t P ≡ is_among t (said_of_field G ts v schema path k f).present) (sym (further path (field k) p))
      (a.present (field k) p ∙ (field_says one G ts v schema path fs k f p ordered found).present);
}

-- ---- at a path that is not varied

pub leads_at : (G : General) (ts : List (List ℕ)) (v default schema : Option Data) (path : List ℕ) (N : Node) → is_among path ts ≡ false → leads_on path ts ≡ true
    → suggestions_at G ts v default schema path N ≡ both (always_present path) (suggestions_below G ts v schema path N)
leads_at G ts v default schema path N other leads = rw (other, leads) refl

pub kept_at : (G : General) (ts : List (List ℕ)) (v default schema : Option Data) (path : List ℕ) (N : Node) → is_among path ts ≡ false → leads_on path ts ≡ false
    → suggestions_at G ts v default schema path N ≡ as_in_object path v
kept_at G ts v default schema path N other ends = rw (other, ends) refl

pub own_among : (path : List ℕ) (ts : List (List ℕ)) → is_among path (path ∷ ts) ≡ true
own_among path ts = rw (own_name path) refl

pub own_values : (path : List ℕ) (vs : List Data) → values_at path (record { path = path; values = vs } ∷ []) ≡ Some vs
own_values path vs = rw (own_name path) refl

-- what leads on is not fixed itself, and always there
pub leading_unfixed : OneText → (P : Pools) (G : General) (ts : List (List ℕ)) (v schema : Option Data) (path : List ℕ) (N : Node) → AreSaidAt P path (both (always_present path) (suggestions_below G ts v schema path N))
    → fixed_at path P ≡ None
leading_unfixed one P G ts v schema path N a = fixed_here P path (both (always_present path) (suggestions_below G ts v schema path N)) a ∙ (nothing_here one G ts v schema path N).fixed

pub leading_present : (P : Pools) (path : List ℕ) (S : Suggestions) → AreSaidAt P path (both (always_present path) S) → is_present path P ≡ true
leading_present P path S a = present_here P path (both (always_present path) S) a ∙ own_among path S.present

pub said_after : OneText → (P : Pools) (path : List ℕ) (S : Suggestions) → AreSaidAt P path (both (always_present path) S) → AreSaidBelow P path S
said_after one P path S a = record { fixed = λ s p. a.fixed (s ∷ p) ∙ (asks_below_same one path s p S).fixed; present = λ s p. a.present (s ∷ p) ∙ (asks_below_same one path s p S).present }

-- ---- a field of a value that is stored and over the pools

pub record IsFieldThere (P : Pools) (path k : List ℕ) (f : Declared) (w : Data) : Type 0 where
  pub value : Data
  pub there : under w k ≡ Some value
  pub stored : IsStored f.node value
  pub over : IsOver P (fixed_at (below path (field k)) P) (below path (field k)) f.node value

found_there : StoredLaw → (P : Pools) (path : List ℕ) (nullable : Bool) (description : Option (List ℕ)) (fs : Fields) (preserves : Bool) (type : MapType) (bounds : Bounds) (cs : Validations) (w u : Data)
    (k : List ℕ) (f : Declared) → field_at k fs ≡ Some f → under w k ≡ Some u → IsStored (node nullable description (object fs preserves type bounds cs)) w
    → IsOver P None path (node nullable description (object fs preserves type bounds cs)) w → IsFieldThere P path k f w
found_there law P path nullable description fs preserves type bounds cs (tree.object ms) u k f found there stored over = record {
  value = u;
  there = there;
  stored = subst (λ o. IsStoredField f o) there (((law (node nullable description (object fs preserves type bounds cs)) (tree.object ms)).0 stored).1.1 k f found);
  over = λ path p. over (part.name k ∷ path) (field k ∷ p) f.node u refl (ap (option_map (λ f. f.node)) found) there;
}
found_there law P path nullable description fs preserves type bounds cs w u k f found there stored over = absurd (cc)

neither : (a b : Bool) → (a || b) ≡ false → (a ≡ false) × (b ≡ false)
neither true b e = absurd (cc)
neither false b e = (refl, e)

asked_there : (P : Pools) (path : List ℕ) (fs : Fields) (k : List ℕ) (f : Declared) → field_at k fs ≡ Some f → is_present (below path (field k)) P ≡ true → not (asks_field P path fs) ≡ true → ⊥
asked_there P path no_fields k f found asked none = absurd (cc)
asked_there P path (nodes.field l N required default fs) k f found asked none =
    let no : (is_present (below path (field l)) P || asks_field P path fs) ≡ false = not_true (is_present (below path (field l)) P || asks_field P path fs) none in
    let parts = neither (is_present (below path (field l)) P) (asks_field P path fs) no in
    elim (bool_cases (bytes_eq k l)) [
      | inl same ↦
          let yes : is_present (below path (field l)) P ≡ true = subst (λ n. is_present (below path (field n)) P ≡ true) (same_name k l same) asked in
          let unasked = parts.0 in
          cc
      | inr other ↦ asked_there P path fs k f (rw other at found) asked (ap not parts.1)
    ] where
      not_true : (b : Bool) → not b ≡ true → b ≡ false
      not_true true e = absurd (cc)
      not_true false e = refl

present_there : (P : Pools) (path : List ℕ) (fs : Fields) (ms : Members) (k : List ℕ) (f : Declared) → field_at k fs ≡ Some f → is_present (below path (field k)) P ≡ true
    → has_present P path fs ms ≡ true → is_some (member_at k ms) ≡ true
present_there P path no_fields ms k f found asked has = absurd (cc)
present_there P path (nodes.field l N required default fs) ms k f found asked has =
    let parts = and_parts (not (is_present (below path (field l)) P) || is_some (member_at l ms)) (has_present P path fs ms) has in
    elim (bool_cases (bytes_eq k l)) [
      | inl same ↦
          let name = same_name k l same in
          let yes : is_present (below path (field l)) P ≡ true = subst (λ n. is_present (below path (field n)) P ≡ true) name asked in
          subst (λ n. is_some (member_at n ms) ≡ true) (sym name) (rw yes at parts.0)
      | inr other ↦ present_there P path fs ms k f (rw other at found) asked parts.1
    ]

some_value : (o : Option Data) → is_some o ≡ true → (u : Data) × (o ≡ Some u)
some_value None e = absurd (cc)
some_value (Some u) e = (u, refl)

-- what is always there is there
is_there : StoredLaw → (P : Pools) (path : List ℕ) (nullable : Bool) (description : Option (List ℕ)) (fs : Fields) (preserves : Bool) (type : MapType) (bounds : Bounds) (cs : Validations) (w : Data)
    (k : List ℕ) (f : Declared) → field_at k fs ≡ Some f → is_present (below path (field k)) P ≡ true → IsStored (node nullable description (object fs preserves type bounds cs)) w
    → IsOver P None path (node nullable description (object fs preserves type bounds cs)) w → IsFieldThere P path k f w
is_there law P path nullable description fs preserves type bounds cs (tree.object ms) k f found asked stored over =
    let here = and_parts (all_names (λ k. is_some (field_at k fs)) ms) (has_present P path fs ms) (over [] []) in
    let u = some_value (member_at k ms) (present_there P path fs ms k f found asked here.1) in
    found_there law P path nullable description fs preserves type bounds cs (tree.object ms) u.0 k f found u.1 stored over
is_there law P path nullable description fs preserves type bounds cs tree.null k f found asked stored over = absurd (asked_there P path fs k f found asked (over [] []))
is_there law P path nullable description fs preserves type bounds cs w k f found asked stored over = absurd ((law (node nullable description (object fs preserves type bounds cs)) w).0 stored).0

-- ---- what is kept

pub same_tree : (v w : Data) → (is_same v w || false) ≡ true → v ≡ w
same_tree v w e = tree_same v w (tied (tree_cmp v w) e) where
  tied : (o : Ordering) → (is_eq o || false) ≡ true → o ≡ Equal
  tied Less e = absurd (cc)
  tied Equal e = refl
  tied Greater e = absurd (cc)

kept_same : StoredLaw → (P : Pools) (path : List ℕ) (nullable : Bool) (description : Option (List ℕ)) (fs : Fields) (preserves : Bool) (type : MapType) (bounds : Bounds) (cs : Validations) (w : Data)
    (k : List ℕ) (f : Declared) (v : Option Data) → field_at k fs ≡ Some f → AreSaidAt P (below path (field k)) (as_in_object (below path (field k)) v)
    → IsStored (node nullable description (object fs preserves type bounds cs)) w → IsOver P None path (node nullable description (object fs preserves type bounds cs)) w → under w k ≡ v
kept_same law P path nullable description fs preserves type bounds cs w k f None found said stored over = elim (option_cases (under w k)) [
  | inl none ↦ none
  | inr some ↦
      let x = found_there law P path nullable description fs preserves type bounds cs w some.0 k f found some.1 stored over in
      let fixed = fixed_here P (below path (field k)) (as_in_object (below path (field k)) None) said ∙ own_values (below path (field k)) [] in
      let listed : is_in x.value [] ≡ true = (subst (λ o. IsOver P o (below path (field k)) f.node x.value) fixed x.over) [] [] in
      absurd (cc)
]
kept_same law P path nullable description fs preserves type bounds cs w k f (Some u) found said stored over =
    let asked = present_here P (below path (field k)) (as_in_object (below path (field k)) (Some u)) said ∙ own_among (below path (field k)) [] in
    let x = is_there law P path nullable description fs preserves type bounds cs w k f found asked stored over in
    let fixed = fixed_here P (below path (field k)) (as_in_object (below path (field k)) (Some u)) said ∙ own_values (below path (field k)) (u ∷ []) in
    let listed : is_in x.value (u ∷ []) ≡ true = (in_leasts x.value (u ∷ []) ((subst (λ o. IsOver P o (below path (field k)) f.node x.value) fixed x.over) [] [])).0 in
    x.there ∙ ap Some (same_tree x.value u listed)

-- ---- along names

pub found_field : (fs : Fields) (k : List ℕ) (p : FieldPath) (M : Node) → option_and_then (λ L. node_at L (place_of p)) (option_map (λ f. f.node) (field_at k fs)) ≡ Some M
    → (f : Declared) × (field_at k fs ≡ Some f) × (node_at f.node (place_of p) ≡ Some M)
found_field fs k p M leads = elim (option_cases (field_at k fs)) [
  | inl none ↦ absurd (let h = rw none at leads in cc)
  | inr some ↦ (some.0, some.1, rw some.1 at leads)
]

pub field_node : (fs : Fields) (k : List ℕ) (f : Declared) → AreOrdered fs → field_at k fs ≡ Some f → IsNode f.node
field_node no_fields k f ordered found = absurd (cc)
field_node (nodes.field l N required default fs) k f ordered found = elim (bool_cases (bytes_eq k l)) [
  | inl same ↦
      let here : Some (record { node = N; required = required; default = default }) ≡ Some f = rw same at found in
      let is : N ≡ f.node = cc in
      subst IsNode is ordered.0
  | inr other ↦ field_node fs k f ordered.2 (rw other at found)
]

names_below : (front : List (List ℕ)) (k : List ℕ) → below (path_text (path_of_names front)) (field k) ≡ path_text (path_of_names (front ++ k ∷ []))
names_below [] k = sym (append-nil (step_text (field k)))
names_below (l ∷ front) k = append_assoc (step_text (field l)) (path_text (path_of_names front)) (step_text (field k)) ∙ ap (λ t. step_text (field l) ++ t) (names_below front k)

varied_here : (front ks ts : List (List ℕ)) → is_varied_above front ks ts ≡ false → is_among (path_text (path_of_names front)) ts ≡ false
varied_here front [] ts above = above
varied_here front (k ∷ ks) ts above = (neither (is_among (path_text (path_of_names front)) ts) (is_varied_above (front ++ k ∷ []) ks ts) above).0

two_steps : (v : Option Data) (k : List ℕ) (ks : List (List ℕ)) → option_and_then (λ x. part_under x ks) (option_and_then (λ u. under u k) v) ≡ option_and_then (λ u. part_under u (k ∷ ks)) v
two_steps None k ks = refl
two_steps (Some u) k ks = refl

same_along : StoredLaw → OneText → (P : Pools) (G : General) (ts ks front : List (List ℕ)) (path : List ℕ) (N M : Node) (v schema : Option Data) (w : Data) → path ≡ path_text (path_of_names front)
    → IsNode N → leads_on path ts ≡ true → AreSaidBelow P path (suggestions_below G ts v schema path N) → node_at N (place_of (path_of_names ks)) ≡ Some M → is_varied_above front ks ts ≡ false
    → leads_on (path_text (path_of_names (front ++ ks))) ts ≡ false → IsStored N w → IsOver P None path N w → part_under w ks ≡ option_and_then (λ u. part_under u ks) v
same_along law one P G ts [] front path N M v schema w is ordered leads said there above ends stored over =
    let no : leads_on path ts ≡ false = subst (λ t. leads_on t ts ≡ false) (sym (is ∙ ap (λ x. path_text (path_of_names x)) (sym (append-nil front)))) ends in
    absurd (cc)
same_along law one P G ts (k ∷ ks) front path (node nullable description (object fs preserves type bounds cs)) M v schema w is ordered leads said there above ends stored over =
    let f = found_field fs k (path_of_names ks) M there in
    let next : below path (field k) ≡ path_text (path_of_names (front ++ k ∷ [])) = ap (λ t. below t (field k)) is ∙ names_below front k in
    let rest = (neither (is_among (path_text (path_of_names front)) ts) (is_varied_above (front ++ k ∷ []) ks ts) above).1 in
    let other : is_among (below path (field k)) ts ≡ false = subst (λ t. is_among t ts ≡ false) (sym next) (varied_here (front ++ k ∷ []) ks ts rest) in
    let at = said_at_field one P G ts v schema path fs k f.0 ordered f.1 said in
    elim (bool_cases (leads_on (below path (field k)) ts)) [
      | inl more ↦
          let goes = subst (λ S. AreSaidAt P (below path (field k)) S) (leads_at G ts (option_and_then (λ u. under u k) v) f.0.default (schema_of_field schema k) (below path (field k)) f.0.node other more) at in
          let asked = leading_present P (below path (field k)) (suggestions_below G ts (option_and_then (λ u. under u k) v) (schema_of_field schema k) (below path (field k)) f.0.node) goes in
          let x = is_there law P path nullable description fs preserves type bounds cs w k f.0 f.1 asked stored over in
          let unfixed = leading_unfixed one P G ts (option_and_then (λ u. under u k) v) (schema_of_field schema k) (below path (field k)) f.0.node goes in
          let deeper = same_along law one P G ts ks (front ++ k ∷ []) (below path (field k)) f.0.node M (option_and_then (λ u. under u k) v) (schema_of_field schema k) x.value next
          (field_node fs k f.0 ordered f.1) more (said_after one P (below path (field k)) (suggestions_below G ts (option_and_then (λ u. under u k) v) (schema_of_field schema k) (below path (field k)) f.0.node) goes)
          f.2 rest (subst (λ t. leads_on (path_text (path_of_names t)) ts ≡ false) (sym (append_assoc front (k ∷ []) ks)) ends) x.stored
          (subst (λ o. IsOver P o (below path (field k)) f.0.node x.value) unfixed x.over) in
          ap (option_and_then (λ x. part_under x ks)) x.there ∙ (deeper ∙ two_steps v k ks)
      | inr last ↦
          let keeps = subst (λ S. AreSaidAt P (below path (field k)) S) (kept_at G ts (option_and_then (λ u. under u k) v) f.0.default (schema_of_field schema k) (below path (field k)) f.0.node other last) at in
          let same = kept_same law P path nullable description fs preserves type bounds cs w k f.0 (option_and_then (λ u. under u k) v) f.1 keeps stored over in
          ap (option_and_then (λ x. part_under x ks)) same ∙ two_steps v k ks
    ]
same_along law one P G ts (k ∷ ks) front path N M v schema w is ordered leads said there above ends stored over = absurd (cc)

-- ---- from the root

first_letter : (text rest : List ℕ) → begins_with (47 ∷ rest) text ≡ true → begins_with (47 ∷ []) text ≡ true
first_letter [] rest e = absurd (cc)
first_letter (b ∷ text) rest e = let parts = and_parts (47 == b) (begins_with rest text) e in and_from (47 == b) true parts.0 refl

fields_start : (text : List ℕ) (v : Option Data) (fs : Fields) → reach_by_fields text v [] fs ≡ There → goes_on [] text ≡ true
fields_start text v no_fields there = absurd (cc)
fields_start text v (nodes.field k N required default fs) there = elim (bool_cases (bytes_eq text (below [] (field k)))) [
  | inl same ↦ subst (λ t. goes_on [] t ≡ true) (sym (same_name text (below [] (field k)) same)) refl
  | inr other ↦ elim (bool_cases (goes_on (below [] (field k)) text)) [
    | inl more ↦ first_letter text _ more
    | inr none ↦ fields_start text v fs (rw (other, none) at there)
  ]
]

starts : (text : List ℕ) (v : Option Data) (N : Node) → reach text v [] N ≡ There → goes_on [] text ≡ true
starts text v (node nullable description (object fs preserves type bounds cs)) there = fields_start text v fs there
starts text v N there = absurd (cc)

pub root_said : (limits : PoolLimits) (root : Node) (S : Suggestions) → AreSaidBelow (pools_of (document_of limits root [] S)) [] S
root_said limits root S = record {
  fixed = λ s p. pool_fixed limits root [] S (path_text (s ∷ p)) ∙ ap (values_at (path_text (s ∷ p))) (append-nil S.fixed);
  present = λ s p. ap (is_among (path_text (s ∷ p))) (pool_present limits root [] S ∙ all_present S.present);
}

pub root_leads : (root : Node) (v : Data) (t : List ℕ) (ts : List (List ℕ)) → reach t (Some v) [] root ≡ There → leads_on [] (t ∷ ts) ≡ true
root_leads root v t ts there = rw (starts t (Some v) root there) refl

pub same_outside : StoredLaw → OneText → SamplesAreTheObjectOutside
same_outside law one limits raw root v [] limit w ordered some varied sample = absurd (some refl)
same_outside law one limits raw root v (t ∷ ts) limit w ordered some varied taken = λ ks N there above ends.
    let sample : IsSample root (pools_of (document_of limits root [] (suggestions_below (for_variation (general_of limits root)) (t ∷ ts) (Some v) (Some raw) [] root))) limit w =
    subst (λ u. IsSample root (pools_of (document_of limits root [] (suggestions_below (for_variation (general_of limits root)) (t ∷ ts) (Some u) (Some raw) [] root))) limit w) (nothing_taken [] root v) taken in
    same_along law one (pools_of (document_of limits root [] (suggestions_below (for_variation (general_of limits root)) (t ∷ ts) (Some v) (Some raw) [] root))) (for_variation (general_of limits root)) (t ∷ ts) ks [] [] root N (Some v) (Some raw) w refl
    ordered (root_leads root v t ts (All-head (λ t. reach t (Some v) [] root ≡ There) t ts varied)) (root_said limits root (suggestions_below (for_variation (general_of limits root)) (t ∷ ts) (Some v) (Some raw) [] root))
    there above ends sample.part.stored sample.part.over
