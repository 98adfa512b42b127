-- An object is a sample over the pools around it, where nothing is cut.
use Rattle.std.proofs.Common.{option_to_list, ◌≡◌, ◌≤◌, ◌<◌, ◌⊎◌, ℕ, List, [], ◌∷◌, ◌++◌, true, false, ◌||◌, not, Option, Some, None, All, length, option_and_then, is_some, refl, sym, ap, ◌∙◌, subst, inl, inr, append-nil, append_assoc}
use Rattle.std.specs.Str.{bytes_eq}
use Rattle.std.proofs.lemmas.Bool.{and_from}
use Rattle.std.proofs.lemmas.List.{take_all}
use Rattle.jtree.specs.Data.{Data, Members}
use Rattle.jtree.specs.Data as tree
use Rattle.jtree.specs.Path.{Step, name, index, Path, member_at, part_by, under}
use Rattle.jtree.specs.Internal.Lookups.{bool_cases, option_cases, same_name, own_name}
use Rattle.jtree.specs.Internal.Rising.{Among, among_left, among_right, index_of}
use Rattle.schema.specs.Document.Texts.{is_among}
use Rattle.schema.specs.Nodes.Node.{Node, node, object, Fields, no_fields, IsNode, AreOrdered}
use Rattle.schema.specs.Nodes.Node as nodes
use Rattle.schema.specs.Nodes.ByPlace.{Declared, field_at, node_below}
use Rattle.stored.specs.Objects.Becomes.{IsStored}
use Rattle.stored.specs.Objects.Parts.{at, part_by_path, leads}
use Rattle.stored.specs.Objects.StoredByParts.{IsStoredField}
use Rattle.explain.specs.Paths.FieldPath.{FieldStep, field, item, value, FieldPath, place_step}
use Rattle.explain.specs.Paths.PathText.{step_text, path_text}
use Rattle.plan.specs.declared.pool_limits.PoolLimits.{PoolLimits}
use Rattle.plan.specs.Pools.Pools.{Pools, list_at, is_present}
use Rattle.plan.specs.Pools.Document.{pools_of}
use Rattle.plan.specs.Samples.Site.{below, fixed_below}
use Rattle.plan.specs.Samples.Over.{is_in, all_names, has_present, is_over_here, StepFollows, IsOverAlong}
use Rattle.plan.specs.Samples.Part.{IsSample}
use Rattle.plan.specs.Internal.LeastLaws.{leasts_one}
use Rattle.suggest.specs.Suggested.Leasts.{IsLeastAt}
use Rattle.suggest.specs.Suggested.LeftOut.{Follows}
use Rattle.suggest.specs.Suggested.VariedSamples.{path_of_names, can_be_sampled, steps_of_names, HasLeasts, TheObjectIsASample}
use Rattle.suggest.specs.Suggested.Document.{usual_names, general_of, for_variation, document_of}
use Rattle.suggest.specs.Suggested.LeafValues.{General}
use Rattle.suggest.specs.Suggested.Lists.{Entry, schema_of_field}
use Rattle.suggest.specs.Suggested.Varied.{Suggestions, both, leads_on, lists_alone, as_in_object, always_present, suggestions_at, suggestions_below, suggestions_of_fields, reach}
use Rattle.suggest.specs.declared.varying.Reach.TheVariants.{There}
use Rattle.suggest.proofs.VariedSampleLemmas.{StoredLaw, AreSaidBelow, AreSaidAt, fixed_here, present_here, said_at_field, leads_at, kept_at, own_values, leading_unfixed, said_after, field_node, root_said, root_leads}
use Rattle.suggest.proofs.EntryLemmas.{values_at, values_of, pool_lists, pool_names}
use Rattle.suggest.proofs.FreeLemmas.{CanAllBeSampled, AreAllLeast, leads_there, AreShort, IsFreePart, found_node, free_over}
use Rattle.suggest.proofs.LeadingLemmas.{none_reached, object_reached, AreReached, reached_below, leading_text}
use Rattle.suggest.proofs.SuggestionLemmas.{OneText, further, field_says, said_of_field, asks_below_same}
use Rattle.suggest.proofs.UncutLemmas.{own_same, names_uncut}
use Rattle.suggest.proofs.WithoutLemmas.{nothing_taken}

-- ---- lists and names of a field

abbrev AreListedBelow : Pools → List ℕ → Suggestions → Type 0
AreListedBelow P path S = (s : FieldStep) (p : FieldPath) → list_at (path ++ path_text (s ∷ p)) P ≡ values_at (path ++ path_text (s ∷ p)) S.lists

abbrev AreListedAt : Pools → List ℕ → Suggestions → Type 0
AreListedAt P path S = (p : FieldPath) → list_at (path ++ path_text p) P ≡ values_at (path ++ path_text p) S.lists

abbrev AreNamed : Pools → Suggestions → Type 0
AreNamed P S = (k : List ℕ) → Among S.names k → is_among k P.names ≡ true

listed_at_field : OneText → (P : Pools) (G : General) (ts : List (List ℕ)) (v schema : Option Data) (path : List ℕ) (fs : Fields) (k : List ℕ) (f : Declared) → AreOrdered fs → field_at k fs ≡ Some f
    → AreListedBelow P path (suggestions_of_fields G ts v schema path fs) → AreListedAt P (below path (field k)) (said_of_field G ts v schema path k f)
listed_at_field one P G ts v schema path fs k f ordered found a p = subst (λ t. list_at t P ≡ values_at t (said_of_field G ts v schema path k f).lists) (sym (further path (field k) p))
    (a (field k) p ∙ (field_says one G ts v schema path fs k f p ordered found).lists)

listed_after : OneText → (P : Pools) (path : List ℕ) (S : Suggestions) → AreListedAt P path (both (always_present path) S) → AreListedBelow P path S
listed_after one P path S a s p = a (s ∷ p) ∙ (asks_below_same one path s p S).lists

said_names : (G : General) (ts : List (List ℕ)) (v schema : Option Data) (path : List ℕ) (fs : Fields) (k : List ℕ) (f : Declared) (x : List ℕ) → field_at k fs ≡ Some f
    → Among (said_of_field G ts v schema path k f).names x → Among (suggestions_of_fields G ts v schema path fs).names x
said_names G ts v schema path no_fields k f x found a = absurd (cc)
said_names G ts v schema path (nodes.field l N required default fs) k f x found a = elim (bool_cases (bytes_eq k l)) [
  | inl same ↦
      let here : Some (record { node = N; required = required; default = default }) ≡ Some f = rw same at found in
      let is : f ≡ record { node = N; required = required; default = default } = cc in
      among_left (said_of_field G ts v schema path l (record { node = N; required = required; default = default })).names (suggestions_of_fields G ts v schema path fs).names x
      (subst (λ n. Among (said_of_field G ts v schema path n (record { node = N; required = required; default = default })).names x) (same_name k l same)
      (subst (λ g. Among (said_of_field G ts v schema path k g).names x) is a))
  | inr other ↦ among_right (said_of_field G ts v schema path l (record { node = N; required = required; default = default })).names (suggestions_of_fields G ts v schema path fs).names x
      (said_names G ts v schema path fs k f x (rw other at found) a)
]

free_at : (G : General) (ts : List (List ℕ)) (v default schema : Option Data) (path : List ℕ) (N : Node) → is_among path ts ≡ true → suggestions_at G ts v default schema path N ≡ lists_alone G (option_to_list v) default schema path N
free_at G ts v default schema path N varied = rw varied refl

-- ---- a part of the object on the way to a varied path

-- from a path on: samples can have the parts on the way, at varied paths, and below, and numbers at varied paths and below are the least
record CanBeSampledFrom (P : Pools) (ts : List (List ℕ)) (path : List ℕ) (N : Node) (v : Data) : Type 0 where
  pub on_the_way : (ks : List (List ℕ)) (M : Node) (w : Data) → leads_on (path ++ path_text (path_of_names ks)) ts ≡ true → part_by_path leads (at N v) (steps_of_names ks) ≡ Some (at M w) → can_be_sampled M w ≡ true
  pub at_varied : (ks : List (List ℕ)) (q : Path) (M : Node) (w : Data) → is_among (path ++ path_text (path_of_names ks)) ts ≡ true → part_by_path leads (at N v) (steps_of_names ks ++ q) ≡ Some (at M w) → can_be_sampled M w ≡ true
  pub least : (ks : List (List ℕ)) (q : Path) (p : FieldPath) (M : Node) (w : Data) → is_among (path ++ path_text (path_of_names ks)) ts ≡ true → Follows q p
      → part_by_path leads (at N v) (steps_of_names ks ++ q) ≡ Some (at M w) → IsLeastAt P ((path ++ path_text (path_of_names ks)) ++ path_text p) M w

sampled_after : (P : Pools) (ts : List (List ℕ)) (path k : List ℕ) (N M : Node) (v w : Data) → leads N v (name k) ≡ Some (at M w) → CanBeSampledFrom P ts path N v → CanBeSampledFrom P ts (below path (field k)) M w
sampled_after P ts path k N M v w there d = record {
  on_the_way = λ ks K u way e. d.on_the_way (k ∷ ks) K u (subst (λ t. leads_on t ts ≡ true) (further path (field k) (path_of_names ks)) way)
      (ap (option_and_then (λ r. part_by_path leads r (steps_of_names ks))) there ∙ e);
  at_varied = λ ks q K u varied e. d.at_varied (k ∷ ks) q K u (subst (λ t. is_among t ts ≡ true) (further path (field k) (path_of_names ks)) varied)
      (ap (option_and_then (λ r. part_by_path leads r (steps_of_names ks ++ q))) there ∙ e);
  least = λ ks q p K u varied on e. subst (λ t. IsLeastAt P (t ++ path_text p) K u) (sym (further path (field k) (path_of_names ks)))
      (d.least (k ∷ ks) q p K u (subst (λ t. is_among t ts ≡ true) (further path (field k) (path_of_names ks)) varied) on
      (ap (option_and_then (λ r. part_by_path leads r (steps_of_names ks ++ q))) there ∙ e));
}

sampled_here : (P : Pools) (ts : List (List ℕ)) (path : List ℕ) (N : Node) (v : Data) → leads_on path ts ≡ true → CanBeSampledFrom P ts path N v → can_be_sampled N v ≡ true
sampled_here P ts path N v way d = d.on_the_way [] N v (subst (λ t. leads_on t ts ≡ true) (sym (append-nil path)) way) refl

all_sampled : (P : Pools) (ts : List (List ℕ)) (path : List ℕ) (N : Node) (v : Data) → is_among path ts ≡ true → CanBeSampledFrom P ts path N v → CanAllBeSampled N v
all_sampled P ts path N v varied d q M w e = d.at_varied [] q M w (subst (λ t. is_among t ts ≡ true) (sym (append-nil path)) varied) e

all_least : (P : Pools) (ts : List (List ℕ)) (path : List ℕ) (N : Node) (v : Data) → is_among path ts ≡ true → CanBeSampledFrom P ts path N v → AreAllLeast P path N v
all_least P ts path N v varied d q p M w on e = subst (λ t. IsLeastAt P (t ++ path_text p) M w) (append-nil path)
    (d.least [] q p M w (subst (λ t. is_among t ts ≡ true) (sym (append-nil path)) varied) on e)

record IsLeadingPart (P : Pools) (G : General) (ts : List (List ℕ)) (path : List ℕ) (N : Node) (v : Data) : Type 0 where
  pub schema : Option Data
  pub leads : leads_on path ts ≡ true
  pub reached : AreReached ts (Some v) path N
  pub ordered : IsNode N
  pub stored : IsStored N v
  pub sampled : CanBeSampledFrom P ts path N v
  pub said : AreSaidBelow P path (suggestions_below G ts (Some v) schema path N)
  pub lists : AreListedBelow P path (suggestions_below G ts (Some v) schema path N)
  pub named : AreNamed P (suggestions_below G ts (Some v) schema path N)

-- what is always there is there in the object
asked_has : OneText → (P : Pools) (G : General) (ts : List (List ℕ)) (v schema : Option Data) (path : List ℕ) (fs : Fields) (k : List ℕ) (f : Declared) → AreOrdered fs → field_at k fs ≡ Some f
    → AreSaidBelow P path (suggestions_of_fields G ts v schema path fs) → AreReached ts (option_and_then (λ u. under u k) v) (below path (field k)) f.node
    → is_present (below path (field k)) P ≡ true → option_and_then (λ u. under u k) v ≡ None → ⊥
asked_has one P G ts v schema path fs k f ordered found said reached asked none =
    let at : AreSaidAt P (below path (field k)) (suggestions_at G ts None f.default (schema_of_field schema k) (below path (field k)) f.node) =
    subst (λ o. AreSaidAt P (below path (field k)) (suggestions_at G ts o f.default (schema_of_field schema k) (below path (field k)) f.node)) none (said_at_field one P G ts v schema path fs k f ordered found said) in
    elim (bool_cases (is_among (below path (field k)) ts)) [
      | inl varied ↦
          let no : is_present (below path (field k)) P ≡ false = present_here P (below path (field k)) (lists_alone G (option_to_list None) f.default (schema_of_field schema k) (below path (field k)) f.node)
          (subst (λ S. AreSaidAt P (below path (field k)) S) (free_at G ts None f.default (schema_of_field schema k) (below path (field k)) f.node varied) at) in
          cc
      | inr other ↦ elim (bool_cases (leads_on (below path (field k)) ts)) [
        | inl more ↦
            let t = leading_text (below path (field k)) ts more in
            none_reached t.0 (below path (field k)) f.node (subst (λ o. reach t.0 o (below path (field k)) f.node ≡ There) none (reached t.0 t.1 t.2))
        | inr ends ↦
            let no : is_present (below path (field k)) P ≡ false = present_here P (below path (field k)) (as_in_object (below path (field k)) None)
            (subst (λ S. AreSaidAt P (below path (field k)) S) (kept_at G ts None f.default (schema_of_field schema k) (below path (field k)) f.node other ends) at) in
            cc
      ]
    ]

has_all : (P : Pools) (path : List ℕ) (fs : Fields) (ms : Members) → ((k : List ℕ) (f : Declared) → field_at k fs ≡ Some f → is_present (below path (field k)) P ≡ true → is_some (member_at k ms) ≡ true)
    → has_present P path fs ms ≡ true
has_all P path no_fields ms h = refl
has_all P path (nodes.field l N required default fs) ms h =
    and_from (not (is_present (below path (field l)) P) || is_some (member_at l ms)) (has_present P path fs ms)
    (elim (bool_cases (is_present (below path (field l)) P)) [
      | inl asked ↦ rw asked (h l (record { node = N; required = required; default = default }) (rw own_name refl) asked)
      | inr unasked ↦ rw unasked refl
    ])
    (has_all P path fs ms (λ k f found asked. elim (bool_cases (bytes_eq k l)) [
      | inl same ↦ h k (record { node = N; required = required; default = default }) (rw same refl) asked
      | inr other ↦ h k f (rw other found) asked
    ]))

leading_here : OneText → (P : Pools) (G : General) (ts : List (List ℕ)) (path : List ℕ) (N : Node) (v : Data) (t : List ℕ) → reach t (Some v) path N ≡ There → IsLeadingPart P G ts path N v → is_over_here P path N v ≡ true
leading_here one P G ts path (node nullable description (object fs preserves type bounds cs)) v t there l =
    let o = object_reached t path v fs there in
    subst (λ w. is_over_here P path (node nullable description (object fs preserves type bounds cs)) w ≡ true) (sym o.1)
    (and_from (all_names (λ k. is_some (field_at k fs)) o.0) (has_present P path fs o.0)
    (subst (λ w. can_be_sampled (node nullable description (object fs preserves type bounds cs)) w ≡ true) o.1 (sampled_here P ts path (node nullable description (object fs preserves type bounds cs)) v l.leads l.sampled))
    (has_all P path fs o.0 (λ k f found asked. subst (λ w. is_some (under w k) ≡ true) o.1 (elim (option_cases (under v k)) [
      | inl none ↦ absurd (asked_has one P G ts (Some v) l.schema path fs k f l.ordered found l.said (reached_below one ts (Some v) path fs k f found l.reached) asked none)
      | inr some ↦ rw some.1 refl
    ]))))
leading_here one P G ts path N v t there l = absurd (cc)

-- one step below, a part is varied, on the way, or fixed to what it is
abbrev IsNext : Pools → General → List (List ℕ) → Option (List Data) → List ℕ → Node → Data → Type 0
IsNext P G ts fixed path M w = ((fixed ≡ None) × IsFreePart P G path M w) ⊎ (((fixed ≡ None) × IsLeadingPart P G ts path M w) ⊎ (fixed ≡ Some (w ∷ [])))

leading_next : StoredLaw → OneText → (P : Pools) (G : General) (ts : List (List ℕ)) (path : List ℕ) (N M : Node) (v w : Data) (s : Step) (t : FieldStep) → StepFollows s t → node_below N (place_step t) ≡ Some M
    → part_by v s ≡ Some w → (u : List ℕ) → reach u (Some v) path N ≡ There → IsLeadingPart P G ts path N v → IsNext P G ts (fixed_below P path N t) (below path t) M w
leading_next law one P G ts path (node nullable description (object fs preserves type bounds cs)) M (tree.object ms) w (name j) (field k) follows down found u reaches l =
    let f = found_node fs k M down in
    let there : member_at k ms ≡ Some w = subst (λ n. member_at n ms ≡ Some w) follows found in
    let below_node : IsNode M = subst IsNode f.2 (field_node fs k f.0 l.ordered f.1) in
    let below_stored : IsStored M w = subst (λ K. IsStored K w) f.2
    (subst (λ o. IsStoredField f.0 o) there (((law (node nullable description (object fs preserves type bounds cs)) (tree.object ms)).0 l.stored).1.1 k f.0 f.1)) in
    let below_sampled : CanBeSampledFrom P ts (below path (field k)) M w = sampled_after P ts path k (node nullable description (object fs preserves type bounds cs)) M (tree.object ms) w
    (leads_there (node nullable description (object fs preserves type bounds cs)) M (tree.object ms) w (name k) (field k) refl down there) l.sampled in
    let said : AreSaidAt P (below path (field k)) (suggestions_at G ts (Some w) f.0.default (schema_of_field l.schema k) (below path (field k)) M) =
    subst (λ K. AreSaidAt P (below path (field k)) (suggestions_at G ts (Some w) f.0.default (schema_of_field l.schema k) (below path (field k)) K)) f.2
    (subst (λ o. AreSaidAt P (below path (field k)) (suggestions_at G ts o f.0.default (schema_of_field l.schema k) (below path (field k)) f.0.node)) there
    (said_at_field one P G ts (Some (tree.object ms)) l.schema path fs k f.0 l.ordered f.1 l.said)) in
    let lists : AreListedAt P (below path (field k)) (suggestions_at G ts (Some w) f.0.default (schema_of_field l.schema k) (below path (field k)) M) =
    subst (λ K. AreListedAt P (below path (field k)) (suggestions_at G ts (Some w) f.0.default (schema_of_field l.schema k) (below path (field k)) K)) f.2
    (subst (λ o. AreListedAt P (below path (field k)) (suggestions_at G ts o f.0.default (schema_of_field l.schema k) (below path (field k)) f.0.node)) there
    (listed_at_field one P G ts (Some (tree.object ms)) l.schema path fs k f.0 l.ordered f.1 l.lists)) in
    let named : AreNamed P (suggestions_at G ts (Some w) f.0.default (schema_of_field l.schema k) (below path (field k)) M) =
    subst (λ K. AreNamed P (suggestions_at G ts (Some w) f.0.default (schema_of_field l.schema k) (below path (field k)) K)) f.2
    (subst (λ o. AreNamed P (suggestions_at G ts o f.0.default (schema_of_field l.schema k) (below path (field k)) f.0.node)) there
    (λ x a. l.named x (said_names G ts (Some (tree.object ms)) l.schema path fs k f.0 x f.1 a))) in
    elim (bool_cases (is_among (below path (field k)) ts)) [
      | inl varied ↦
          let is = free_at G ts (Some w) f.0.default (schema_of_field l.schema k) (below path (field k)) M varied in
          let free_said = subst (λ S. AreSaidAt P (below path (field k)) S) is said in
          inl (
            fixed_here P (below path (field k)) (lists_alone G (option_to_list (Some w)) f.0.default (schema_of_field l.schema k) (below path (field k)) M) free_said,
            record {
              values = w ∷ [];
              default = f.0.default;
              schema = schema_of_field l.schema k;
              among = inl refl;
              ordered = below_node;
              stored = below_stored;
              sampled = all_sampled P ts (below path (field k)) M w varied below_sampled;
              least = all_least P ts (below path (field k)) M w varied below_sampled;
              free = record { fixed = free_said.fixed; present = free_said.present; lists = subst (λ S. AreListedAt P (below path (field k)) S) is lists };
              named = subst (λ S. AreNamed P S) is named;
            },
          )
      | inr other ↦ elim (bool_cases (leads_on (below path (field k)) ts)) [
        | inl more ↦
            let is = leads_at G ts (Some w) f.0.default (schema_of_field l.schema k) (below path (field k)) M other more in
            let leads_said = subst (λ S. AreSaidAt P (below path (field k)) S) is said in
            inr (inl (
              leading_unfixed one P G ts (Some w) (schema_of_field l.schema k) (below path (field k)) M leads_said,
              record {
                schema = schema_of_field l.schema k;
                leads = more;
                reached = subst (λ K. AreReached ts (Some w) (below path (field k)) K) f.2
                    (subst (λ o. AreReached ts o (below path (field k)) f.0.node) there (reached_below one ts (Some (tree.object ms)) path fs k f.0 f.1 l.reached));
                ordered = below_node;
                stored = below_stored;
                sampled = below_sampled;
                said = said_after one P (below path (field k)) (suggestions_below G ts (Some w) (schema_of_field l.schema k) (below path (field k)) M) leads_said;
                lists = listed_after one P (below path (field k)) (suggestions_below G ts (Some w) (schema_of_field l.schema k) (below path (field k)) M) (subst (λ S. AreListedAt P (below path (field k)) S) is lists);
                named = subst (λ S. AreNamed P S) is named;
              },
            ))
        | inr ends ↦
            let is = kept_at G ts (Some w) f.0.default (schema_of_field l.schema k) (below path (field k)) M other ends in
            inr (inr (fixed_here P (below path (field k)) (as_in_object (below path (field k)) (Some w)) (subst (λ S. AreSaidAt P (below path (field k)) S) is said) ∙ own_values (below path (field k)) (w ∷ [])))
      ]
    ]
leading_next law one P G ts path N M v w (name j) item follows down found u reaches l = absurd follows
leading_next law one P G ts path N M v w (index i) (field k) follows down found u reaches l = absurd follows
leading_next law one P G ts path N M v w (index i) value follows down found u reaches l = absurd follows
leading_next law one P G ts path N M v w s t follows down found u reaches l = absurd (cc)

leading_over : StoredLaw → OneText → (P : Pools) (G : General) (ts : List (List ℕ)) → AreShort P G.limits.entries → 0 < G.limits.entries → (q : Path) (p : FieldPath) (path : List ℕ) (N : Node) (v : Data)
    → IsLeadingPart P G ts path N v → IsOverAlong P None path N v q p
leading_over law one P G ts short room [] [] path N v l = let t = leading_text path ts l.leads in leading_here one P G ts path N v t.0 (l.reached t.0 t.1 t.2) l
leading_over law one P G ts short room [] (t ∷ p) path N v l = tt
leading_over law one P G ts short room (s ∷ q) [] path N v l = tt
leading_over law one P G ts short room (s ∷ q) (t ∷ p) path N v l = λ M w follows down found.
    let u = leading_text path ts l.leads in
    elim (leading_next law one P G ts path N M v w s t follows down found u.0 (l.reached u.0 u.1 u.2) l) [
      | inl x ↦ subst (λ o. IsOverAlong P o (below path t) M w q p) (sym x.0) (free_over law one P G short room q p (below path t) M w x.1)
      | inr (inl x) ↦ subst (λ o. IsOverAlong P o (below path t) M w q p) (sym x.0) (leading_over law one P G ts short room q p (below path t) M w x.1)
      | inr (inr fixed) ↦ subst (λ o. IsOverAlong P o (below path t) M w q p) (sym fixed) (fixed_over P (below path t) M w q p)
    ] where
      fixed_over : (P : Pools) (path : List ℕ) (N : Node) (v : Data) (q : Path) (p : FieldPath) → IsOverAlong P (Some (v ∷ [])) path N v q p
      fixed_over P path N v q p = subst (λ ds. is_in v ds ≡ true) (sym (leasts_one v)) (rw (own_same v) refl)

-- ---- the object at the root

all_among : {X : Type 0} (Good : X → Type 0) (xs : List X) → All Good xs → (x : X) → Among xs x → Good x
all_among Good xs all x a = let r = index_of xs x x a in subst Good r.2 (all r.0 x r.1)

pub record IsEntry (text : List ℕ) (es : List Entry) (vs : List Data) : Type 0 where
  pub entry : Entry
  pub among : Among es entry
  pub path : entry.path ≡ text
  pub values : entry.values ≡ vs

own_entry : (text : List ℕ) (e : Entry) (vs : List Data) → values_of text e ≡ Some vs → (e.path ≡ text) × (e.values ≡ vs)
own_entry text e vs is = elim (bool_cases (bytes_eq text e.path)) [
  | inl same ↦ let here : Some e.values ≡ Some vs = rw same at is in (sym (same_name text e.path same), cc)
  | inr other ↦ let here : None ≡ Some vs = rw other at is in cc
]

pub found_entry : (text : List ℕ) (es : List Entry) (vs : List Data) → values_at text es ≡ Some vs → IsEntry text es vs
found_entry text [] vs is = absurd (cc)
found_entry text (e ∷ es) vs is = elim (option_cases (values_at text es)) [
  | inl none ↦ let own = own_entry text e vs (rw none at is) in record { entry = e; among = inl refl; path = own.0; values = own.1 }
  | inr some ↦
      let here : Some some.0 ≡ Some vs = rw some.1 at is in
      let x = found_entry text es vs (some.1 ∙ here) in
      record { entry = x.entry; among = inr x.among; path = x.path; values = x.values }
]

root_lists : (limits : PoolLimits) (root : Node) (S : Suggestions) → length S.lists ≤ limits.paths → (text : List ℕ) → list_at text (pools_of (document_of limits root [] S)) ≡ values_at text S.lists
root_lists limits root S few text = pool_lists limits root [] S text ∙ ap (values_at text) (take_all limits.paths S.lists few)

text_join : (a b : FieldPath) → path_text (a ++ b) ≡ path_text a ++ path_text b
text_join [] b = refl
text_join (s ∷ a) b = ap (λ t. step_text s ++ t) (text_join a b) ∙ sym (append_assoc (step_text s) (path_text a) (path_text b))

pub object_sample : StoredLaw → OneText → TheObjectIsASample
object_sample law one limits raw root v [] limit ordered some varied sound stored sampled within uncut least = absurd (some refl)
object_sample law one limits raw root v (t ∷ ts) limit ordered some varied sound stored sampled within uncut least =
    let reached : (s : List ℕ) → Among (t ∷ ts) s → reach s (Some v) [] root ≡ There = all_among (λ s. reach s (Some v) [] root ≡ There) (t ∷ ts) varied in
    let least_as_it_is : HasLeasts root (pools_of (document_of limits root [] (suggestions_below (for_variation (general_of limits root)) (t ∷ ts) (Some v) (Some raw) [] root))) (t ∷ ts) v =
    subst (λ u. HasLeasts root (pools_of (document_of limits root [] (suggestions_below (for_variation (general_of limits root)) (t ∷ ts) (Some u) (Some raw) [] root))) (t ∷ ts) v) (nothing_taken [] root v) least in
    let lists = root_lists limits root (suggestions_below (for_variation (general_of limits root)) (t ∷ ts) (Some v) (Some raw) [] root) uncut.lists in
    let sample : IsSample root (pools_of (document_of limits root [] (suggestions_below (for_variation (general_of limits root)) (t ∷ ts) (Some v) (Some raw) [] root))) limit v = record {
      part = record {
        tree = sound;
        stored = stored;
        over = λ q p. leading_over law one (pools_of (document_of limits root [] (suggestions_below (for_variation (general_of limits root)) (t ∷ ts) (Some v) (Some raw) [] root))) (for_variation (general_of limits root)) (t ∷ ts)
            (λ text vs is.
            let x = found_entry text (suggestions_below (for_variation (general_of limits root)) (t ∷ ts) (Some v) (Some raw) [] root).lists vs (sym (lists text) ∙ is) in
            subst (λ ds. length ds < limits.entries) x.values
            (all_among (λ e. length e.values < limits.entries) (suggestions_below (for_variation (general_of limits root)) (t ∷ ts) (Some v) (Some raw) [] root).lists uncut.values x.entry x.among))
            uncut.some q p [] root v (record {
              schema = Some raw;
              leads = root_leads root v t ts (reached t (inl refl));
              reached = λ s a goes. reached s a;
              ordered = ordered;
              stored = stored;
              sampled = record {
                on_the_way = sampled.on_the_way;
                at_varied = sampled.at_varied;
                least = λ ks q p M w varied on e. subst (λ x. IsLeastAt (pools_of (document_of limits root [] (suggestions_below (for_variation (general_of limits root)) (t ∷ ts) (Some v) (Some raw) [] root))) x M w)
                    (text_join (path_of_names ks) p) (least_as_it_is ks q p M w varied on e);
              };
              said = root_said limits root (suggestions_below (for_variation (general_of limits root)) (t ∷ ts) (Some v) (Some raw) [] root);
              lists = λ s p. lists (path_text (s ∷ p));
              named = λ k a. subst (λ ks. is_among k ks ≡ true) (sym (pool_names limits root [] (suggestions_below (for_variation (general_of limits root)) (t ∷ ts) (Some v) (Some raw) [] root)))
                  (names_uncut limits.names ((suggestions_below (for_variation (general_of limits root)) (t ∷ ts) (Some v) (Some raw) [] root).names ++ usual_names) k
                  (among_left (suggestions_below (for_variation (general_of limits root)) (t ∷ ts) (Some v) (Some raw) [] root).names usual_names k a) uncut.names);
            });
      };
      within = within;
    } in
    subst (λ u. IsSample root (pools_of (document_of limits root [] (suggestions_below (for_variation (general_of limits root)) (t ∷ ts) (Some u) (Some raw) [] root))) limit v) (sym (nothing_taken [] root v)) sample
