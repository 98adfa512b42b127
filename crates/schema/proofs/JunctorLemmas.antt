-- Where no rule is broken the junctors of objects name declared fields, and few.
use Rattle.std.proofs.Common.{◌≡◌, ◌≢◌, ◌⊎◌, ◌≤◌, ℕ, zero, suc, List, [], ◌∷◌, ◌++◌, length, Bool, true, false, Option, Some, None, refl, sym, ap, ◌∙◌, subst, inl, inr}
use Rattle.std.specs.Prelude.{is_some, codes, ◌||◌, ◌&&◌, if◌then◌else◌, not, nat_lt, All, AllPairs, Contains}
use Rattle.std.proofs.lemmas.Bool.{ltb-true, ltb-false, or_left, or_right, or_parts}
use Rattle.std.proofs.lemmas.List.{append-nil}
use Rattle.std.proofs.lemmas.List.Elements.{filter-append}
use Rattle.std.proofs.lemmas.Option.{option_and_then_some, same_Some}
use Rattle.jtree.specs.Data.{Data, null, boolean, integer, number, text, list, object, Items, no_items, item, Members}
use Rattle.jtree.specs.Path.{name, under, member_at, item_at}
use Rattle.jtree.specs.Internal.Lookups.{bool_cases, option_cases}
use Rattle.jtree.specs.Internal.Rising.{Among, contained, each_of, among_parts}
use Rattle.schema.specs.Document.Places.{Step, Place, property, map_value, items, all_of, any_of, one_of, negation, schema_by, schema_at, is_inside, is_junctor, core, is_envelope_name}
use Rattle.schema.specs.Document.Raw.{Raw, raw_by}
use Rattle.schema.specs.Rules.Keywords.{texts_of, items_in, items_under, texts_under, members_in, members_under, any_item, has, has_keyword}
use Rattle.schema.specs.Rules.Kinds as kinds
use Rattle.schema.specs.Rules.Kinds.{kind_of}
use Rattle.schema.specs.Rules.Profile.{is_root, is_foreign, is_no_field, profile_tests}
use Rattle.schema.specs.Rules.Junctors.{is_presence_keyword, is_branch_keyword, requires_no_field, BreaksJunctors, NamesField, most_named}
use Rattle.schema.specs.Nodes.Validations.{AreConstraintsOf, AreValidationsOf, AreBranchesOf, AreObjectJunctorsOf, one_item, presence}
use Rattle.schema.specs.Nodes.Node.{Validations, validations, Branches, no_branches, branch, Node, node, scalar, object as object_node}
use Rattle.schema.specs.Nodes.ByPlace.{field_at, node_at, AreNodesOf}
use Rattle.schema.specs.Nodes.Junctors.{names_in, names_of, AsksPresence, AskPresence, HasSoundJunctors}
use Rattle.schema.specs.Nodes.Shape.{IsRootOf}
use Rattle.schema.specs.declared.node.Constraints.{Constraints}
use Rattle.schema.specs.declared.node.ScalarKind.{ScalarKind}
use Rattle.schema.specs.declared.violation.Rule.TheVariants.{V16, V17}
use Rattle.schema.proofs.ItemLemmas.{HaveForms, schema_of}
use Rattle.schema.proofs.NamedLemmas.{text_among, IsNamed, step_named, all_among}
use Rattle.schema.proofs.OneNode.{here, found_node, node_of_below}
use Rattle.schema.proofs.ReasonWords.{holds_at, some_keyword, keyword_found}
use Rattle.schema.specs.declared.profile.Profile.{Profile}
use Rattle.schema.specs.declared.profile.Profile.TheVariants.{Core, Cluster}

-- ---- places joined

schema_joined : (p q : Place) (raw s t : Data) → schema_at raw p ≡ Some s → schema_at s q ≡ Some t → schema_at raw (p ++ q) ≡ Some t
schema_joined [] q raw s t is at = subst (λ x. schema_at x q ≡ Some t) (sym (same_Some raw s is)) at
schema_joined (step ∷ p) q raw s t is at = option_and_then_some (λ x. schema_at x p) (schema_by raw step) s is (λ d by rest. rw by (schema_joined p q d s t rest at))

inside_joined : (p q : Place) → is_inside p ≡ false → is_inside (p ++ q) ≡ is_inside q
inside_joined [] q out = refl
inside_joined (step ∷ p) q out = elim (bool_cases (is_junctor step)) [
  | inl t ↦ let never : true ≡ false = rw t at out in cc
  | inr f ↦ rw f (inside_joined p q (rw f at out))
]

core_outside : (p : Place) → is_inside p ≡ false → core p ≡ p
core_outside [] out = refl
core_outside (step ∷ p) out = elim (bool_cases (is_junctor step)) [
  | inl t ↦ let never : true ≡ false = rw t at out in cc
  | inr f ↦ rw f (ap (λ q. step ∷ q) (core_outside p (rw f at out)))
]

core_joined : (p q : Place) → is_inside p ≡ false → core q ≡ [] → core (p ++ q) ≡ p
core_joined p q out alone = filter-append _ p q ∙ (ap (λ r. core p ++ r) alone ∙ (append-nil (core p) ∙ core_outside p out))

-- ---- the names of nodes are those of schemas

-- what is no object has nothing under a name
no_under : (s : Data) → ((ms : Members) × (s ≡ object ms)) ⊎ ((w : List ℕ) → under s w ≡ None)
no_under null = inr (λ w. refl)
no_under (boolean b) = inr (λ w. refl)
no_under (integer z) = inr (λ w. refl)
no_under (number s) = inr (λ w. refl)
no_under (text t) = inr (λ w. refl)
no_under (list ds) = inr (λ w. refl)
no_under (object ms) = inl (ms, refl)

no_schema : (s : Data) (step : Step) → ((w : List ℕ) → under s w ≡ None) → schema_by s step ≡ None
no_schema s (property k) none = rw (none (codes "properties")) refl
no_schema s map_value none = rw (none (codes "additionalProperties")) refl
no_schema s items none = rw (none (codes "items")) refl
no_schema s (all_of i) none = rw (none (codes "allOf")) refl
no_schema s (any_of i) none = rw (none (codes "anyOf")) refl
no_schema s (one_of i) none = rw (none (codes "oneOf")) refl
no_schema s negation none = rw (none (codes "not")) refl

none_there : (p : Place) (s t : Data) (k : List ℕ) → ((w : List ℕ) → under s w ≡ None) → schema_at s p ≡ Some t → Among (texts_under t (codes "required")) k → ⊥
none_there [] s t k none at a =
    let here : Among (texts_under s (codes "required")) k = subst (λ x. Among (texts_under x (codes "required")) k) (sym (same_Some s t at)) a in
    rw (none (codes "required")) at here
none_there (step ∷ p) s t k none at a = let never : None ≡ Some t = rw (no_schema s step none) at at in cc

named_object : (s : Data) (k : List ℕ) → IsNamed true s k → (ms : Members) × (s ≡ object ms)
named_object s k n = elim (no_under s) [
  | inl o ↦ o
  | inr none ↦ absurd (none_there n.place s n.schema k none n.at n.required)
]

-- a name of a branch is one of the schema
branch_named : (in_branch : Bool) (s e : Data) (step : Step) (k : List ℕ) → is_junctor step ≡ true → ((ms : Members) → e ≡ object ms → schema_by s step ≡ Some e) → IsNamed true e k → IsNamed in_branch s k
branch_named in_branch s e step k into by n = let o = named_object e k n in step_named in_branch s e step k into (by o.0 o.1) n

-- the item of a list that names
abbrev ItemNamed : Items → List ℕ → Type 0
ItemNamed ds k = (i : ℕ) × (e : Data) × (item_at i ds ≡ Some e) × IsNamed true e k

list_there : (o : Option Data) (i : ℕ) (e : Data) → item_at i (items_in o) ≡ Some e → (ds : Items) × (o ≡ Some (list ds)) × (item_at i ds ≡ Some e)
list_there (Some (list ds)) i e at = (ds, refl, at)
list_there _ i e at = absurd (cc)

one_there : (o : Option Data) (i : ℕ) (e : Data) → item_at i (one_item o) ≡ Some e → o ≡ Some e
one_there (Some d) zero e at = at
one_there (Some d) (suc i) e at = cc
one_there None i e at = cc

-- the steps into the branches of a schema
record AreIn (s : Data) (ds : Items) : Type 0 where
  step : ℕ → Step
  into : (i : ℕ) → is_junctor (step i) ≡ true
  by : (i : ℕ) (e : Data) → item_at i ds ≡ Some e → (ms : Members) → e ≡ object ms → schema_by s (step i) ≡ Some e

all_in : (s : Data) → AreIn s (items_under s (codes "allOf"))
all_in s = record { step = all_of; into = λ i. refl; by = λ i e at ms is. let l = list_there (under s (codes "allOf")) i e at in rw (l.1, l.2, is) refl }

any_in : (s : Data) → AreIn s (items_under s (codes "anyOf"))
any_in s = record { step = any_of; into = λ i. refl; by = λ i e at ms is. let l = list_there (under s (codes "anyOf")) i e at in rw (l.1, l.2, is) refl }

one_in : (s : Data) → AreIn s (items_under s (codes "oneOf"))
one_in s = record { step = one_of; into = λ i. refl; by = λ i e at ms is. let l = list_there (under s (codes "oneOf")) i e at in rw (l.1, l.2, is) refl }

negated_in : (s : Data) → AreIn s (one_item (under s (codes "not")))
negated_in s = record { step = λ i. negation; into = λ i. refl; by = λ i e at ms is. rw (one_there (under s (codes "not")) i e at, is) refl }

item_named : (in_branch : Bool) (s : Data) (ds : Items) (k : List ℕ) → AreIn s ds → ItemNamed ds k → IsNamed in_branch s k
item_named in_branch s ds k are n = branch_named in_branch s n.1 (are.step n.0) k (are.into n.0) (are.by n.0 n.1 n.2) n.3

-- a name of one of four lists of branches
junctors_named : (in_branch : Bool) (all any one negated : Branches) (s : Data) (k : List ℕ) → (Among (names_of all) k → ItemNamed (items_under s (codes "allOf")) k)
    → (Among (names_of any) k → ItemNamed (items_under s (codes "anyOf")) k) → (Among (names_of one) k → ItemNamed (items_under s (codes "oneOf")) k)
    → (Among (names_of negated) k → ItemNamed (one_item (under s (codes "not"))) k) → Among (names_of all ++ (names_of any ++ (names_of one ++ names_of negated))) k → IsNamed in_branch s k
junctors_named in_branch all any one negated s k in_all in_any in_one in_negated a = elim (among_parts (names_of all) (names_of any ++ (names_of one ++ names_of negated)) k a) [
  | inl l ↦ item_named in_branch s _ k (all_in s) (in_all l)
  | inr b ↦ elim (among_parts (names_of any) (names_of one ++ names_of negated) k b) [
    | inl l ↦ item_named in_branch s _ k (any_in s) (in_any l)
    | inr d ↦ elim (among_parts (names_of one) (names_of negated) k d) [
      | inl l ↦ item_named in_branch s _ k (one_in s) (in_one l)
      | inr l ↦ item_named in_branch s _ k (negated_in s) (in_negated l)
    ]
  ]
]

mutual
  validations_named : (profile : Profile) (c : Validations) (s : Data) (k : List ℕ) → AreValidationsOf profile c s → Among (names_in c) k → IsNamed true s k
  validations_named profile (validations t all any one negated) s k h a = elim (among_parts t.required (names_of all ++ (names_of any ++ (names_of one ++ names_of negated))) k a) [
    | inl own ↦ record { place = []; alone = refl; inside = refl; schema = s; at = refl; required = subst (λ ks. Among ks k) h.0.required own }
    | inr b ↦ junctors_named true all any one negated s k (branches_named profile all _ k h.1) (branches_named profile any _ k h.2) (branches_named profile one _ k h.3) (branches_named profile negated _ k h.4) b
  ]

  branches_named : (profile : Profile) (cs : Branches) (ds : Items) (k : List ℕ) → AreBranchesOf profile cs ds → Among (names_of cs) k → ItemNamed ds k
  branches_named profile no_branches ds k h a = absurd a
  branches_named profile (branch c cs) no_items k h a = absurd h
  branches_named profile (branch c cs) (item d ds) k h a = elim (among_parts (names_in c) (names_of cs) k a) [
    | inl l ↦ (0, d, refl, validations_named profile c d k h.0 l)
    | inr l ↦ let r = branches_named profile cs ds k h.1 l in (suc r.0, r.1, r.2, r.3)
  ]

object_named : (cs : Validations) (s : Data) (k : List ℕ) → AreObjectJunctorsOf cs s → Among (names_in cs) k → IsNamed false s k
object_named (validations t all any one negated) s k h a = elim (among_parts t.required (names_of all ++ (names_of any ++ (names_of one ++ names_of negated))) k a) [
  | inl own ↦ let none : t.required ≡ [] = ap (λ u. u.required) h.0 in absurd (rw none at own)
  | inr b ↦ junctors_named false all any one negated s k (branches_named Core all _ k h.1) (branches_named Core any _ k h.2) (branches_named Core one _ k h.3) (branches_named Core negated _ k h.4) b
]

-- ---- named fields are declared

any_text : (test : Data → Bool) (ds : Items) (k : List ℕ) → Among (texts_of ds) k → test (text k) ≡ true → any_item test ds ≡ true
any_text test no_items k a is = absurd a
any_text test (item (text l) ds) k (inl e) is = or_left (test (text l)) _ (subst (λ m. test (text m) ≡ true) (sym e) is)
any_text test (item (text l) ds) k (inr a) is = or_right (test (text l)) _ (any_text test ds k a is)
any_text test (item d ds) k a is = or_right (test d) _ (any_text test ds k a is)

-- a member of `properties` is a place
property_place : (profile : Profile) (s d : Data) (k : List ℕ) → HaveForms profile s → (o : Option Data) → under s (codes "properties") ≡ o → member_at k (members_in o) ≡ Some d
    → (e : Data) × (schema_by s (property k) ≡ Some e)
property_place profile s (object ms) k forms (Some (object ns)) is at = (object ms, rw (is, at) refl)
property_place Core s d k forms (Some (object ns)) is at = absurd (forms (codes "properties") (name k ∷ []) (d, rw (is, at) refl, refl))
property_place Cluster s d k forms (Some (object ns)) is at = absurd (forms (codes "properties") (name k ∷ []) (d, rw (is, at) refl, refl))
property_place profile s d k forms o is at = absurd (cc)

-- ---- what branches ask besides

-- a branch of the schema, at any depth, has only keywords that ask for presence; and in a branch the schema itself
abbrev AsksNoMore : Bool → Data → Type 0
AsksNoMore in_branch s =
    (q : Place) → (in_branch || is_inside q) ≡ true → core q ≡ [] → (t : Data) → schema_at s q ≡ Some t → has_keyword (λ k. not (is_presence_keyword k)) t ≡ false

-- what has no keyword under it has none that passes
no_keyword : (test : List ℕ → Bool) (s : Data) → ((w : List ℕ) → under s w ≡ None) → has_keyword test s ≡ false
no_keyword test s none = elim (bool_cases (has_keyword test s)) [
  | inl t ↦ let f = some_keyword test s t in absurd (let never : false ≡ true = rw (none f.0) at f.1 in cc)
  | inr f ↦ f
]

nothing_asked : (s : Data) → ((w : List ℕ) → under s w ≡ None) → AsksNoMore true s
nothing_asked s none [] into alone t at = subst (λ u. has_keyword (λ k. not (is_presence_keyword k)) u ≡ false) (same_Some s t at) (no_keyword _ s none)
nothing_asked s none (step ∷ q) into alone t at = let never : None ≡ Some t = rw (no_schema s step none) at at in cc

asked_below : (in_branch : Bool) (s : Data) (ds : Items) → AreIn s ds → AsksNoMore in_branch s → (i : ℕ) (e : Data) → item_at i ds ≡ Some e → AsksNoMore true e
asked_below in_branch s ds are only i e at = elim (no_under e) [
  | inr none ↦ nothing_asked e none
  | inl o ↦ λ q into alone t there.
      only (are.step i ∷ q) (or_right in_branch _ (rw (are.into i) refl)) (rw (are.into i) alone) t (rw (are.by i e at o.0 o.1) there)
]

absent : (test : List ℕ → Bool) (s : Data) (w : List ℕ) → has_keyword test s ≡ false → test w ≡ true → under s w ≡ None
absent test s w none is = elim (option_cases (under s w)) [
  | inl missing ↦ missing
  | inr some ↦ let found = keyword_found test s w (rw some.1 refl) is in cc
]

constraints_alone : (t : Constraints) (s : Data) → AreConstraintsOf Core t s → has_keyword (λ k. not (is_presence_keyword k)) s ≡ false → t ≡ presence t.required
constraints_alone t s are none =
    let no = λ (w : List ℕ) (is : not (is_presence_keyword w) ≡ true). absent (λ k. not (is_presence_keyword k)) s w none is in
    let choices : t.choices ≡ None = are.choices ∙ rw (no (codes "enum") refl) refl in
    let minimum : t.minimum ≡ None = are.minimum ∙ rw (no (codes "minimum") refl) refl in
    let maximum : t.maximum ≡ None = are.maximum ∙ rw (no (codes "maximum") refl) refl in
    let above : t.exclusive_minimum ≡ false = are.exclusive_minimum ∙ rw (no (codes "exclusiveMinimum") refl) refl in
    let below : t.exclusive_maximum ≡ false = are.exclusive_maximum ∙ rw (no (codes "exclusiveMaximum") refl) refl in
    let least : t.lengths.least ≡ None = are.least_length ∙ rw (no (codes "minLength") refl) refl in
    let most : t.lengths.most ≡ None = are.most_length ∙ rw (no (codes "maxLength") refl) refl in
    λ i. record {
      choices = choices i;
      minimum = minimum i;
      maximum = maximum i;
      exclusive_minimum = above i;
      exclusive_maximum = below i;
      lengths = record { least = least i; most = most i };
      written = are.written i;
      required = t.required;
    }

mutual
  validations_alone : (c : Validations) (s : Data) → AreValidationsOf Core c s → AsksNoMore true s → AsksPresence c
  validations_alone (validations t all any one negated) s h only = (
    constraints_alone t s h.0 (only [] refl refl s refl),
    branches_alone all _ h.1 (asked_below true s _ (all_in s) only),
    branches_alone any _ h.2 (asked_below true s _ (any_in s) only),
    branches_alone one _ h.3 (asked_below true s _ (one_in s) only),
    branches_alone negated _ h.4 (asked_below true s _ (negated_in s) only),
  )

  branches_alone : (cs : Branches) (ds : Items) → AreBranchesOf Core cs ds → ((i : ℕ) (e : Data) → item_at i ds ≡ Some e → AsksNoMore true e) → AskPresence cs
  branches_alone no_branches ds h each = tt
  branches_alone (branch c cs) no_items h each = absurd h
  branches_alone (branch c cs) (item d ds) h each = (validations_alone c d h.0 (each 0 d refl), branches_alone cs ds h.1 (λ i e at. each (suc i) e at))

object_alone : (cs : Validations) (s : Data) → AreObjectJunctorsOf cs s → AsksNoMore false s → AsksPresence cs
object_alone (validations t all any one negated) s h only = (
  subst (λ u. u ≡ presence u.required) (sym h.0) refl,
  branches_alone all _ h.1 (asked_below false s _ (all_in s) only),
  branches_alone any _ h.2 (asked_below false s _ (any_in s) only),
  branches_alone one _ h.3 (asked_below false s _ (one_in s) only),
  branches_alone negated _ h.4 (asked_below false s _ (negated_in s) only),
)

-- ---- where no rule is broken

required_there : (o : Option Data) (k : List ℕ) → Among (texts_of (items_in o)) k → is_some o ≡ true
required_there (Some d) k a = refl
required_there None k a = absurd a

module _ (profile : Profile) (raw : Data) (root : Node) (is : IsRootOf root (raw_by profile raw)) (p : Place) (s : Data) (at : schema_at raw p ≡ Some s) (out : is_inside p ≡ false) where
  -- nothing is wrong with a branch
  good_branch : (q : Place) → is_inside q ≡ true → core q ≡ [] → (t : Data) → schema_at s q ≡ Some t → BreaksJunctors profile (p ++ q) (Some s) t → ⊥
  good_branch q into alone t there bad =
      let outer : schema_at raw (core (p ++ q)) ≡ Some s = ap (schema_at raw) (core_joined p q out alone) ∙ at in
      is.unbroken (p ++ q) V16 (t, schema_joined p q raw s t at there, subst (λ o. BreaksJunctors profile (p ++ q) o t) (sym outer) bad)

  good_presence : kind_of profile s ≡ Some kinds.object → (q : Place) → is_inside q ≡ true → core q ≡ [] → (t : Data) → schema_at s q ≡ Some t
      → (has_keyword (λ k. not (is_presence_keyword k)) t || requires_no_field (p ++ q) (Some s) t) ≡ false
  good_presence kind q into alone t there = elim (bool_cases (has_keyword (λ k. not (is_presence_keyword k)) t || requires_no_field (p ++ q) (Some s) t)) [
    | inl bad ↦ absurd (good_branch q into alone t there (inr (inr (inl (rw (inside_joined p q out ∙ into, kind) bad)))))
    | inr good ↦ good
  ]

  asks_no_more : kind_of profile s ≡ Some kinds.object → AsksNoMore false s
  asks_no_more kind q into alone t there = (or_parts (has_keyword (λ k. not (is_presence_keyword k)) t) _ (good_presence kind q into alone t there)).0

  is_field : kind_of profile s ≡ Some kinds.object → (k : List ℕ) → IsNamed false s k → is_no_field (is_root p) false (members_under s (codes "properties")) (text k) ≡ false
  is_field kind k n =
      let good = (or_parts (has_keyword (λ k. not (is_presence_keyword k)) n.schema) _ (good_presence kind n.place n.inside n.alone n.schema n.at)).1 in
      let declared : any_item (is_no_field (is_root p) false (members_under s (codes "properties"))) (items_under n.schema (codes "required")) ≡ false =
      subst (λ r. any_item (is_no_field (is_root r) false (members_under s (codes "properties"))) (items_under n.schema (codes "required")) ≡ false) (core_joined p n.place out n.alone) good in
      elim (bool_cases (is_no_field (is_root p) false (members_under s (codes "properties")) (text k))) [
        | inl t ↦ absurd (let never = any_text (is_no_field (is_root p) false (members_under s (codes "properties"))) (items_under n.schema (codes "required")) k n.required t in cc)
        | inr f ↦ f
      ]

  few_names : kind_of profile s ≡ Some kinds.object → (ks : List (List ℕ)) → AllPairs (λ k l. k ≢ l) ks → All (NamesField s) ks → length ks ≤ most_named
  few_names kind ks apart named = elim (bool_cases (nat_lt most_named (length ks))) [
    | inl t ↦ absurd (is.unbroken p V16 (s, at, inr (inl (out, rw kind refl, (ks, apart, named, ltb-true most_named (length ks) t)))))
    | inr f ↦ ltb-false most_named (length ks) f
  ]

  -- a scalar requires no field, and nor do its branches
  scalar_names_none : (j : ScalarKind) → kind_of profile s ≡ Some (kinds.scalar j) → (k : List ℕ) → IsNamed true s k → ⊥
  scalar_names_none j kind k n =
      let there = required_there (under n.schema (codes "required")) k n.required in
      elim (bool_cases (is_inside n.place)) [
        | inl into ↦ good_branch n.place into n.alone n.schema n.at (inr (inr (inr (rw (inside_joined p n.place out ∙ into, kind)
            (or_left _ _ (keyword_found (λ w. not (is_branch_keyword w)) n.schema (codes "required") there refl))))))
        | inr outside ↦
            let here : schema_at s [] ≡ Some n.schema = subst (λ q. schema_at s q ≡ Some n.schema) (sym (core_outside n.place outside) ∙ n.alone) n.at in
            let own : has s (codes "required") ≡ true = subst (λ t. has t (codes "required") ≡ true) (sym (same_Some s n.schema here)) there in
            let foreign : is_foreign (kind_of profile s) (codes "required") ≡ true = rw kind refl in
            is.unbroken p V17 (out, (s, at, holds_at (profile_tests profile (is_root p) s) 4 (keyword_found (is_foreign (kind_of profile s)) s (codes "required") own foreign)))
      ]

-- a property that is no name of the envelope at the root
property_outside : (declared here : Bool) → not (if here then false else declared) ≡ false → (declared ≡ true) × (here ≡ false)
property_outside true true h = cc
property_outside true false h = (refl, refl)
property_outside false true h = cc
property_outside false false h = cc

not_both : (a b : Bool) → (a && b) ≡ false → (a && true) ≡ true → b ≡ true → ⊥
not_both true b h is both = cc
not_both false b h is both = cc

some_value : (o : Option Data) → is_some o ≡ true → (d : Data) × (o ≡ Some d)
some_value (Some d) h = (d, refl)
some_value None h = cc

no_names : (ks : List (List ℕ)) → ((k : List ℕ) → Among ks k → ⊥) → ks ≡ []
no_names [] none = refl
no_names (k ∷ ks) none = absurd (none k (inl refl))

sound_junctors : (profile : Profile) (M : Node) (raw : Data) (root : Node) → IsRootOf root (raw_by profile raw) → (p : Place) (s : Data) → schema_at raw p ≡ Some s → is_inside p ≡ false → HaveForms profile s
    → AreNodesOf (is_root p && true) M (raw_by profile s) → HasSoundJunctors M
sound_junctors profile (node n x (object_node fs pr t b cs)) raw root is p s at out forms h =
    let reported = (here profile (is_root p && true) _ s h).0 in
    let kind = reported.2.is in
    let junctors = reported.3.3 in
    let named = λ (k : List ℕ) (c : Contains (names_in cs) k). object_named cs s k junctors (contained (names_in cs) k c) in
    record {
      declared = λ k c.
          let no = property_outside _ _ (is_field profile raw root is p s at out kind k (named k c)) in
          let d = some_value (member_at k (members_under s (codes "properties"))) no.0 in
          let e = property_place profile s d.0 k forms (under s (codes "properties")) refl d.1 in
          let N = node_of_below profile (is_root p && true) _ s e.0 (property k) h (refl, not_both (is_root p) (is_envelope_name k) no.1) e.1 in
          let f = found_node (field_at k fs) N.0 N.1 in
          rw f.1 (refl {a = true});
      few = λ ks apart all. few_names profile raw root is p s at out kind ks apart (each_of (NamesField s) ks (λ k a.
          let i = named k (all_among (Contains (names_in cs)) ks all k a) in (i.place, i.inside, i.alone, i.schema, i.at, text_among k _ i.required)));
      alone = object_alone cs s junctors (asks_no_more profile raw root is p s at out kind);
    }
sound_junctors profile (node n x (scalar j cs)) raw root is p s at out forms h =
    let reported = (here profile (is_root p && true) _ s h).0 in
    no_names (names_in cs) (λ k a. scalar_names_none profile raw root is p s at out j reported.2.is k (validations_named profile cs s k reported.3 a))
sound_junctors profile M raw root is p s at out forms h = tt

pub sound_junctors_at : (raw : Raw) (root : Node) → IsRootOf root raw → (p : Place) (M : Node) → node_at root p ≡ Some M → HasSoundJunctors M
sound_junctors_at raw root is p M at =
    let s = schema_of raw.profile p true root M raw.tree is.nodes (λ k path. is.forms (name k ∷ path)) at in
    sound_junctors raw.profile M raw.tree root is p s.0 s.1 (is.nodes.only p M at).0.0 s.2 s.3
