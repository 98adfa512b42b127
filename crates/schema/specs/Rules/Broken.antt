-- Which rules a schema breaks (apiextensions.k8s.io/v1, "specifying a structural schema", and merge strategies), as a relation
-- between a schema, a place and a rule. The keyword lists of V03 to V05, and V15 to V17, are this project's profile.
use Rattle.std.specs.Prelude.{◌≡◌, ◌⊎◌, ℕ, List, [], ◌∷◌, ◌++◌, Bool, true, false, Some, not, ◌&&◌, codes}
use Rattle.jtree.specs.Data.{Data}
use Rattle.jtree.specs.Data as tree
use Rattle.jtree.specs.Path.{under}
use Rattle.schema.specs.Document.Texts.{is_among}
use Rattle.schema.specs.Document.Raw.{Raw}
use Rattle.schema.specs.Document.Places.{Step, Place, property, items, all_of, any_of, schema_at, IsPlace, is_inside, core, ends_with}
use Rattle.schema.specs.Rules.Keywords.{is_false, flag, has, has_other_text, has_keyword}
use Rattle.schema.specs.Rules.Kinds.{is_int_or_string, lacks_type}
use Rattle.schema.specs.Rules.Lists.{has_bad_list_type, has_bad_keys, has_bad_set_items, has_bad_map_type}
use Rattle.schema.specs.Rules.Profile.{outside_keywords, unsupported_keywords, has_misplaced_default, is_root, is_outside_profile}
use Rattle.schema.specs.Rules.Junctors.{BreaksJunctors}
use Rattle.schema.specs.declared.violation.Rule.{Rule}
use Rattle.schema.specs.declared.violation.Rule.TheVariants.{V01, V02, V03, V04, V05, V06, V07, V08, V09, V10, V11, V12, V13, V15, V16, V17}

-- something holds of the schema at a place
abbrev pub At : Data → Place → (Data → Type 0) → Type 0
At raw p Holds = (s : Data) × (schema_at raw p ≡ Some s) × Holds s

-- the schema at a place passes a test; and the place is outside
abbrev pub Passes : Data → Place → (Data → Bool) → Type 0
Passes raw p test = At raw p (λ s. test s ≡ true)

abbrev pub PassesOutside : Data → Place → (Data → Bool) → Type 0
PassesOutside raw p test = (is_inside p ≡ false) × Passes raw p test

-- the keywords that the schema of `metadata` may have
abbrev pub metadata_keywords : List (List ℕ)
metadata_keywords = codes "type" ∷ codes "description" ∷ codes "properties" ∷ []

-- the last step of a place is to a property or to the items of a list
abbrev pub is_field : Step → Bool
is_field (property k) = true
is_field items = true
is_field _ = false

abbrev pub ends_in_field : Place → Bool
ends_in_field p = ends_with is_field p

-- `[{"type":"integer"},{"type":"string"}]`
abbrev pub typed : List ℕ → Data
typed t = tree.object (tree.member (codes "type") (tree.text t) tree.no_members)

abbrev pub pattern : Data
pattern = tree.list (tree.item (typed (codes "integer")) (tree.item (typed (codes "string")) tree.no_items))

-- `{"anyOf":[{"type":"integer"},{"type":"string"}]}`
abbrev pub holder : Data
holder = tree.object (tree.member (codes "anyOf") pattern tree.no_members)

-- an `allOf` whose first entry has that `anyOf` alone
abbrev pub BeginsWithHolder : Data → Type 0
BeginsWithHolder s = (rest : tree.Items) × (under s (codes "allOf") ≡ Some (tree.list (tree.item holder rest)))

-- with `x-kubernetes-int-or-string` true, the `anyOf` is that list, or the `allOf` begins so
abbrev pub HasAnyPattern : Data → Type 0
HasAnyPattern s = (is_int_or_string s ≡ true) × (under s (codes "anyOf") ≡ Some pattern)

abbrev pub HasAllPattern : Data → Type 0
HasAllPattern s = (is_int_or_string s ≡ true) × BeginsWithHolder s

-- a branch of the int-or-string pattern, at an outside place: of such an `anyOf`, or of that in the first entry of such an
-- `allOf`
pub data IsPatternBranch : Data → Place → Type 0 where
  of_any : (raw : Data) (p : Place) (i : ℕ) → is_inside p ≡ false → At raw p HasAnyPattern → IsPatternBranch raw (p ++ (any_of i ∷ []))
  of_all : (raw : Data) (p : Place) (i : ℕ) → is_inside p ≡ false → At raw p HasAllPattern → IsPatternBranch raw (p ++ (all_of 0 ∷ any_of i ∷ []))

abbrev pub metadata : Place
metadata = property (codes "metadata") ∷ []

-- the types that it may have
abbrev pub metadata_types : List (List ℕ)
metadata_types = [] ∷ codes "object" ∷ []

-- the fields of `metadata` that may be restricted
abbrev pub metadata_names : List (List ℕ)
metadata_names = codes "name" ∷ codes "generateName" ∷ []

-- `metadata` has another keyword, another type than `object`, or another field than `name` and `generateName`
pub data RestrictsMetadata : Data → Place → Type 0 where
  metadata_keyword : (raw : Data) → Passes raw metadata (has_keyword (λ k. not (is_among k metadata_keywords))) → RestrictsMetadata raw metadata
  metadata_type : (raw : Data) → Passes raw metadata (λ s. has_other_text metadata_types s (codes "type")) → RestrictsMetadata raw metadata
  metadata_field : (raw : Data) (k : List ℕ) → IsPlace raw (metadata ++ (property k ∷ [])) → is_among k metadata_names ≡ false
      → RestrictsMetadata raw (metadata ++ (property k ∷ []))

abbrev pub Broken : Raw → Place → Rule → Type 0
-- missing type
Broken raw p V01 = PassesOutside raw.tree p lacks_type
-- not specified outside the junctor
Broken raw p V02 = (is_inside p ≡ true) × IsPlace raw.tree p × (ends_in_field p ≡ true) × (IsPlace raw.tree (core p) → ⊥)
-- keyword not allowed in a junctor; `type` in the branches of the int-or-string pattern is excepted
Broken raw p V03 = (is_inside p ≡ true) × At raw.tree p (λ s. (has_keyword (λ k. is_among k outside_keywords) s ≡ true) ⊎ ((has s (codes "type") ≡ true) × (IsPatternBranch raw.tree p → ⊥)))
-- metadata restricted
Broken raw p V04 = RestrictsMetadata raw.tree p
-- keyword not supported
Broken raw p V05 = Passes raw.tree p (has_keyword (λ k. is_among k unsupported_keywords))
-- uniqueItems is true
Broken raw p V06 = Passes raw.tree p (λ s. flag s (codes "uniqueItems"))
-- additionalProperties is false
Broken raw p V07 = Passes raw.tree p (λ s. is_false (under s (codes "additionalProperties")))
-- properties with additionalProperties
Broken raw p V08 = Passes raw.tree p (λ s. has s (codes "properties") && has s (codes "additionalProperties"))
-- int-or-string with a type
Broken raw p V09 = PassesOutside raw.tree p (λ s. is_int_or_string s && has s (codes "type"))
-- bad list type
Broken raw p V10 = PassesOutside raw.tree p (has_bad_list_type raw.profile)
-- bad map keys
Broken raw p V11 = PassesOutside raw.tree p (has_bad_keys raw.profile)
-- bad items of a set
Broken raw p V12 = PassesOutside raw.tree p (has_bad_set_items raw.profile)
-- bad map type
Broken raw p V13 = PassesOutside raw.tree p (has_bad_map_type raw.profile)
-- misplaced default
Broken raw p V15 = PassesOutside raw.tree p (has_misplaced_default p)
-- junctor outside the profile
Broken raw p V16 = At raw.tree p (BreaksJunctors raw.profile p (schema_at raw.tree (core p)))
-- outside the profile
Broken raw p V17 = PassesOutside raw.tree p (is_outside_profile raw.profile (is_root p))
-- V14: what a default becomes is a matter of nodes, which the crate `stored` judges (`Accepted.antt` there)
Broken raw p _ = ⊥
