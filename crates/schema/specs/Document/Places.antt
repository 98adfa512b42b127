-- The places of a schema: the schema itself, and what a step from a place leads to, where that is an object. A place is a
-- list of steps; its pointer begins at `openAPIV3Schema`, whose own pointer is the empty text (RFC 6901).
use Rattle.std.specs.Prelude.{◌≡◌, ℕ, List, [], ◌∷◌, Bool, true, false, Option, Some, None, option_and_then, flat_map, filter, not, ◌||◌, codes}
use Rattle.jtree.specs.Data.{Data, object}
use Rattle.jtree.specs.Path.{Path, name, index, part_at}
use Rattle.jtree.specs.Pointer.{pointer}
use Rattle.schema.specs.Document.Texts.{is_among}

pub data Step : Type 0 where
  -- to the member of `properties` of this name
  property : List ℕ → Step
  -- to `additionalProperties`
  map_value : Step
  -- to `items`
  items : Step
  -- to the entry at this index of `allOf`, `anyOf` or `oneOf`, and to `not`
  all_of : ℕ → Step
  any_of : ℕ → Step
  one_of : ℕ → Step
  negation : Step

abbrev pub Place : Type 0
Place = List Step

-- the path of a step in the document
abbrev pub step_path : Step → Path
step_path (property k) = name (codes "properties") ∷ name k ∷ []
step_path map_value = name (codes "additionalProperties") ∷ []
step_path items = name (codes "items") ∷ []
step_path (all_of i) = name (codes "allOf") ∷ index i ∷ []
step_path (any_of i) = name (codes "anyOf") ∷ index i ∷ []
step_path (one_of i) = name (codes "oneOf") ∷ index i ∷ []
step_path negation = name (codes "not") ∷ []

abbrev pub place_path : Place → Path
place_path p = flat_map step_path p

abbrev pub place_pointer : Place → List ℕ
place_pointer p = pointer (place_path p)

-- a value that is an object, and nothing for another value
abbrev pub only_object : Data → Option Data
only_object (object ms) = Some (object ms)
only_object _ = None

-- what a step leads to
abbrev pub schema_by : Data → Step → Option Data
schema_by s step = option_and_then only_object (part_at s (step_path step))

-- the schema at a place
abbrev pub schema_at : Data → Place → Option Data
schema_at s [] = Some s
schema_at s (step ∷ p) = option_and_then (λ t. schema_at t p) (schema_by s step)

abbrev pub IsPlace : Data → Place → Type 0
IsPlace raw p = (s : Data) × (schema_at raw p ≡ Some s)

-- steps into the branches of a junctor
abbrev pub is_junctor : Step → Bool
is_junctor (property k) = false
is_junctor map_value = false
is_junctor items = false
is_junctor _ = true

-- a place is inside where one of its steps is into a branch, else outside
abbrev pub is_inside : Place → Bool
is_inside [] = false
is_inside (s ∷ p) = is_junctor s || is_inside p

-- the steps that are into no branch
abbrev pub core : Place → Place
core p = filter (λ s. not (is_junctor s)) p

-- the last step of a place passes a test
abbrev pub ends_with : (Step → Bool) → Place → Bool
ends_with test [] = false
ends_with test (s ∷ []) = test s
ends_with test (s ∷ t ∷ p) = ends_with test (t ∷ p)

-- at the root `apiVersion`, `kind` and `metadata`, and all below them, are the envelope of a resource
abbrev pub envelope_names : List (List ℕ)
envelope_names = codes "apiVersion" ∷ codes "kind" ∷ codes "metadata" ∷ []

abbrev pub is_envelope_name : List ℕ → Bool
is_envelope_name k = is_among k envelope_names

abbrev pub IsEnvelopeName : List ℕ → Type 0
IsEnvelopeName k = is_envelope_name k ≡ true

abbrev pub is_envelope : Place → Bool
is_envelope (property k ∷ p) = is_envelope_name k
is_envelope _ = false

abbrev pub IsEnvelope : Place → Type 0
IsEnvelope p = is_envelope p ≡ true
