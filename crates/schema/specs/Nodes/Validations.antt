-- What is asked at a place, outside or in a branch of a junctor: its keywords, as they are there (OpenAPI 3.0, Schema Object).
use Rattle.std.specs.Prelude.{◌≡◌, ℕ, List, [], false, Option, Some, None, codes}
use Rattle.jtree.specs.Data.{Data, object, Items, no_items, item, Members}
use Rattle.jtree.specs.Path.{under}
use Rattle.schema.specs.Rules.Keywords.{flag, integer_under, count_under, list_under, items_under, texts_under}
use Rattle.schema.specs.Nodes.Node.{Validations, validations, Branches, no_branches, branch}
use Rattle.schema.specs.declared.node.Constraints.{Constraints}
use Rattle.schema.specs.declared.profile.Profile.{Profile}
use Rattle.schema.specs.declared.profile.Profile.TheVariants.{Core, Cluster}

-- the schema as it is written, by which a cluster asks what it does of a value
abbrev pub written_by : Profile → Data → Option Members
written_by Cluster (object ms) = Some ms
written_by _ s = None

pub record AreConstraintsOf (profile : Profile) (t : Constraints) (s : Data) : Type 0 where
  -- as written, repeats among them
  pub choices : t.choices ≡ list_under s (codes "enum")
  pub minimum : t.minimum ≡ integer_under s (codes "minimum")
  pub maximum : t.maximum ≡ integer_under s (codes "maximum")
  pub exclusive_minimum : t.exclusive_minimum ≡ flag s (codes "exclusiveMinimum")
  pub exclusive_maximum : t.exclusive_maximum ≡ flag s (codes "exclusiveMaximum")
  pub least_length : t.lengths.least ≡ count_under s (codes "minLength")
  pub most_length : t.lengths.most ≡ count_under s (codes "maxLength")
  pub written : t.written ≡ written_by profile s
  pub required : t.required ≡ texts_under s (codes "required")

-- the branch of `not`, where it is there
abbrev pub one_item : Option Data → Items
one_item None = no_items
one_item (Some d) = item d no_items

abbrev mutual
  pub AreValidationsOf : Profile → Validations → Data → Type 0
  AreValidationsOf profile (validations constraints all any one negated) s =
      AreConstraintsOf profile constraints s × AreBranchesOf profile all (items_under s (codes "allOf")) × AreBranchesOf profile any (items_under s (codes "anyOf"))
      × AreBranchesOf profile one (items_under s (codes "oneOf")) × AreBranchesOf profile negated (one_item (under s (codes "not")))

  -- one for each schema in the list, in its order
  pub AreBranchesOf : Profile → Branches → Items → Type 0
  AreBranchesOf profile no_branches no_items = Unit {0}
  AreBranchesOf profile (branch c cs) (item d ds) = AreValidationsOf profile c d × AreBranchesOf profile cs ds
  AreBranchesOf profile _ _ = ⊥

-- nothing is asked but members of these names
abbrev pub presence : List (List ℕ) → Constraints
presence names =
    record { choices = None; minimum = None; maximum = None; exclusive_minimum = false; exclusive_maximum = false; lengths = record { least = None; most = None }; written = None; required = names }

-- The junctors of an object, as they are at its place, beside which they ask nothing: what its own `required` names is said of
-- each field. They ask which members are there, so under each profile their schemas are not kept as written.
abbrev pub AreObjectJunctorsOf : Validations → Data → Type 0
AreObjectJunctorsOf (validations constraints all any one negated) s =
    (constraints ≡ presence []) × AreBranchesOf Core all (items_under s (codes "allOf")) × AreBranchesOf Core any (items_under s (codes "anyOf"))
    × AreBranchesOf Core one (items_under s (codes "oneOf")) × AreBranchesOf Core negated (one_item (under s (codes "not")))
