-- For private contracts: which node is that of a schema, level by level, as it is read. These are the nodes of its places.
use Rattle.std.specs.Prelude.{◌≡◌, ℕ, List, Bool, false, Some, if◌then◌else◌, ◌&&◌, not, codes}
use Rattle.jtree.specs.Data.{Data, Members, no_members, member}
use Rattle.jtree.specs.Kind.{is_object}
use Rattle.jtree.specs.Path.{under}
use Rattle.schema.specs.Document.Texts.{is_among}
use Rattle.schema.specs.Document.Places.{is_envelope_name}
use Rattle.schema.specs.Rules.Kinds.{IsOfKind}
use Rattle.schema.specs.Rules.Keywords.{members_under, texts_under}
use Rattle.schema.specs.Nodes.ByPlace.{sort_kind, HasKeywords, IsNodeHere}
use Rattle.schema.specs.Nodes.Node.{Node, node, Sort, object, map, list, Fields, no_fields, field}
use Rattle.schema.specs.declared.profile.Profile.{Profile}

-- a property has a field where it is a schema, and at the root where it is not of the envelope
abbrev pub is_declared : Bool → List ℕ → Data → Bool
is_declared root k d = is_object d && not (root && is_envelope_name k)

abbrev pub declared_of : Bool → Members → Members
declared_of root no_members = no_members
declared_of root (member k d ms) = if is_declared root k d then member k d (declared_of root ms) else declared_of root ms

-- N is the node of the schema, at the root or below it, and so are the nodes below it
abbrev mutual
  pub IsNodeOf : Profile → Bool → Node → Data → Type 0
  IsNodeOf profile root (node nullable description sort) s = IsNodeHere profile (node nullable description sort) s × AreBelow profile root sort s

  pub AreBelow : Profile → Bool → Sort → Data → Type 0
  AreBelow profile root (object fs preserves type bounds cs) s = AreFieldsOf profile fs (texts_under s (codes "required")) (declared_of root (members_under s (codes "properties")))
  AreBelow profile root (map N type bounds) s = (d : Data) × (under s (codes "additionalProperties") ≡ Some d) × IsNodeOf profile false N d
  AreBelow profile root (list N type keys bounds) s = (d : Data) × (under s (codes "items") ≡ Some d) × IsNodeOf profile false N d
  AreBelow profile root _ s = Unit {0}

  -- a field for each property, with its node, and whether it is required, and its default
  pub AreFieldsOf : Profile → Fields → List (List ℕ) → Members → Type 0
  AreFieldsOf profile no_fields names no_members = Unit {0}
  AreFieldsOf profile (field k N required default fs) names (member l d ms) =
      (k ≡ l) × IsNodeOf profile false N d × (required ≡ is_among l names) × (default ≡ under d (codes "default")) × AreFieldsOf profile fs names ms
  AreFieldsOf profile _ _ _ = ⊥

-- what the node of the schema accepts besides null
abbrev pub IsSortOf : Profile → Bool → Sort → Data → Type 0
IsSortOf profile root sort s = IsOfKind profile s (sort_kind sort) × HasKeywords profile sort s × AreBelow profile root sort s
