-- For private contracts: what is known of the schemas from which nodes are made.
use Rattle.std.specs.Prelude.{◌≡◌, ◌⊎◌, ℕ, List, Bool, true, false, Some, None, option_map, codes}
use Rattle.jtree.specs.Data.{Data, Members, object}
use Rattle.jtree.specs.Path.{member_at, under}
use Rattle.jtree.specs.View.{data_of}
use Rattle.jtree.specs.declared.value.Member.{Member}
use Rattle.schema.specs.Document.Texts.{is_among}
use Rattle.schema.specs.Document.Places.{Place, items, schema_by, schema_at}
use Rattle.schema.specs.Rules.Kinds as kinds
use Rattle.schema.specs.Rules.Kinds.{kind_of, IsOfKind}
use Rattle.schema.specs.Rules.Broken.{At}
use Rattle.schema.specs.Rules.Keywords.{texts_under}
use Rattle.schema.specs.Nodes.View.{node_of}
use Rattle.schema.specs.Nodes.ByPlace.{IsNodePlace}
use Rattle.schema.specs.Internal.NodeOf.{IsNodeOf, is_declared}
use Rattle.schema.specs.declared.node.Field.{Field}
use Rattle.schema.specs.declared.profile.Profile.{Profile}

-- a schema of no kind, or a list without items
abbrev pub HasNoNode : Profile → Data → Type 0
HasNoNode profile s = (kind_of profile s ≡ None) ⊎ (IsOfKind profile s kinds.list × (schema_by s items ≡ None))

-- no place that has to have a node is without one
abbrev pub HasNodes : Profile → Bool → Data → Type 0
HasNodes profile root s = (p : Place) → IsNodePlace root p → At s p (HasNoNode profile) → ⊥

abbrev pub HaveNodes : Profile → Bool → Members → Type 0
HaveNodes profile root ms = (k : List ℕ) (d : Data) → member_at k ms ≡ Some d → is_declared root k d ≡ true → HasNodes profile false d

-- the field is that of a property of the schema
pub record IsFieldOf (profile : Profile) (f : Field) (schema : Data) (property : Member) : Type 0 where
  pub name : f.name ≡ property.name
  pub node : IsNodeOf profile false (node_of f.node) (data_of property.tree)
  pub required : f.required ≡ is_among property.name (texts_under schema (codes "required"))
  pub default : option_map data_of f.default ≡ under (data_of property.tree) (codes "default")

-- the keyword is there, and is an object
abbrev pub HasObject : Data → List ℕ → Type 0
HasObject s k = (ms : Members) × (under s k ≡ Some (object ms))

-- keywords that hold schemas are where the kind has them: `properties` in objects, a schema of values in maps, `items` in
-- lists
pub record HasOwnParts (profile : Profile) (s : Data) : Type 0 where
  pub properties : HasObject s (codes "properties") → IsOfKind profile s kinds.object
  pub values : HasObject s (codes "additionalProperties") → IsOfKind profile s kinds.map
  pub items : HasObject s (codes "items") → IsOfKind profile s kinds.list

-- and so at each place that is to have a node
abbrev pub HaveOwnParts : Profile → Bool → Data → Type 0
HaveOwnParts profile root s = (p : Place) (t : Data) → IsNodePlace root p → schema_at s p ≡ Some t → HasOwnParts profile t
