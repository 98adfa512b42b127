-- The defaults below a node, in path order of their places, and those of them that are not good.
use Rattle.std.specs.Prelude.{◌≡◌, ◌⊎◌, ℕ, List, [], ◌∷◌, ◌++◌, Option, Some, None, option_map}
use Rattle.std.specs.Prelude as prelude
use Rattle.jtree.specs.Data.{Data}
use Rattle.schema.specs.Document.Places.{Step, Place, property, map_value, items, place_pointer}
use Rattle.schema.specs.Nodes.Node.{Node, node, Sort, object, map, list, Fields, no_fields, field}
use Rattle.jtree.specs.View.{data_of}
use Rattle.schema.specs.Nodes.View.{node_of}
use Rattle.schema.specs.declared.node.Field.{Field}
use Rattle.schema.specs.Rules.Breaks.{Reported}
use Rattle.schema.specs.declared.violation.Rule.TheVariants.{V14}
use Rattle.stored.specs.Schemas.Defaults.{IsGoodDefault}

-- a default, with the node and the place of its field
pub record Default : Type 0 where
  pub place : Place
  pub node : Node
  pub value : Data

abbrev pub after_step : Step → Default → Default
after_step s d = record { place = s ∷ d.place; node = d.node; value = d.value }

abbrev pub own_default : Node → Option Data → List Default
own_default N None = []
own_default N (Some d) = record { place = []; node = N; value = d } ∷ []

abbrev mutual
  pub defaults_of : Node → List Default
  defaults_of (node nullable description sort) = defaults_in_sort sort

  pub defaults_in_sort : Sort → List Default
  defaults_in_sort (object fs preserves type bounds cs) = defaults_in_fields fs
  defaults_in_sort (map N type bounds) = prelude.map (after_step map_value) (defaults_of N)
  defaults_in_sort (list N type keys bounds) = prelude.map (after_step items) (defaults_of N)
  defaults_in_sort _ = []

  pub defaults_in_fields : Fields → List Default
  defaults_in_fields no_fields = []
  defaults_in_fields (field k N required default fs) = prelude.map (after_step (property k)) (own_default N default ++ defaults_of N) ++ defaults_in_fields fs

abbrev pub IsGood : Default → Type 0
IsGood d = IsGoodDefault d.node d.value

-- those of a list that are not good, in their order
abbrev pub AreBadOf : List Default → List Default → Type 0
AreBadOf [] bad = bad ≡ []
AreBadOf (d ∷ ds) bad = ((IsGood d → ⊥) × (others : List Default) × (bad ≡ d ∷ others) × AreBadOf ds others) ⊎ (IsGood d × AreBadOf ds bad)

-- as violations, where this pointer leads to the node
abbrev pub reported_below : List ℕ → List Default → List Reported
reported_below pointer ds = prelude.map (λ d. record { pointer = pointer ++ place_pointer d.place; rule = V14 }) ds

-- the violations have grown by those of these defaults that are not good
pub record AreAdded (pointer : List ℕ) (ds : List Default) (before after : List Reported) : Type 0 where
  pub bad : List Default
  pub are_bad : AreBadOf ds bad
  pub reported : after ≡ before ++ reported_below pointer bad

-- those of a field of the code, and below it
abbrev pub defaults_in_field : Field → List Default
defaults_in_field f = prelude.map (after_step (property f.name)) (own_default (node_of f.node) (option_map data_of f.default) ++ defaults_of (node_of f.node))
