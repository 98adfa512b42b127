-- The paths of a schema outside junctors: each step leads from an object to the field of a name, from a list to its items, or
-- from a map to its values (this project's own).
use Rattle.std.specs.Prelude.{ℕ, List, map}
use Rattle.schema.specs.Document.Places.{Place}
use Rattle.schema.specs.Document.Places as places

pub data FieldStep : Type 0 where
  -- to the field of this name
  field : List ℕ → FieldStep
  -- to the items of a list
  item : FieldStep
  -- to the values of a map
  value : FieldStep

abbrev pub FieldPath : Type 0
FieldPath = List FieldStep

-- the same step, and the same path, as a place of the schema
abbrev pub place_step : FieldStep → places.Step
place_step (field k) = places.property k
place_step item = places.items
place_step value = places.map_value

abbrev pub place_of : FieldPath → Place
place_of p = map place_step p
