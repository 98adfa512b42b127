-- What the steps and subschemas of the code stand for.
use Rattle.std.specs.Prelude.{List, map}
use Rattle.jtree.specs.Data.{object}
use Rattle.schema.specs.Document.Places as places
use Rattle.schema.specs.Document.Places.{Place}
use Rattle.schema.specs.Internal.Events.{Event, entered}
use Rattle.schema.specs.Internal.Events as events
use Rattle.schema.specs.declared.places.Step.{Step}
use Rattle.schema.specs.declared.places.Step.TheVariants as step
use Rattle.schema.specs.declared.listing.Junctor.{Junctor}
use Rattle.schema.specs.declared.listing.Junctor.TheVariants as junctor
use Rattle.schema.specs.declared.listing.Part.{Part}
use Rattle.schema.specs.declared.listing.Part.TheVariants as part
use Rattle.schema.specs.declared.listing.Subschema.{Subschema}

abbrev pub step_of : Step → places.Step
step_of (step.Property k) = places.property k.now
step_of step.MapValue = places.map_value
step_of step.Items = places.items
step_of (step.AllOf i) = places.all_of i
step_of (step.AnyOf i) = places.any_of i
step_of (step.OneOf i) = places.one_of i
step_of step.Not = places.negation

abbrev pub place_of : List Step → Place
place_of steps = map step_of steps

abbrev pub junctor_of : Junctor → events.Junctor
junctor_of junctor.All = events.all
junctor_of junctor.Any = events.any
junctor_of junctor.One = events.one

abbrev pub part_view : Part → events.Part
part_view (part.Schema s) = events.a_schema (step_of s)
part_view part.Properties = events.properties
part_view (part.Branches j) = events.branches (junctor_of j)
part_view part.Other = events.no_schema

abbrev pub subschema_of : Subschema → Event
subschema_of v = entered (place_of v.place.items) (object v.schema.now)
