-- For private contracts: how a walk over a schema lists its places.
use Rattle.std.specs.Prelude.{◌≡◌, ◌++◌, List, Result, None, true, length, map, All, OnOk, IfErr}
use Rattle.jtree.specs.Data.{Data, object, Members}
use Rattle.schema.specs.Internal.Contexts.{IsContext, HasPart}
use Rattle.schema.specs.Internal.Events.{Event, Part, schema_events, member_events, part_events, subschemas_of, limit_break}
use Rattle.schema.specs.Internal.Faults.{IsLimitRefusal}
use Rattle.schema.specs.Internal.PlaceView.{place_of, subschema_of}
use Rattle.schema.specs.Internal.Subschemas.{IsSubschema}
use Rattle.schema.specs.declared.limits.Limits.{Limits}
use Rattle.schema.specs.declared.listing.Position.{Position}
use Rattle.schema.specs.declared.listing.Subschema.{Subschema}
use Rattle.schema.specs.declared.listing.Unlisted.{Unlisted}

-- the list has grown by the places among the events, at which no limit is passed
pub record HasGrown (limits : Limits) (old new : List Subschema) (events : List Event) : Type 0 where
  pub subschemas : map subschema_of new ≡ map subschema_of old ++ subschemas_of events
  pub limit : limit_break limits (length old) events ≡ None

-- The list grows along the events, or the first limit that is passed is refused. What is listed is what it says, where what is known of
-- the place is right.
pub record Lists {A : Type 0} (limits : Limits) (events : List Event) (IsRight : Data → Type 0) (old new : List Subschema) (result : Result A Unlisted) : Type 0 where
  pub grown : OnOk result (HasGrown limits old new events)
  pub refused : IfErr result (IsLimitRefusal (limit_break limits (length old) events))
  pub right : OnOk result ((raw : Data) → IsRight raw → All (IsSubschema raw) old → All (IsSubschema raw) new)

-- along the place, which has these members, and those below it
abbrev pub ListsSchema : {A : Type 0} → Position → Members → List Subschema → List Subschema → Result A Unlisted → Type 0
ListsSchema at ms = Lists at.limits (schema_events (place_of at.place.now) ms) (λ raw. IsContext raw (place_of at.place.now) (object ms) at.context)

-- along those below it alone
abbrev pub ListsKeywords : {A : Type 0} → Position → Members → List Subschema → List Subschema → Result A Unlisted → Type 0
ListsKeywords at ms = Lists at.limits (member_events (place_of at.place.now) true ms) (λ raw. IsContext raw (place_of at.place.now) (object ms) at.context)

-- along those in a part of the schema at the place
abbrev pub ListsPart : {A : Type 0} → Position → Part → Data → List Subschema → List Subschema → Result A Unlisted → Type 0
ListsPart at part d = Lists at.limits (part_events (place_of at.place.now) part d) (λ raw. (s : Data) × IsContext raw (place_of at.place.now) s at.context × HasPart s part d)
