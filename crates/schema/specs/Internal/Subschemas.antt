-- For private contracts: what is known of the places that are listed.
use Rattle.std.specs.Prelude.{◌≡◌, ◌↔◌, List, [], Some, map, option_map, All, IsTrue}
use Rattle.jtree.specs.Data.{Data, object, Members}
use Rattle.schema.specs.Document.Places.{core, schema_at}
use Rattle.schema.specs.Internal.Events.{schema_events, subschemas_of}
use Rattle.schema.specs.Internal.PlaceView.{place_of, subschema_of}
use Rattle.schema.specs.Rules.Broken.{IsPatternBranch}
use Rattle.schema.specs.declared.listing.Subschema.{Subschema}

-- the subschema has the schema of its place, the schema at the core of its place, and says whether it is a branch of the
-- int-or-string pattern
pub record IsSubschema (raw : Data) (v : Subschema) : Type 0 where
  pub is : schema_at raw (place_of v.place.items) ≡ Some (object v.schema.now)
  pub outer_is : option_map (λ m. object m.now) v.outer ≡ schema_at raw (core (place_of v.place.items))
  pub pattern_is : IsTrue v.in_pattern ↔ IsPatternBranch raw (place_of v.place.items)

-- the subschemas are those of all places of a schema, in path order
pub record AreSubschemas (ms : Members) (subschemas : List Subschema) : Type 0 where
  pub each : All (IsSubschema (object ms)) subschemas
  pub whole : map subschema_of subschemas ≡ subschemas_of (schema_events [] ms)
