-- What a cluster makes of an object before it is judged, by the schema of its version: it is pruned, loses nulls that have no place, has
-- its metadata pruned and that of embedded resources, and is filled with defaults.
use Rattle.jtree.specs.Data.{Data}
use Rattle.cluster.specs.Pruned.{pruned_object}
use Rattle.cluster.specs.WithoutNulls.{object_without_nulls}
use Rattle.cluster.specs.Metadata.{metadata_pruned}
use Rattle.cluster.specs.Filled.{filled}

abbrev pub way_in : Data → Data → Data
way_in s v = filled s (metadata_pruned s (object_without_nulls s (pruned_object s v)))
