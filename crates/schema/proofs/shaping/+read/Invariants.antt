use Rattle.std.proofs.Common.{◌+◌, ◌*◌, take}
use Rattle.std.specs.Prelude.{codes}
use Rattle.jtree.specs.Data.{depth, members_depth}
use Rattle.jtree.specs.View.{data_of, members_of}
use Rattle.schema.specs.Rules.Keywords.{texts_under}
use Rattle.schema.specs.Nodes.View.{fields_of}
use Rattle.schema.specs.Internal.NodeOf.{AreFieldsOf, declared_of}
use Rattle.schema.proofs.shaping.+read.Given as goal

abbrev pub decreases-read_node : goal.decreases-read_node
decreases-read_node l = 6 * depth (data_of l.schema.now) + 4

abbrev pub decreases-read_sort : goal.decreases-read_sort
decreases-read_sort l = 6 * depth (data_of l.schema.now) + 3

abbrev pub decreases-read_object : goal.decreases-read_object
decreases-read_object l = 6 * depth (data_of l.schema.now) + 2

abbrev pub decreases-read_properties : goal.decreases-read_properties
decreases-read_properties l = 6 * depth (data_of l.schema.now) + 1

abbrev pub decreases-read_map : goal.decreases-read_map
decreases-read_map l = 6 * depth (data_of l.schema.now) + 2

abbrev pub decreases-read_list : goal.decreases-read_list
decreases-read_list l = 6 * depth (data_of l.schema.now) + 2

abbrev pub decreases-read_below : goal.decreases-read_below
decreases-read_below l = 6 * depth (data_of l.schema.now) + 5

abbrev pub decreases-read_fields : goal.decreases-read_fields
decreases-read_fields l = 6 * members_depth l.properties.now + 6

abbrev pub decreases-read_field : goal.decreases-read_field
decreases-read_field l = 6 * depth (data_of l.property.now.tree) + 5

-- the fields are those of the properties so far
abbrev pub invariant-read_fields-loop-property : goal.invariant-read_fields-loop-property
invariant-read_fields-loop-property l =
    AreFieldsOf l.profile (fields_of l.fields.items) (texts_under (data_of l.schema) (codes "required")) (declared_of l.root (members_of (take l.property-index l.property-items)))
