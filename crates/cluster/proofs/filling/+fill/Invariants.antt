use Rattle.std.proofs.Common.{◌+◌, ◌*◌}
use Rattle.std.specs.Vec.Iter.{into_iter_items}
use Rattle.jtree.specs.Data.{depth}
use Rattle.jtree.specs.View.{data_of}
use Rattle.cluster.specs.Internal.Walks.{FillsItems, FillsMembers}
use Rattle.cluster.proofs.filling.+fill.Given as goal

abbrev pub invariant-fill_items-loop-item : goal.invariant-fill_items-loop-item
invariant-fill_items-loop-item l = FillsItems (data_of l.schema) l.fn.items (into_iter_items l.item-iterator) l.filled.items

abbrev pub invariant-fill_members-loop-member : goal.invariant-fill_members-loop-member
invariant-fill_members-loop-member l = FillsMembers (data_of l.schema) l.fn.members (into_iter_items l.member-iterator) l.filled.items

-- the schema nests less deep at each call, or the call is one of the next layer

abbrev pub decreases-fill_items : goal.decreases-fill_items
decreases-fill_items l = 8 * depth (data_of l.schema.now) + 6

abbrev pub decreases-fill_part : goal.decreases-fill_part
decreases-fill_part l = 8 * depth (data_of l.schema.now) + 5

abbrev pub decreases-fill : goal.decreases-fill
decreases-fill l = 8 * depth (data_of l.schema.now) + 4

abbrev pub decreases-fill_by : goal.decreases-fill_by
decreases-fill_by l = 8 * depth (data_of l.schema.now) + 3

abbrev pub decreases-fill_object : goal.decreases-fill_object
decreases-fill_object l = 8 * depth (data_of l.schema.now) + 2

abbrev pub decreases-fill_list : goal.decreases-fill_list
decreases-fill_list l = 8 * depth (data_of l.schema.now) + 2

abbrev pub decreases-fill_members : goal.decreases-fill_members
decreases-fill_members l = 8 * depth (data_of l.schema.now) + 1

abbrev pub decreases-fill_member : goal.decreases-fill_member
decreases-fill_member l = 8 * depth (data_of l.schema.now)
