use Rattle.std.proofs.Common.{◌+◌, ◌*◌, length}
use Rattle.enumerate.specs.Internal.Nodes.{weight}
use Rattle.enumerate.specs.Internal.Rows.{slots_from}
use Rattle.enumerate.proofs.walk.Walk.+first.Given as goal

abbrev pub decreases-first_part : goal.decreases-first_part
decreases-first_part g l = weight l.self.now.plan.now (l.node + 1)

abbrev pub decreases-first_row : goal.decreases-first_row
decreases-first_row g l = weight l.self.now.plan.now l.node + (4 * length (slots_from l.self.now.plan.now l.node 0) + 5)

abbrev pub decreases-first_members : goal.decreases-first_members
decreases-first_members g l = weight l.self.now.plan.now l.node + (4 * length (slots_from l.self.now.plan.now l.node l.place) + 4)

abbrev pub decreases-grow_members : goal.decreases-grow_members
decreases-grow_members g l = weight l.self.now.plan.now l.here.now.node + (4 * length (slots_from l.self.now.plan.now l.here.now.node (l.here.now.place + 1)) + 7)

abbrev pub decreases-first_value : goal.decreases-first_value
decreases-first_value g l = weight l.self.now.plan.now l.here.now.node + 1

abbrev pub decreases-put_member : goal.decreases-put_member
decreases-put_member g l = weight l.self.now.plan.now l.here.now.node + (4 * length (slots_from l.self.now.plan.now l.here.now.node (l.here.now.place + 1)) + 5)

abbrev pub decreases-first_list : goal.decreases-first_list
decreases-first_list g l = weight l.self.now.plan.now l.node + (4 * l.self.now.plan.now.limit + 7)

abbrev pub decreases-first_items : goal.decreases-first_items
decreases-first_items g l = weight l.self.now.plan.now l.list.now.node + (4 * l.room + 4)

abbrev pub decreases-grow_items : goal.decreases-grow_items
decreases-grow_items g l = weight l.self.now.plan.now l.list.now.node + (4 * l.room + 3)

abbrev pub decreases-first_item : goal.decreases-first_item
decreases-first_item g l = weight l.self.now.plan.now l.list.now.node + 2
