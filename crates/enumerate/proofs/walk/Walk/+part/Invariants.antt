use Rattle.std.proofs.Common.{◌+◌, ◌*◌, length, take}
use Rattle.jtree.specs.Nodes.{items_count}
use Rattle.jtree.specs.View.{items_of}
use Rattle.enumerate.specs.Internal.Nodes.{weight, Costs}
use Rattle.enumerate.specs.Internal.Lists.{AreFirst}
use Rattle.enumerate.specs.Internal.Rows.{slots_from}
use Rattle.enumerate.proofs.walk.Walk.+part.Given as goal

abbrev pub decreases-is_part : goal.decreases-is_part
decreases-is_part g l = weight l.self.now.plan.now (l.node + 1)

abbrev pub decreases-is_unused_row : goal.decreases-is_unused_row
decreases-is_unused_row g l = weight l.self.now.plan.now l.node + (4 * length (slots_from l.self.now.plan.now l.node 0) + 5)

abbrev pub decreases-make_unused_row : goal.decreases-make_unused_row
decreases-make_unused_row g l = weight l.self.now.plan.now l.node + (4 * length (slots_from l.self.now.plan.now l.node l.place) + 4)

abbrev pub decreases-is_list : goal.decreases-is_list
decreases-is_list g l = weight l.self.now.plan.now l.node + 5

abbrev pub decreases-make_list : goal.decreases-make_list
decreases-make_list g l = weight l.self.now.plan.now l.node + 4

abbrev pub decreases-is_unused_item : goal.decreases-is_unused_item
decreases-is_unused_item g l = weight l.self.now.plan.now l.list.now.node + 3

abbrev pub invariant-make_list-loop-place : goal.invariant-make_list-loop-place
invariant-make_list-loop-place g l = record {
  first : AreFirst l.self.plan.now l.list.node l.list.child (items_of (take l.place l.items));
  steps : Costs l.self.plan.now l.initial.meter l.meter (items_count (items_of (take l.place l.items)));
}
