use Rattle.std.proofs.Common.{◌+◌, ◌*◌, ◌≤◌, ℕ, List, Option, length, vec_len}
use Rattle.jtree.specs.Data.{Data}
use Rattle.plan.specs.Samples.Candidates.{IsWidth}
use Rattle.enumerate.specs.Internal.Moves.{AreInSlots, demand_of}
use Rattle.enumerate.specs.Internal.Walks.{IsWalkedTo}
use Rattle.jtree.specs.View.{items_of}
use Rattle.enumerate.specs.Internal.Candidates.{used_rows}
use Rattle.enumerate.specs.Internal.Nodes.{weight, Costs}
use Rattle.enumerate.specs.Internal.Rows.{slots_from}
use Rattle.enumerate.proofs.lists.Walks.{WereLast}
use Rattle.enumerate.proofs.walk.Walk.+next.Given as goal

abbrev pub decreases-next_part : goal.decreases-next_part
decreases-next_part g l = weight l.self.now.plan.now (l.node + 1)

abbrev pub decreases-next_row : goal.decreases-next_row
decreases-next_row g l = weight l.self.now.plan.now l.node + 6

abbrev pub decreases-next_member : goal.decreases-next_member
decreases-next_member g l = weight l.self.now.plan.now l.here.now.node + 2

abbrev pub decreases-next_members : goal.decreases-next_members
decreases-next_members g l = weight l.self.now.plan.now l.node + 5

abbrev pub decreases-next_at_slot : goal.decreases-next_at_slot
decreases-next_at_slot g l = weight l.self.now.plan.now l.here.now.node + 4

abbrev pub decreases-next_filled_slot : goal.decreases-next_filled_slot
decreases-next_filled_slot g l = weight l.self.now.plan.now l.here.now.node + 3

abbrev pub invariant-next_members-loop-place : goal.invariant-next_members-loop-place
invariant-next_members-loop-place g l = record {
  within : l.place ≤ length (slots_from l.self.plan.now l.node 0);
  walked : (gs : List (Option Data)) → AreInSlots l.self.plan.now.pools (slots_from l.self.plan.now l.node 0) (demand_of l.self.plan.now l.node (used_rows l.used) gs) l.initial.members.items gs → IsWalkedTo l.self.plan.now l.node l.place l.removed (used_rows l.used) l.members.items gs;
  steps : (w : ℕ) → IsWidth l.self.plan.now w → l.meter + l.place ≤ l.initial.meter + length (slots_from l.self.plan.now l.node 0) + (w + 1) * (2 * l.removed.room);
}

abbrev pub decreases-next_members-loop-place : goal.decreases-next_members-loop-place
decreases-next_members-loop-place g l = l.place

abbrev pub decreases-next_value : goal.decreases-next_value
decreases-next_value g l = weight l.self.now.plan.now l.here.now.node + 1

abbrev pub decreases-next_list : goal.decreases-next_list
decreases-next_list g l = weight l.self.now.plan.now l.node + (4 * l.self.now.plan.now.limit + 7)

abbrev pub decreases-next_items : goal.decreases-next_items
decreases-next_items g l = weight l.self.now.plan.now l.list.now.node + 3

abbrev pub decreases-next_item : goal.decreases-next_item
decreases-next_item g l = weight l.self.now.plan.now l.list.now.node + 2

abbrev pub invariant-next_items-loop-item : goal.invariant-next_items-loop-item
invariant-next_items-loop-item g l = record {
  last : WereLast l.self.plan.now l.list.node l.room (items_of l.initial.items.items) (items_of l.items.items);
  steps : Costs l.self.plan.now l.initial.meter l.meter (2 * l.room);
}

abbrev pub decreases-next_items-loop-item : goal.decreases-next_items-loop-item
decreases-next_items-loop-item g l = vec_len l.items
