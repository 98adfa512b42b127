use Rattle.std.proofs.Common.{◌+◌, ◌≤◌, vec_len, vec_capacity}
use Rattle.enumerate.specs.View.{resume_point}
use Rattle.enumerate.specs.Internal.Candidates.{IsChoice, stack_of}
use Rattle.enumerate.proofs.samples.Following.{Chosen}
use Rattle.enumerate.proofs.walk.Walk.find_choices.Given as goal

abbrev pub invariant-loop-place : goal.invariant-loop-place
invariant-loop-place g l = record {
  chosen : Chosen l.self.plan.now l.node (IsChoice l.self.plan.now l.node l.size (resume_point l.after) l.used) (stack_of l.scratch.following.items) l.place;
  within : l.place ≤ l.initial.place;
  room : vec_len l.scratch.following + l.place ≤ vec_capacity l.scratch.following;
  steps : l.meter + l.place ≤ l.initial.meter + l.initial.place;
}

abbrev pub decreases-loop-place : goal.decreases-loop-place
decreases-loop-place g l = l.place
