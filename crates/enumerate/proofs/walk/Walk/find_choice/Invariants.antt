use Rattle.std.proofs.Common.{◌≡◌, ◌+◌, ◌≤◌, []}
use Rattle.enumerate.specs.View.{resume_point}
use Rattle.enumerate.specs.Internal.Candidates.{IsChoice}
use Rattle.enumerate.proofs.leaves.Lemmas.{NoneBefore}
use Rattle.enumerate.proofs.walk.Walk.find_choice.Given as goal

abbrev pub invariant-loop-place : goal.invariant-loop-place
invariant-loop-place g l = record {
  none : NoneBefore l.self.plan.now l.node (IsChoice l.self.plan.now l.node l.size (resume_point l.after) l.used) l.place;
  empty : l.scratch.following.items ≡ [];
  steps : l.meter ≤ l.initial.meter + l.place;
}
