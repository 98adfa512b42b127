use Rattle.std.proofs.Common.{◌≡◌, ◌+◌, ◌≤◌}
use Rattle.jtree.specs.View.{data_of}
use Rattle.enumerate.specs.Internal.Nodes.{IsCandidateOf}
use Rattle.enumerate.proofs.leaves.Lemmas.{NoneBefore}
use Rattle.enumerate.proofs.walk.Walk.is_candidate.Given as goal

abbrev pub invariant-loop-place : goal.invariant-loop-place
invariant-loop-place g l = record {
  none : NoneBefore l.self.plan.now l.node (λ u. IsCandidateOf l.self.plan.now l.node u × (u ≡ data_of l.tree)) l.place;
  steps : l.meter ≤ l.initial.meter + l.place;
}
