use Rattle.std.proofs.Common.{◌+◌, ◌*◌, ◌-◌, ◌≤◌, ℕ, Some}
use Rattle.jtree.specs.View.{data_of}
use Rattle.plan.specs.Samples.Candidates.{IsWidth}
use Rattle.plan.specs.Samples.Steps.{delay}
use Rattle.enumerate.specs.Internal.Current.{IsCurrent}
use Rattle.enumerate.proofs.pages.Lemmas.{IsLent}
use Rattle.enumerate.proofs.samples.Current.{CanChange}
use Rattle.enumerate.proofs.current.Current.lend.Given as goal

abbrev pub invariant-samples : goal.invariant-samples
invariant-samples g l = record {
  current : IsCurrent l.walk.plan.now l.self;
  lent : IsLent l.walk.plan.now (Some (data_of l.initial.self.tree)) l.count l.lent (g.T.Taker.has_taken l.initial.taker l.taker) (Some (data_of l.self.tree));
  before : CanChange (g.T.Taker.has_taken l.initial.taker l.taker) (data_of l.self.tree) l.self.change;
  short : l.lent ≤ l.count;
  steps : (w : ℕ) → IsWidth l.walk.plan.now w → l.meter ≤ l.initial.meter + l.lent * delay l.walk.plan.now.limit w;
}

abbrev pub decreases-samples : goal.decreases-samples
decreases-samples g l = l.count - l.lent
