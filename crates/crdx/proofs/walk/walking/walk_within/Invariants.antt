use Rattle.std.proofs.Common.{◌≡◌, ◌≤◌, ◌-◌, ◌+◌, ◌*◌, ℕ, if◌then◌else◌}
use Rattle.std.specs.Prelude.{IfSome}
use Rattle.std.specs.Option.{option_copied}
use Rattle.plan.specs.Samples.Candidates.{IsWidth}
use Rattle.plan.specs.Samples.Steps.{delay}
use Rattle.enumerate.specs.Page.{IsSampleOf}
use Rattle.enumerate.specs.View.{resume_point}
use Rattle.crdx.specs.Internal.Progress.{IsSoFar}
use Rattle.crdx.proofs.walk.walking.walk_within.Given as goal

abbrev pub invariant-pages : goal.invariant-pages
invariant-pages g l = record {
  so_far : IsSoFar l.plan (resume_point l.after) l.extent.total (option_copied l.envelope) l.so_far.lines l.so_far.end l.live.at (g.W.Sink.taken l.fn.out) (g.W.Sink.taken l.out);
  sample : IfSome (resume_point l.after) (IsSampleOf l.plan);
  question : l.live.question ≡ l.plan;
  envelope : option_copied l.block.envelope ≡ option_copied l.envelope;
  failures : g.W.Sink.failures l.out ≡ g.W.Sink.failures l.fn.out;
  steps : (w : ℕ) → IsWidth l.plan w → l.meter ≤ l.fn.meter + (l.so_far.lines + 1) * delay l.plan.limit w;
}

abbrev pub decreases-pages : goal.decreases-pages
decreases-pages g l = (if l.so_far.end then 0 else 1) + (l.extent.total - l.so_far.lines)
