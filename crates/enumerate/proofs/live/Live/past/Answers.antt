use Rattle.std.proofs.Common.{subst, sym}
use Rattle.std.specs.Prelude.{IfOk}
use Rattle.enumerate.specs.Live.{IsStarted}
use Rattle.enumerate.specs.View.{resume_point}
use Rattle.enumerate.proofs.live.Live.past.Goals as goal

pub returns-in-Some-clause-ok : goal.returns-in-Some-clause-ok
returns-in-Some-clause-ok g c = subst (λ a. IfOk c.after.result (λ live. IsStarted c.args.plan.now (resume_point a) live)) (sym c.in-Some.is) c.after.ensures.ok
