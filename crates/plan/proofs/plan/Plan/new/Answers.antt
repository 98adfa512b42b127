use Rattle.std.proofs.Common.{ℕ, ap}
use Rattle.plan.specs.Samples.Question.{Question}
use Rattle.plan.proofs.plan.Plan.new.Goals as goal

pub returns-in-Ok-clause-ok : goal.returns-in-Ok-clause-ok
returns-in-Ok-clause-ok g c =
    let at : ℕ → Question = λ n. record { root = c.args.schema; pools = c.args.pools; limit = n } in
    ap at c.in-Ok.ensures.limit

pub invariant_of-result : goal.invariant_of-result
invariant_of-result g c = rw c.in-Ok.ensures.limit c.in-Ok.ensures.made
