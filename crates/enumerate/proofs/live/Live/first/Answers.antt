use Rattle.std.proofs.Common.{arith, rules}
use Rattle.enumerate.proofs.live.Live.first.Goals as goal

pub returns-in_err-tree-clause-steps : goal.returns-in_err-tree-clause-steps
returns-in_err-tree-clause-steps g c = λ w wide. omega (arith, c.first_from.ensures.steps w wide)

pub returns-in-Some-clause-steps : goal.returns-in-Some-clause-steps
returns-in-Some-clause-steps g c = λ w wide. omega (arith, c.first_from.ensures.steps w wide)

pub returns-clause-steps : goal.returns-clause-steps
returns-clause-steps g c = λ w wide. omega (arith, c.first_from.ensures.steps w wide)

pub returns-in-Some-clause-ok : goal.returns-in-Some-clause-ok
returns-in-Some-clause-ok g c = search rules

pub returns-clause-ok : goal.returns-clause-ok
returns-clause-ok g c = search rules
