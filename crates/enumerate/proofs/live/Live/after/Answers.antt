use Rattle.std.proofs.Common.{arith}
use Rattle.enumerate.proofs.live.Live.after.Goals as goal

pub returns-in_err-is_sample-clause-steps : goal.returns-in_err-is_sample-clause-steps
returns-in_err-is_sample-clause-steps g c = λ w wide. omega (arith, c.is_sample.ensures.steps w wide)

pub returns-then-not-branch-clause-steps : goal.returns-then-not-branch-clause-steps
returns-then-not-branch-clause-steps g c = λ w wide. omega (arith, c.is_sample.ensures.steps w wide)

pub returns-in_err-copy-clause-steps : goal.returns-in_err-copy-clause-steps
returns-in_err-copy-clause-steps g c = λ w wide. omega (arith, c.is_sample.ensures.steps w wide)

pub returns-in_err-next-clause-steps : goal.returns-in_err-next-clause-steps
returns-in_err-next-clause-steps g c = λ w wide. omega (arith, c.is_sample.ensures.steps w wide, c.next_sample.ensures.steps w wide)

pub returns-in-To-clause-steps : goal.returns-in-To-clause-steps
returns-in-To-clause-steps g c = λ w wide. omega (arith, c.is_sample.ensures.steps w wide, c.next_sample.ensures.steps w wide)

pub returns-clause-steps : goal.returns-clause-steps
returns-clause-steps g c = λ w wide. omega (arith, c.is_sample.ensures.steps w wide, c.next_sample.ensures.steps w wide)
