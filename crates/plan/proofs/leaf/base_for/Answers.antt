use Rattle.plan.proofs.leaf.base_for.Goals as goal

pub returns-in-None : goal.returns-in-None
returns-in-None c = rw c.in-None.is c.base_at.ensures

pub returns-in_ok-in_order-in-Some : goal.returns-in_ok-in_order-in-Some
returns-in_ok-in_order-in-Some c = λ v are leaf. rw c.in-Some.is (rw c.new.ensures.items at c.in_ok-in_order-in-Some.ensures)
