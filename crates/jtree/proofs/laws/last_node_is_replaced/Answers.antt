use Rattle.jtree.proofs.LastNode.{with_own_last, again, count_with, is_last, same_depth}
use Rattle.jtree.proofs.laws.last_node_is_replaced.Goals as goal

pub returns-clause-again : goal.returns-clause-again
returns-clause-again c = λ d v w one. again d v w one

pub returns-clause-own : goal.returns-clause-own
returns-clause-own c = λ d. with_own_last d

pub returns-clause-count : goal.returns-clause-count
returns-clause-count c = λ d v. count_with d v

pub returns-clause-last : goal.returns-clause-last
returns-clause-last c = λ d v one. is_last d v one

pub returns-clause-depth : goal.returns-clause-depth
returns-clause-depth c = λ d v one. same_depth d v one
