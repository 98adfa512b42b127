use Rattle.jtree.specs.Internal.OrderLaws.{tree_total, tree_same}
use Rattle.jtree.proofs.OrderWords.{tree_tied}
use Rattle.jtree.proofs.laws.order_is_total.Goals as goal

pub returns-clause-total : goal.returns-clause-total
returns-clause-total c = tree_total

pub returns-clause-same : goal.returns-clause-same
returns-clause-same c = λ u v. (tree_same u v, tree_tied u v)
