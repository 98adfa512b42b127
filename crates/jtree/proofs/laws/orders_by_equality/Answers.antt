use Rattle.jtree.specs.Internal.EqualityLaws.{order_total, order_ties}
use Rattle.jtree.proofs.laws.orders_by_equality.Goals as goal

pub returns : goal.returns
returns c = record { total = order_total; same = order_ties }
