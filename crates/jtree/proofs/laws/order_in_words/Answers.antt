use Rattle.jtree.proofs.OrderWords.{less_is_before}
use Rattle.jtree.proofs.laws.order_in_words.Goals as goal

pub returns : goal.returns
returns c = record { in_words = less_is_before }
