use Rattle.enumerate.proofs.pages.Laws.{same_items, same_end, larger_sample, past_last_sample}
use Rattle.enumerate.proofs.laws.pages_agree.Goals as goal

pub returns-clause-items : goal.returns-clause-items
returns-clause-items c = same_items

pub returns-clause-end : goal.returns-clause-end
returns-clause-end c = same_end

pub returns-clause-stays : goal.returns-clause-stays
returns-clause-stays c = larger_sample

pub returns-clause-past_last : goal.returns-clause-past_last
returns-clause-past_last c = λ q larger last v _. past_last_sample q larger last v
