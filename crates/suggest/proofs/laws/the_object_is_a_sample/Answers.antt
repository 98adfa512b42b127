use Rattle.suggest.proofs.IntegerLemmas.{integers_are_least}
use Rattle.suggest.proofs.ObjectLemmas.{object_sample}
use Rattle.suggest.proofs.laws.the_object_is_a_sample.Goals as goal

pub returns-clause-sample : goal.returns-clause-sample
returns-clause-sample c = object_sample c.stored_by_parts.ensures c.paths_have_one_text.ensures

pub returns-clause-integers : goal.returns-clause-integers
returns-clause-integers c = integers_are_least
