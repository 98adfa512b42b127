use Rattle.suggest.proofs.FromLemmas.{standing_candidate}
use Rattle.suggest.proofs.laws.what_stands_there_is_a_candidate.Goals as goal

pub returns : goal.returns
returns c = standing_candidate c.stored_by_parts.ensures c.paths_have_one_text.ensures
