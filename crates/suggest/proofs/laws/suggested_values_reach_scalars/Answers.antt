use Rattle.suggest.proofs.ReachLemmas.{reach}
use Rattle.suggest.proofs.laws.suggested_values_reach_scalars.Goals as goal

pub returns : goal.returns
returns c = reach c.stored_by_parts.ensures c.paths_have_one_text.ensures
