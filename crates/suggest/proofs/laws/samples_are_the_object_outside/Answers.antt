use Rattle.suggest.proofs.VariedSampleLemmas.{same_outside}
use Rattle.suggest.proofs.laws.samples_are_the_object_outside.Goals as goal

pub returns : goal.returns
returns c = same_outside c.stored_by_parts.ensures c.paths_have_one_text.ensures
