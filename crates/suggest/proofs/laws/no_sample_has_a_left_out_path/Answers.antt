use Rattle.suggest.proofs.LeftOutLemmas.{none_has}
use Rattle.suggest.proofs.laws.no_sample_has_a_left_out_path.Goals as goal

pub returns : goal.returns
returns c = none_has c.paths_have_one_text.ensures
