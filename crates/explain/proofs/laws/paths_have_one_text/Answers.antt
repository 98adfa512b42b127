use Rattle.explain.proofs.LetterLemmas.{one_path}
use Rattle.explain.proofs.laws.paths_have_one_text.Goals as goal

pub returns : goal.returns
returns c = one_path
