use Rattle.cover.proofs.CoverLemmas.{is_cover}
use Rattle.cover.proofs.laws.lines_cover.Goals as goal

pub returns : goal.returns
returns c = is_cover
