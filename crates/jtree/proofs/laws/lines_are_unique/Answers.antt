use Rattle.jtree.proofs.LineLemmas.{same_lines}
use Rattle.jtree.proofs.laws.lines_are_unique.Goals as goal

pub returns : goal.returns
returns c = same_lines
