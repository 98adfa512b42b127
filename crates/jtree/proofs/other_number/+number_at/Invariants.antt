use Rattle.std.proofs.Common.{length}
use Rattle.jtree.proofs.other_number.+number_at.Given as goal

abbrev pub decreases-number_at : goal.decreases-number_at
decreases-number_at l = length l.path.now
