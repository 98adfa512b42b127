use Rattle.std.proofs.Common.{length}
use Rattle.crdx.proofs.arguments.conflicts.+is_read_again.Given as goal

abbrev pub decreases-is_read_again : goal.decreases-is_read_again
decreases-is_read_again l = length l.words.now
