use Rattle.std.proofs.Common.{length}
use Rattle.cover.proofs.narrowing.+push_lists.Given as goal

abbrev pub decreases-push_lists : goal.decreases-push_lists
decreases-push_lists l = length l.steps.now
