use Rattle.cluster.proofs.PrunedAgain.{only_kept}
use Rattle.cluster.proofs.laws.only_declared_members_are_left.Goals as goal

pub returns : goal.returns
returns c = only_kept
