use Rattle.std.specs.Prelude.{true, Some}
use Rattle.cluster.specs.Keywords.{keeps_undeclared}
use Rattle.cluster.proofs.PrunedAgain.{again}
use Rattle.cluster.proofs.laws.pruning_again_changes_nothing.Goals as goal

pub returns : goal.returns
returns c = λ s v. again true (keeps_undeclared (Some s)) (Some s) v
