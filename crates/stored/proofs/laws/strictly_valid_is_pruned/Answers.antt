use Rattle.stored.proofs.DroppedLemmas.{by_pruning}
use Rattle.stored.proofs.laws.strictly_valid_is_pruned.Goals as goal

pub returns : goal.returns
returns c = by_pruning
