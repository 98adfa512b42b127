use Rattle.stored.proofs.OneTree.{becomes_one, completed_one}
use Rattle.stored.proofs.laws.becomes_one_tree.Goals as goal

pub returns : goal.returns
returns c = record { becomes = becomes_one; completed = completed_one }
