use Rattle.schema.proofs.OneNode.{one_node}
use Rattle.schema.proofs.laws.nodes_are_unique.Goals as goal

pub returns : goal.returns
returns c = λ N M raw root. one_node raw.profile N M raw.tree root
