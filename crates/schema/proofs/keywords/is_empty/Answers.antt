use Rattle.schema.proofs.RuleLemmas.{some_trees}
use Rattle.schema.proofs.keywords.is_empty.Goals as goal

pub returns-in_default : goal.returns-in_default
returns-in_default c = some_trees c.args.trees.now c.in_default.len_at_least
