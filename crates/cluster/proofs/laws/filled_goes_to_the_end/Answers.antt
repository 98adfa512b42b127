use Rattle.cluster.proofs.FilledTrees.{filled_schema, filled_other}
use Rattle.cluster.proofs.laws.filled_goes_to_the_end.Goals as goal

pub returns : goal.returns
returns c = record { schema = filled_schema; other = filled_other }
