use Rattle.schema.proofs.ReasonLaw.{exactly}
use Rattle.schema.proofs.laws.broken_for_a_reason.Goals as goal

pub returns : goal.returns
returns c = exactly
