use Rattle.plan.proofs.PartLemmas.{part_laws}
use Rattle.plan.proofs.laws.parts_one_level.Goals as goal

pub returns : goal.returns
returns c = part_laws c.stored_by_parts.ensures
