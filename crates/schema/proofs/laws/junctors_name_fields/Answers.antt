use Rattle.schema.proofs.JunctorLemmas.{sound_junctors_at}
use Rattle.schema.proofs.laws.junctors_name_fields.Goals as goal

pub returns : goal.returns
returns c = sound_junctors_at
