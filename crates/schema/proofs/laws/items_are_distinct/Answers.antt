use Rattle.schema.proofs.ItemLemmas.{sound_items_at}
use Rattle.schema.proofs.laws.items_are_distinct.Goals as goal

pub returns : goal.returns
returns c = sound_items_at
