use Rattle.schema.proofs.NamedLemmas.{too_many}
use Rattle.schema.proofs.rules.junctors.names_too_many.Goals as goal

pub returns : goal.returns
returns c = too_many c.args.schema.now _ c.reveal_invariant.ensures c.has_fifth_name.ensures
