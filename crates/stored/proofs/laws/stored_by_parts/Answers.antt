use Rattle.stored.proofs.StoredLemmas.{by_parts, from_parts}
use Rattle.stored.proofs.laws.stored_by_parts.Goals as goal

pub returns : goal.returns
returns c = λ N v. (by_parts N v, from_parts N v)
