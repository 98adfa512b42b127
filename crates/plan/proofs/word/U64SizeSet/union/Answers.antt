use Rattle.plan.proofs.WordLemmas.{union_bits}
use Rattle.plan.proofs.word.U64SizeSet.union.Goals as goal

pub returns : goal.returns
returns c = union_bits 64 c.args.self c.args.other
