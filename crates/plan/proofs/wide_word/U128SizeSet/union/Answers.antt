use Rattle.plan.proofs.WordLemmas.{union_bits}
use Rattle.plan.proofs.wide_word.U128SizeSet.union.Goals as goal

pub returns : goal.returns
returns c = union_bits 128 c.args.self c.args.other
