use Rattle.plan.proofs.WordLemmas.{one_bits}
use Rattle.plan.proofs.word.U64SizeSet.one.Goals as goal

pub returns : goal.returns
returns c = one_bits 64 c.args.n c.requires
