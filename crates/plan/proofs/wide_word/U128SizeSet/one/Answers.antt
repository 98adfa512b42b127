use Rattle.plan.proofs.WordLemmas.{one_bits}
use Rattle.plan.proofs.wide_word.U128SizeSet.one.Goals as goal

pub returns : goal.returns
returns c = one_bits 128 c.args.n c.requires
