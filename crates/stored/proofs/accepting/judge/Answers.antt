use Rattle.stored.proofs.DefaultListLemmas.{refusal_from}
use Rattle.stored.proofs.accepting.judge.Goals as goal

pub returns-in-Err-clause-refused : goal.returns-in-Err-clause-refused
returns-in-Err-clause-refused c = refusal_from c.args.raw.now c.in-Err.refused c.in-Err.ensures.refused
