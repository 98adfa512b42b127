use Rattle.crdx.proofs.RunLemmas.{cause_of_plan_fault}
use Rattle.crdx.proofs.running.sampling.source_of.Goals as goal

pub returns-clause-cause : goal.returns-clause-cause
returns-clause-cause g c =
    rw c.into.ensures (cause_of_plan_fault c.args.accepted.schema c.args.read.pools c.args.arguments.now.limit g.Z.SizeSet.BITS c.in-Err.fault c.args.arguments.now.limit_least c.requires c.in-Err.ensures.err)
