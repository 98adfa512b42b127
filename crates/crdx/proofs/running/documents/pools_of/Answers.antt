use Rattle.std.proofs.Common.{subst}
use Rattle.jtree.specs.View.{data_of}
use Rattle.plan.specs.Pools.PoolsFault.{IsPoolsFaultBy}
use Rattle.crdx.specs.Program.Requested.{numbers_of, pool_limits_of}
use Rattle.crdx.proofs.RunLemmas.{cause_of_pools_fault}
use Rattle.crdx.proofs.running.documents.pools_of.Goals as goal

pub returns-in-Err-clause-cause : goal.returns-in-Err-clause-cause
returns-in-Err-clause-cause g c =
    let profile = c.args.arguments.now.common.profile in
    let limits = pool_limits_of c.args.arguments.now.common in
    let document = data_of c.in_ok-document.document in
    let fault = subst (λ l. IsPoolsFaultBy profile l document c.in-Err.fault) c.pool_limits_of-limits.ensures c.in-Err.ensures.err in
    rw (c.into.ensures, c.in-Some.is) (cause_of_pools_fault (g.I.Inputs.has c.args.inputs.now (numbers_of c.args.arguments.now.common)) (g.I.Inputs.failures c.args.inputs.now) (g.I.Inputs.failures c.read_document.new.inputs) profile limits c.in-Some.name
    document _ c.in_ok-document.ensures.ok fault)
