use Rattle.std.proofs.Common.{refl}
use Rattle.crdx.specs.declared.arguments.request.Request.TheVariants.{Sample}
use Rattle.crdx.proofs.RunLemmas.{after_input}
use Rattle.crdx.proofs.running.sampling.sample_source.Goals as goal

pub returns-in-Err-clause-cause : goal.returns-in-Err-clause-cause
returns-in-Err-clause-cause g c = c.in-Err.ensures.cause (Sample c.args.arguments.now) refl

pub returns-in-Err-after_of-clause-cause : goal.returns-in-Err-after_of-clause-cause
returns-in-Err-after_of-clause-cause g c =
    let arguments = c.args.arguments.now in
    let source = c.in-Ok.source in
    after_input (g.I.Inputs.has c.args.inputs.now) (g.I.Inputs.failures c.args.inputs.now) (g.I.Inputs.failures c.plan_source.new.inputs) arguments source.plan source.envelope c.in-Ok.ensures.requested
    arguments.after c.in-Err-after_of.refusal.cause refl c.in-Err-after_of.ensures.cause
