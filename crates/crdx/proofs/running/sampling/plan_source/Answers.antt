use Rattle.std.proofs.Common.{refl, subst}
use Rattle.std.proofs.lemmas.Result.{IfOk-weaker, IfErr-weaker}
use Rattle.crdx.specs.Internal.Cause.{IsPoolsCause}
use Rattle.crdx.specs.Program.Requested.{numbers_of, pool_limits_of}
use Rattle.crdx.proofs.RunLemmas.{input_of_schema, requested_root, pools_input, pools_before, plan_input, no_plan, refused_plan}
use Rattle.crdx.proofs.running.sampling.plan_source.Goals as goal

pub returns-in-Err-clause-cause : goal.returns-in-Err-clause-cause
returns-in-Err-clause-cause g c = λ request of.
    let arguments = c.args.arguments.now in
    let has = g.I.Inputs.has c.args.inputs.now in
    input_of_schema has (g.I.Inputs.failures c.args.inputs.now) (g.I.Inputs.failures c.accepted_schema.new.inputs) arguments.common request
    (no_plan has arguments request of) c.in-Err.refusal.cause (refused_plan has arguments request of) c.in-Err.ensures.cause

pub returns-in-Err-pools_of-clause-cause : goal.returns-in-Err-pools_of-clause-cause
returns-in-Err-pools_of-clause-cause g c =
    let arguments = c.args.arguments.now in
    let (raw, asked, unbroken, nodes) = c.in-Ok.ensures.accepted in
    let later = g.I.Inputs.has c.accepted_schema.new.inputs in
    let read = g.I.Inputs.failures c.pools_of.new.inputs in
    let cause = c.in-Err-pools_of.refusal.cause in
    let why = subst (λ n. IsPoolsCause (later (numbers_of arguments.common)) n read arguments.common.profile (pool_limits_of arguments.common) arguments.pools cause) c.in-Ok.ensures.unfailed c.in-Err-pools_of.ensures.cause in
    pools_input (g.I.Inputs.has c.args.inputs.now) later (g.I.Inputs.failures c.args.inputs.now) read arguments cause c.in-Ok.ensures.stays
    (raw, record { asked = (c.in-Ok.accepted.group, (c.in-Ok.accepted.kind, asked)); unbroken = unbroken }) why

pub returns-in-Ok-pools_of-clause-requested : goal.returns-in-Ok-pools_of-clause-requested
returns-in-Ok-pools_of-clause-requested g c =
    let arguments = c.args.arguments.now in
    let (raw, asked, unbroken, nodes) = c.in-Ok.ensures.accepted in
    let pools = pools_before (g.I.Inputs.has c.args.inputs.now) (g.I.Inputs.has c.accepted_schema.new.inputs) (numbers_of arguments.common) arguments.common.profile (pool_limits_of arguments.common) arguments.pools c.in-Ok-pools_of.read.pools c.in-Ok.ensures.stays c.in-Ok-pools_of.ensures.ok in
    IfOk-weaker c.source_of.result _ _ (λ a is. rw is.0 (record {
      group = c.in-Ok.accepted.group;
      kind = c.in-Ok.accepted.kind;
      raw = raw;
      asked = asked;
      unbroken = unbroken;
      root = nodes;
      pools = pools;
      paths = is.1;
      limit = refl;
      envelope = is.2;
    })) c.source_of.ensures.ok

pub returns-in-Ok-pools_of-clause-cause : goal.returns-in-Ok-pools_of-clause-cause
returns-in-Ok-pools_of-clause-cause g c =
    let has = g.I.Inputs.has c.args.inputs.now in
    let arguments = c.args.arguments.now in
    let accepted = c.in-Ok.accepted in
    let pools = pools_before has (g.I.Inputs.has c.accepted_schema.new.inputs) (numbers_of arguments.common) arguments.common.profile (pool_limits_of arguments.common) arguments.pools c.in-Ok-pools_of.read.pools c.in-Ok.ensures.stays c.in-Ok-pools_of.ensures.ok in
    let root = requested_root has arguments.common accepted.group accepted.kind accepted.schema c.in-Ok.ensures.accepted in
    IfErr-weaker c.source_of.result _ _ (λ r. plan_input has (g.I.Inputs.failures c.args.inputs.now) (g.I.Inputs.failures c.pools_of.new.inputs) arguments accepted.schema c.in-Ok-pools_of.read.pools
    (record { root = root; pools = pools }) r.cause) c.source_of.ensures.cause
