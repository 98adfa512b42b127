use Rattle.std.proofs.Common.{◌≡◌, inl, inr, subst, string_bytes}
use Rattle.std.proofs.lemmas.Result.{IfOk-weaker, IfErr-weaker}
use Rattle.crdx.specs.Internal.Cause.{IsSuggestionCause}
use Rattle.crdx.specs.Program.RunResult.{no_pools, pools_line}
use Rattle.crdx.specs.declared.arguments.request.Request.TheVariants.{SuggestPools}
use Rattle.crdx.proofs.PoolsLemmas.{wanted_before, suggestion_before}
use Rattle.crdx.proofs.RunLemmas.{input_of_schema}
use Rattle.crdx.proofs.running.suggesting.suggest_pools.Goals as goal

pub returns-in-Err-clause-cause : goal.returns-in-Err-clause-cause
returns-in-Err-clause-cause g c =
    let arguments = c.args.arguments.now in
    inl (input_of_schema (g.I.Inputs.has c.args.inputs.now) (g.I.Inputs.failures c.args.inputs.now) (g.I.Inputs.failures c.read_definition.new.inputs) arguments.common (SuggestPools arguments)
    (no_pools arguments) c.in-Err.refusal.cause (λ r. r) (inl c.in-Err.ensures.cause))

pub returns-in-Err-accept_written-clause-cause : goal.returns-in-Err-accept_written-clause-cause
returns-in-Err-accept_written-clause-cause g c =
    let arguments = c.args.arguments.now in
    let crd = c.in-Ok.definition.crd in
    inl (input_of_schema (g.I.Inputs.has c.args.inputs.now) (g.I.Inputs.failures c.args.inputs.now) (g.I.Inputs.failures c.read_definition.new.inputs) arguments.common (SuggestPools arguments)
    (no_pools arguments) c.in-Err-accept_written.cause (λ r. r) (inr (crd.raw, (crd.group, (crd.kind, c.in-Ok.ensures.ok.0)), c.in-Err-accept_written.ensures.cause)))

pub returns-clause-answer : goal.returns-clause-answer
returns-clause-answer g c =
    let arguments = c.args.arguments.now in
    let crd = c.in-Ok.definition.crd in
    let written = c.in-Ok-accept_written.ensures in
    let N = c.in-Ok-accept_written.written.schema in
    IfOk-weaker c.suggest_at.result _ _ (λ a said. (
      crd.raw,
      N,
      said.0,
      record {
        schema = record { asked = (crd.group, (crd.kind, c.in-Ok.ensures.ok.0)); unbroken = written.unbroken.0 };
        root = written.unbroken.1;
        wanted = wanted_before (g.I.Inputs.lines c.args.inputs.now) (g.I.Inputs.lines c.read_definition.new.inputs) c.in-Ok.ensures.lines arguments said.0 said.1;
      },
      subst (λ raw. string_bytes a.out ≡ pools_line arguments raw N said.0) written.raw said.2,
    )) c.suggest_at.ensures.answer

pub returns-clause-cause : goal.returns-clause-cause
returns-clause-cause g c =
    let arguments = c.args.arguments.now in
    let crd = c.in-Ok.definition.crd in
    let written = c.in-Ok-accept_written.ensures in
    let N = c.in-Ok-accept_written.written.schema in
    let later = g.I.Inputs.lines c.read_definition.new.inputs in
    let unread = g.I.Inputs.failures c.args.inputs.now in
    let read = g.I.Inputs.failures c.suggest_at.new.inputs in
    IfErr-weaker c.suggest_at.result _ _ (λ r why. inr (
      crd.raw,
      N,
      record { asked = (crd.group, (crd.kind, c.in-Ok.ensures.ok.0)); unbroken = written.unbroken.0 },
      written.unbroken.1,
      suggestion_before (g.I.Inputs.lines c.args.inputs.now) later c.in-Ok.ensures.lines arguments unread read crd.raw.tree N r.cause (subst (λ n. IsSuggestionCause later n read arguments crd.raw.tree N r.cause) c.in-Ok.ensures.unfailed
          (subst (λ raw. IsSuggestionCause later (g.I.Inputs.failures c.read_definition.new.inputs) read arguments raw N r.cause) written.raw why)),
    )) c.suggest_at.ensures.cause
