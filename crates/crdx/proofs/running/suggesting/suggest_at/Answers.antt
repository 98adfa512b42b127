use Rattle.std.proofs.Common.{inl, inr, refl, subst, map, ◌∙◌}
use Rattle.crdx.specs.Internal.Cause.{IsObjectInputCause}
use Rattle.jtree.specs.View.{data_of}
use Rattle.crdx.specs.Program.Requested.{numbers_of}
use Rattle.crdx.specs.Program.Objects.{AreObjects, HasInput}
use Rattle.crdx.proofs.PoolsLemmas.{pools_line_as, suggest_fault_as}
use Rattle.crdx.proofs.running.suggesting.suggest_at.Goals as goal

pub returns-in-Err-clause-cause : goal.returns-in-Err-clause-cause
returns-in-Err-clause-cause g c =
    inl (subst (λ ws. IsObjectInputCause (numbers_of c.args.arguments.now.common) (HasInput (g.I.Inputs.lines c.args.inputs.now) (map (λ w. w.now) ws)) (g.I.Inputs.failures c.args.inputs.now) (g.I.Inputs.failures c.read_objects.new.inputs) c.in-Err.refusal.cause)
    c.as_slice.ensures.value c.in-Err.ensures.cause)

pub returns-in-Ok-suggested_line-clause-answer : goal.returns-in-Ok-suggested_line-clause-answer
returns-in-Ok-suggested_line-clause-answer g c =
    let arguments = c.args.arguments.now in
    let at_hand = g.I.Inputs.lines c.args.inputs.now in
    let words = subst (λ ws. AreObjects (numbers_of arguments.common) at_hand (map (λ w. w.now) ws) (map data_of c.in-Ok.objects.items)) c.as_slice.ensures.value c.in-Ok.ensures.objects in (
      record { objects = map data_of c.in-Ok.objects.items; varied = map (λ s. s.now) arguments.varied.items; without = map (λ s. s.now) arguments.without.items },
      record { objects = words; varied = refl; without = refl },
      c.in-Ok-suggested_line.ensures.text ∙ pools_line_as arguments (data_of c.args.written.raw) c.args.written.schema c.pool_limits_of-limits.result c.in-Ok.objects.items c.as_slice-2.result.now
          arguments.varied.items c.as_slice-3.result.now arguments.without.items c.as_slice-4.result.now c.pool_limits_of-limits.ensures c.as_slice-2.ensures.value c.as_slice-3.ensures.value c.as_slice-4.ensures.value,
    )

pub returns-clause-cause : goal.returns-clause-cause
returns-clause-cause g c =
    let arguments = c.args.arguments.now in
    let at_hand = g.I.Inputs.lines c.args.inputs.now in
    let words = subst (λ ws. AreObjects (numbers_of arguments.common) at_hand (map (λ w. w.now) ws) (map data_of c.in-Ok.objects.items)) c.as_slice.ensures.value c.in-Ok.ensures.objects in
    inr (
      record { objects = map data_of c.in-Ok.objects.items; varied = map (λ s. s.now) arguments.varied.items; without = map (λ s. s.now) arguments.without.items },
      c.in-Err-suggested_line.fault,
      record { objects = words; varied = refl; without = refl },
      suggest_fault_as arguments (data_of c.args.written.raw) c.args.written.schema c.pool_limits_of-limits.result c.in-Ok.objects.items c.as_slice-2.result.now
          arguments.varied.items c.as_slice-3.result.now arguments.without.items c.as_slice-4.result.now c.in-Err-suggested_line.fault
          c.pool_limits_of-limits.ensures c.as_slice-2.ensures.value c.as_slice-3.ensures.value c.as_slice-4.ensures.value c.in-Err-suggested_line.ensures.err,
      c.into.ensures,
    )
