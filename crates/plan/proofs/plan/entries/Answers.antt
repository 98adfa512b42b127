use Rattle.std.proofs.Common.{arith, [], None}
use Rattle.plan.specs.Internal.Building.{IsBuilt}
use Rattle.plan.proofs.SoundLemmas.{schema_sound}
use Rattle.plan.proofs.PlanLemmas.{plan_made}
use Rattle.plan.proofs.plan.entries.Goals as goal

pub returns-clause-limit : goal.returns-clause-limit
returns-clause-limit g c = c.in_ok-root.ensures.kept.1

pub returns-clause-made : goal.returns-clause-made
returns-clause-made g c =
    let holds = g.Z.SizeSet.holds in
    let v = c.in_ok-new.field-0 in
    let es = c.build.new.arena.entries.items in
    let sound = (schema_sound c.schemas_are_sound.ensures c.args.schema.now c.root.ensures.schema).1 in
    let built : IsBuilt holds c.args.limit c.args.pools.now v [] es None [] c.args.schema.now [] c.in_ok-root.root = rw (c.new-2.ensures.items, c.root.ensures.node) at c.in_ok-root.ensures.built in
    rw c.in_ok-root.ensures.kept.0
    (plan_made holds g.Z.SizeSet.BITS c.args.schema.now c.args.pools.now c.args.limit v es c.in_ok-root.root (omega (arith, c.BITS.ensures, c.if-limit-BITS.false)) (omega arith) c.in_ok-new.ensures sound built)
