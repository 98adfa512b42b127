use Rattle.std.proofs.Common.{arith}
use Rattle.plan.proofs.RenewLemmas.{must_set, must_past}
use Rattle.plan.proofs.renewing.with_must.Goals as goal

pub returns-then-place-len : goal.returns-then-place-len
returns-then-place-len c = must_set c.args.must c.args.slots.items c.args.place c.index_mut.result.now (omega (arith, c.len.ensures)) c.index_mut.ensures.value

pub returns-else-place-len : goal.returns-else-place-len
returns-else-place-len c = must_past c.args.must c.args.slots.items c.args.place (omega (arith, c.len.ensures))
