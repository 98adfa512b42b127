use Rattle.std.proofs.Common.{arith}
use Rattle.plan.proofs.PlanLemmas.{entry_right, none_more}
use Rattle.plan.proofs.plan.Plan.more.Goals as goal

pub returns-else-taken-len : goal.returns-else-taken-len
returns-else-taken-len g c =
    let holds = g.Z.SizeSet.holds in
    let r = entry_right holds g.Z.SizeSet.BITS c.self.inside.schema c.self.inside.pools c.self.inside.arena.limit c.self.inside.arena.values c.self.inside.arena.entries.items c.self.inside.root c.args.self.now c.args.node c.entry.result.now c.self.invariant c.self.view_is c.requires.node c.entry.ensures in
    let l = rw c.in-List.is at r.content in
    none_more c.args.self.now.limit c.args.self.now.pools _ c.args.taken (holds c.empty.result) (omega (arith, l.whole, c.len.ensures, c.if-taken-len.false)) c.empty.ensures
