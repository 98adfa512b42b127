use Rattle.plan.specs.Pools.Along.{with_lists, lists_of}
use Rattle.plan.proofs.ListAtLemmas.{put_one}
use Rattle.plan.proofs.list_at.put_all.Goals as goal

pub loop-change-preserved : goal.loop-change-preserved
loop-change-preserved c =
    let inv = c.loop-change.invariant in
    let all = with_lists (lists_of c.args.changes.items) c.args.lists in
    let r = put_one c.loop-change.changes.items c.loop-change.old.items c.pop.new.self.items c.in-Some.change c.in_ok-new.was' c.loop-change.lists c.in_ok-new.new c.args.lists all c.reveal_invariant.ensures c.in-Some.ensures.items c.in_ok-new.ensures.lists c.in_ok-new.ensures.old inv.lists inv.back in
    record { lists = r.0; back = rw c.in_ok-push.ensures.items r.1 }
