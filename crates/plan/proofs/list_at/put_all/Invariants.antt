use Rattle.std.proofs.Common.{◌≡◌, vec_len}
use Rattle.plan.specs.Pools.Along.{with_lists, lists_of}
use Rattle.plan.proofs.list_at.put_all.Given as goal

abbrev pub invariant-loop-change : goal.invariant-loop-change
invariant-loop-change l = record {
  lists : with_lists (lists_of l.changes.items) l.lists ≡ with_lists (lists_of l.fn.changes.items) l.fn.lists;
  back : with_lists (lists_of l.old.items) l.lists ≡ l.fn.lists;
}

abbrev pub decreases-loop-change : goal.decreases-loop-change
decreases-loop-change l = vec_len l.changes
