use Rattle.std.proofs.Common.{◌≡◌, drop}
use Rattle.jtree.specs.View.{members_of}
use Rattle.plan.specs.Internal.PathLists.{long_list}
use Rattle.plan.proofs.pool_sizes.long_list.Given as goal

abbrev pub invariant-loop-member : goal.invariant-loop-member
invariant-loop-member l = long_list l.most (members_of (drop l.member-index l.lists)) ≡ long_list l.most (members_of l.lists)
