use Rattle.std.proofs.Common.{drop}
use Rattle.jtree.specs.View.{members_of}
use Rattle.plan.specs.Internal.PathLists.{LeadsTo}
use Rattle.plan.proofs.PoolPathLemmas.{IsAsRest}
use Rattle.plan.proofs.pool_paths.first_bad_name.Given as goal

-- the names so far are good
abbrev pub invariant-loop-member : goal.invariant-loop-member
invariant-loop-member l = IsAsRest (LeadsTo l.to l.schema) (members_of (drop l.member-index l.member-items)) (members_of l.member-items)
