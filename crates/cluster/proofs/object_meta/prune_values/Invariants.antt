use Rattle.std.proofs.Common.{◌≡◌, ◌++◌, map, take, drop}
use Rattle.cluster.specs.Internal.Trees.{meta_member}
use Rattle.cluster.proofs.object_meta.prune_values.Given as goal

abbrev pub invariant-loop-member : goal.invariant-loop-member
invariant-loop-member l = l.member-items ≡ map meta_member (take l.member-index l.initial.member-items) ++ drop l.member-index l.initial.member-items
