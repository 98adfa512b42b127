use Rattle.std.proofs.Common.{◌≡◌, drop}
use Rattle.jtree.specs.View.{members_of}
use Rattle.cluster.specs.Filled.{with_each_default}
use Rattle.cluster.proofs.filling.add_each.Given as goal

abbrev pub invariant-loop-property : goal.invariant-loop-property
invariant-loop-property l = with_each_default (members_of (drop l.property-index l.property-items)) l.members ≡ with_each_default l.properties l.initial.members
