use Rattle.std.proofs.Common.{◌≡◌, ◌++◌, drop}
use Rattle.jtree.specs.View.{members_of}
use Rattle.suggest.specs.View.{trees_at}
use Rattle.suggest.specs.Suggested.ValuesBelow.{trees_of}
use Rattle.suggest.proofs.values_below.push_values.Given as goal

abbrev pub invariant-loop-member : goal.invariant-loop-member
invariant-loop-member l = trees_at l.below.items ++ trees_of (members_of (drop l.member-index l.member-items)) ≡ trees_at l.initial.below.items ++ trees_of (members_of l.member-items)
