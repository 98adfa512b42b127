use Rattle.std.proofs.Common.{◌≡◌, ◌++◌, drop}
use Rattle.jtree.specs.View.{members_of}
use Rattle.suggest.specs.Suggested.ValuesBelow.{names_of}
use Rattle.suggest.proofs.values_below.push_names_of.Given as goal

abbrev pub invariant-loop-member : goal.invariant-loop-member
invariant-loop-member l = l.names.items ++ names_of (members_of (drop l.member-index l.member-items)) ≡ l.initial.names.items ++ names_of (members_of l.member-items)
