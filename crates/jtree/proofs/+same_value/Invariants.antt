use Rattle.std.proofs.Common.{◌≡◌, drop}
use Rattle.jtree.specs.SameValue.{same_values, same_members}
use Rattle.jtree.specs.View.{items_of, members_of}
use Rattle.jtree.proofs.+same_value.Given as goal

abbrev pub invariant-same_value::have_values_of-loop-i : goal.invariant-same_value::have_values_of-loop-i
invariant-same_value::have_values_of-loop-i l = same_values (items_of (drop l.i l.left)) (items_of (drop l.i l.right)) ≡ same_values (items_of l.left) (items_of l.right)

abbrev pub invariant-same_value::are_members_of-loop-i : goal.invariant-same_value::are_members_of-loop-i
invariant-same_value::are_members_of-loop-i l = same_members (members_of (drop l.i l.left)) (members_of (drop l.i l.right)) ≡ same_members (members_of l.left) (members_of l.right)
