use Rattle.std.proofs.Common.{◌≡◌, List, ◌++◌}
use Rattle.jtree.specs.Internal.Entries.{Entry, members_of_entries}
use Rattle.jtree.specs.View.{members_of}
use Rattle.jtree.proofs.read_all.members_from.Given as goal

abbrev pub invariant-loop-name : goal.invariant-loop-name
invariant-loop-name l = record {
  done : List Entry;
  entries : l.fn.map.entries ≡ done ++ l.name-iterator;
  read : members_of_entries done ≡ members_of l.members.items;
}
