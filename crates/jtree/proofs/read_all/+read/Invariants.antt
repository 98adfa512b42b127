use Rattle.std.proofs.Common.{◌≡◌, ◌≤◌, length, take, drop, Some}
use Rattle.std.specs.Prelude.{vec_len, vec_capacity}
use Rattle.json.specs.Value.{items_view, members_view}
use Rattle.jtree.specs.Data.{AreTrees, AreMembers, no_members}
use Rattle.jtree.specs.ReadsAll.{items_in, members_in}
use Rattle.jtree.specs.View.{items_of}
use Rattle.jtree.specs.Internal.Entries.{members_of_entries}
use Rattle.jtree.proofs.read_all.+read.Given as goal

abbrev pub invariant-read_items-loop-value : goal.invariant-read_items-loop-value
invariant-read_items-loop-value l = record {
  read : items_in (items_view (take l.value-index l.value-items)) ≡ Some (items_of l.items.items);
  trees : AreTrees (items_of l.items.items);
  count : vec_len l.items ≡ l.value-index;
  room : length l.value-items ≤ vec_capacity l.items;
}

abbrev pub invariant-read_members-loop-name : goal.invariant-read_members-loop-name
invariant-read_members-loop-name l = record {
  read : members_in (members_view (drop l.name-index l.name-items)) (members_of_entries l.map.entries) ≡ members_in (members_view l.name-items) no_members;
  trees : AreMembers (members_of_entries l.map.entries);
}
