use Rattle.std.proofs.Common.{◌≡◌, ◌≤◌, List, length, ◌++◌, take, Some}
use Rattle.std.specs.Prelude.{vec_len, vec_capacity}
use Rattle.serde_json.specs.View.{items_view, members_view}
use Rattle.serde_json.proofs.Views.{Entry}
use Rattle.jtree.specs.Data.{AreTrees}
use Rattle.jtree.specs.Reads.{items_tree, members_tree}
use Rattle.jtree.specs.View.{items_of, members_of}
use Rattle.jtree.proofs.Reading.{HaveTrees}
use Rattle.jtree.proofs.read.+read.Given as goal

abbrev pub invariant-read_items-loop-value : goal.invariant-read_items-loop-value
invariant-read_items-loop-value l = record {
  read : items_tree (items_view (take l.value-index l.value-items)) ≡ Some (items_of l.items.items);
  trees : AreTrees (items_of l.items.items);
  count : vec_len l.items ≡ l.value-index;
  room : length l.value-items ≤ vec_capacity l.items;
}

abbrev pub invariant-read_members-loop-key : goal.invariant-read_members-loop-key
invariant-read_members-loop-key l = record {
  done : List Entry;
  entries : l.map.entries ≡ done ++ l.key-iterator;
  read : members_tree (members_view done) ≡ Some (members_of l.members.items);
  trees : HaveTrees (members_of l.members.items);
  count : vec_len l.members ≡ length done;
  room : length l.map.entries ≤ vec_capacity l.members;
}
