use Rattle.std.proofs.Common.{◌≡◌, List, ◌++◌, take, true}
use Rattle.std.specs.Prelude.{is_some}
use Rattle.serde_json.specs.View.{items_view, members_view}
use Rattle.serde_json.proofs.Views.{Entry}
use Rattle.jtree.specs.Reads.{items_tree, members_tree}
use Rattle.jtree.proofs.other_number.+find.Given as goal

abbrev pub invariant-find_in_items-loop-index : goal.invariant-find_in_items-loop-index
invariant-find_in_items-loop-index l = is_some (items_tree (items_view (take l.index l.value-items))) ≡ true

abbrev pub invariant-find_in_members-loop-key : goal.invariant-find_in_members-loop-key
invariant-find_in_members-loop-key l = record {
  done : List Entry;
  entries : l.map.entries ≡ done ++ l.key-iterator;
  read : is_some (members_tree (members_view done)) ≡ true;
}
