use Rattle.std.proofs.Common.{◌≡◌, ◌+◌, ◌*◌, length, drop, option_map}
use Rattle.jtree.specs.View.{data_of, items_of, members_of}
use Rattle.cover.specs.There.{is_there, all_items, all_values}
use Rattle.cover.specs.Internal.Ways.{path_of}
use Rattle.cover.proofs.there.+there.Given as goal

abbrev pub decreases-is_there : goal.decreases-is_there
decreases-is_there l = 2 * length l.steps.now

abbrev pub decreases-is_in_items : goal.decreases-is_in_items
decreases-is_in_items l = 2 * length l.rest.now + 1

abbrev pub decreases-is_in_values : goal.decreases-is_in_values
decreases-is_in_values l = 2 * length l.rest.now + 1

abbrev pub invariant-is_in_items-loop-item : goal.invariant-is_in_items-loop-item
invariant-is_in_items-loop-item l = all_items (is_there (option_map (λ w. data_of w.now) l.value) (path_of l.rest)) (items_of (drop l.item-index l.item-items)) ≡ all_items (is_there (option_map (λ w. data_of w.now) l.value) (path_of l.rest)) (items_of l.item-items)

abbrev pub invariant-is_in_values-loop-member : goal.invariant-is_in_values-loop-member
invariant-is_in_values-loop-member l = all_values (is_there (option_map (λ w. data_of w.now) l.value) (path_of l.rest)) (members_of (drop l.member-index l.member-items)) ≡ all_values (is_there (option_map (λ w. data_of w.now) l.value) (path_of l.rest)) (members_of l.member-items)
