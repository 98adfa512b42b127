mod next_part
mod next_row
mod next_members
mod next_at_slot
mod next_filled_slot
mod next_member
mod next_value
mod next_list
mod next_items
mod next_item
use Rattle.enumerate.proofs.walk.Walk.+next.Goals as goal

pub next_part-next_row-requires : goal.next_part-next_row-requires
next_part-next_row-requires = next_part.next_row-requires

pub next_part-next_list-requires : goal.next_part-next_list-requires
next_part-next_list-requires = next_part.next_list-requires

pub next_part-returns-in_default : goal.next_part-returns-in_default
next_part-returns-in_default = next_part.returns-in_default

pub next_part-returns-in-Row : goal.next_part-returns-in-Row
next_part-returns-in-Row = next_part.returns-in-Row

pub next_part-returns-in-Leaf : goal.next_part-returns-in-Leaf
next_part-returns-in-Leaf = next_part.returns-in-Leaf

pub next_row-unreachable-requires : goal.next_row-unreachable-requires
next_row-unreachable-requires = next_row.unreachable-requires

pub next_row-next_members-requires : goal.next_row-next_members-requires
next_row-next_members-requires = next_row.next_members-requires

pub next_row-returns-in_err-depth : goal.next_row-returns-in_err-depth
next_row-returns-in_err-depth = next_row.returns-in_err-depth

pub next_row-invariant_of-result : goal.next_row-invariant_of-result
next_row-invariant_of-result = next_row.invariant_of-result

pub next_row-returns-in-Made : goal.next_row-returns-in-Made
next_row-returns-in-Made = next_row.returns-in-Made

pub next_row-returns-in-Last : goal.next_row-returns-in-Last
next_row-returns-in-Last = next_row.returns-in-Last

pub next_members-loop-place-init : goal.next_members-loop-place-init
next_members-loop-place-init = next_members.loop-place-init

pub next_members-next_at_slot-requires : goal.next_members-next_at_slot-requires
next_members-next_at_slot-requires = next_members.next_at_slot-requires

pub next_members-returns-in-Made : goal.next_members-returns-in-Made
next_members-returns-in-Made = next_members.returns-in-Made

pub next_members-returns-in_err-depth : goal.next_members-returns-in_err-depth
next_members-returns-in_err-depth = next_members.returns-in_err-depth

pub next_members-loop-place-preserved : goal.next_members-loop-place-preserved
next_members-loop-place-preserved = next_members.loop-place-preserved

pub next_members-returns : goal.next_members-returns
next_members-returns = next_members.returns

pub next_at_slot-next_filled_slot-requires : goal.next_at_slot-next_filled_slot-requires
next_at_slot-next_filled_slot-requires = next_at_slot.next_filled_slot-requires

pub next_at_slot-returns : goal.next_at_slot-returns
next_at_slot-returns = next_at_slot.returns

pub next_filled_slot-unreachable-requires : goal.next_filled_slot-unreachable-requires
next_filled_slot-unreachable-requires = next_filled_slot.unreachable-requires

pub next_filled_slot-overflow_cast-len : goal.next_filled_slot-overflow_cast-len
next_filled_slot-overflow_cast-len = next_filled_slot.overflow_cast-len

pub next_filled_slot-returns-then-is_last_key : goal.next_filled_slot-returns-then-is_last_key
next_filled_slot-returns-then-is_last_key = next_filled_slot.returns-then-is_last_key

pub next_filled_slot-prefix_at-requires : goal.next_filled_slot-prefix_at-requires
next_filled_slot-prefix_at-requires = next_filled_slot.prefix_at-requires

pub next_filled_slot-next_member-requires : goal.next_filled_slot-next_member-requires
next_filled_slot-next_member-requires = next_filled_slot.next_member-requires

pub next_filled_slot-returns : goal.next_filled_slot-returns
next_filled_slot-returns = next_filled_slot.returns

pub next_member-returns-in_err-tree : goal.next_member-returns-in_err-tree
next_member-returns-in_err-tree = next_member.returns-in_err-tree

pub next_member-put_member-requires : goal.next_member-put_member-requires
next_member-put_member-requires = next_member.put_member-requires

pub next_member-returns-in_ok-put_member-in-To : goal.next_member-returns-in_ok-put_member-in-To
next_member-returns-in_ok-put_member-in-To = next_member.returns-in_ok-put_member-in-To

pub next_member-grow_larger_members-requires : goal.next_member-grow_larger_members-requires
next_member-grow_larger_members-requires = next_member.grow_larger_members-requires

pub next_member-returns-in-Last : goal.next_member-returns-in-Last
next_member-returns-in-Last = next_member.returns-in-Last

pub next_value-next_key-requires : goal.next_value-next_key-requires
next_value-next_key-requires = next_value.next_key-requires

pub next_value-returns-then-here : goal.next_value-returns-then-here
next_value-returns-then-here = next_value.returns-then-here

pub next_value-next_part-requires : goal.next_value-next_part-requires
next_value-next_part-requires = next_value.next_part-requires

pub next_value-returns : goal.next_value-returns
next_value-returns = next_value.returns

pub next_list-unreachable-requires : goal.next_list-unreachable-requires
next_list-unreachable-requires = next_list.unreachable-requires

pub next_list-returns-then-is_empty : goal.next_list-returns-then-is_empty
next_list-returns-then-is_empty = next_list.returns-then-is_empty

pub next_list-unreachable-requires-in_default-item : goal.next_list-unreachable-requires-in_default-item
next_list-unreachable-requires-in_default-item = next_list.unreachable-requires-in_default-item

pub next_list-next_items-requires : goal.next_list-next_items-requires
next_list-next_items-requires = next_list.next_items-requires

pub next_list-returns-in_err-depth : goal.next_list-returns-in_err-depth
next_list-returns-in_err-depth = next_list.returns-in_err-depth

pub next_list-returns-in-Made : goal.next_list-returns-in-Made
next_list-returns-in-Made = next_list.returns-in-Made

pub next_list-returns-in-Last : goal.next_list-returns-in-Last
next_list-returns-in-Last = next_list.returns-in-Last

pub next_items-loop-item-init : goal.next_items-loop-item-init
next_items-loop-item-init = next_items.loop-item-init

pub next_items-next_item-requires : goal.next_items-next_item-requires
next_items-next_item-requires = next_items.next_item-requires

pub next_items-returns-in_err-next : goal.next_items-returns-in_err-next
next_items-returns-in_err-next = next_items.returns-in_err-next

pub next_items-returns-in-To : goal.next_items-returns-in-To
next_items-returns-in-To = next_items.returns-in-To

pub next_items-grow_larger_items-requires : goal.next_items-grow_larger_items-requires
next_items-grow_larger_items-requires = next_items.grow_larger_items-requires

pub next_items-returns-in_err-depth-in-Last : goal.next_items-returns-in_err-depth-in-Last
next_items-returns-in_err-depth-in-Last = next_items.returns-in_err-depth-in-Last

pub next_items-returns-in-Made : goal.next_items-returns-in-Made
next_items-returns-in-Made = next_items.returns-in-Made

pub next_items-loop-item-preserved : goal.next_items-loop-item-preserved
next_items-loop-item-preserved = next_items.loop-item-preserved

pub next_items-returns : goal.next_items-returns
next_items-returns = next_items.returns

pub next_items-put_item-requires : goal.next_items-put_item-requires
next_items-put_item-requires = next_items.put_item-requires

pub next_item-next_row-requires : goal.next_item-next_row-requires
next_item-next_row-requires = next_item.next_row-requires

pub next_item-next_part-requires : goal.next_item-next_part-requires
next_item-next_part-requires = next_item.next_part-requires

pub next_item-next_unused-requires : goal.next_item-next_unused-requires
next_item-next_unused-requires = next_item.next_unused-requires

pub next_item-returns-in-Free : goal.next_item-returns-in-Free
next_item-returns-in-Free = next_item.returns-in-Free

pub next_item-returns-in-Whole : goal.next_item-returns-in-Whole
next_item-returns-in-Whole = next_item.returns-in-Whole

pub next_item-returns-in-Keys : goal.next_item-returns-in-Keys
next_item-returns-in-Keys = next_item.returns-in-Keys

pub next_member-levels_down-depth-requires : goal.next_member-levels_down-depth-requires
next_member-levels_down-depth-requires = next_member.levels_down-depth-requires

pub next_member-returns-in_err-put_member-in-To : goal.next_member-returns-in_err-put_member-in-To
next_member-returns-in_err-put_member-in-To = next_member.returns-in_err-put_member-in-To

pub next_items-levels_down-depth-requires : goal.next_items-levels_down-depth-requires
next_items-levels_down-depth-requires = next_items.levels_down-depth-requires

pub next_items-returns-in_err-put_item-in-To : goal.next_items-returns-in_err-put_item-in-To
next_items-returns-in_err-put_item-in-To = next_items.returns-in_err-put_item-in-To
