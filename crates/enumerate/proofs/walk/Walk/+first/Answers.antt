mod first_part
mod first_row
mod first_members
mod grow_members
mod first_value
mod put_member
mod first_list
mod first_items
mod grow_items
mod first_item
use Rattle.enumerate.proofs.walk.Walk.+first.Goals as goal

pub first_part-first_row-requires : goal.first_part-first_row-requires
first_part-first_row-requires = first_part.first_row-requires

pub first_part-first_list-requires : goal.first_part-first_list-requires
first_part-first_list-requires = first_part.first_list-requires

pub first_part-first_unused-requires-clause-free : goal.first_part-first_unused-requires-clause-free
first_part-first_unused-requires-clause-free = first_part.first_unused-requires-clause-free

pub first_part-returns-in_default : goal.first_part-returns-in_default
first_part-returns-in_default = first_part.returns-in_default

pub first_part-returns-in-Row : goal.first_part-returns-in-Row
first_part-returns-in-Row = first_part.returns-in-Row

pub first_part-returns-in-Leaf : goal.first_part-returns-in-Leaf
first_part-returns-in-Leaf = first_part.returns-in-Leaf

pub first_row-first_members-requires : goal.first_row-first_members-requires
first_row-first_members-requires = first_row.first_members-requires

pub first_row-invariant_of-result : goal.first_row-invariant_of-result
first_row-invariant_of-result = first_row.invariant_of-result

pub first_row-returns-then-size-eq1 : goal.first_row-returns-then-size-eq1
first_row-returns-then-size-eq1 = first_row.returns-then-size-eq1

pub first_row-invariant_of-result-2 : goal.first_row-invariant_of-result-2
first_row-invariant_of-result-2 = first_row.invariant_of-result-2

pub first_row-returns : goal.first_row-returns
first_row-returns = first_row.returns

pub first_row-returns-in_err-first_members : goal.first_row-returns-in_err-first_members
first_row-returns-in_err-first_members = first_row.returns-in_err-first_members

pub first_members-returns-in_default : goal.first_members-returns-in_default
first_members-returns-in_default = first_members.returns-in_default

pub first_members-first_members-requires : goal.first_members-first_members-requires
first_members-first_members-requires = first_members.first_members-requires

pub first_members-returns-then-has : goal.first_members-returns-then-has
first_members-returns-then-has = first_members.returns-then-has

pub first_members-grow_members-requires : goal.first_members-grow_members-requires
first_members-grow_members-requires = first_members.grow_members-requires

pub first_members-returns-in_err-grow_members : goal.first_members-returns-in_err-grow_members
first_members-returns-in_err-grow_members = first_members.returns-in_err-grow_members

pub first_members-returns : goal.first_members-returns
first_members-returns = first_members.returns

pub grow_members-returns-in_default : goal.grow_members-returns-in_default
grow_members-returns-in_default = grow_members.returns-in_default

pub grow_members-first_value-requires : goal.grow_members-first_value-requires
grow_members-first_value-requires = grow_members.first_value-requires

pub grow_members-put_member-requires : goal.grow_members-put_member-requires
grow_members-put_member-requires = grow_members.put_member-requires

pub grow_members-returns : goal.grow_members-returns
grow_members-returns = grow_members.returns

pub grow_members-returns-in_err-tree : goal.grow_members-returns-in_err-tree
grow_members-returns-in_err-tree = grow_members.returns-in_err-tree

pub grow_members-returns-in_err-put_member : goal.grow_members-returns-in_err-put_member
grow_members-returns-in_err-put_member = grow_members.returns-in_err-put_member

pub first_value-first_key-requires : goal.first_value-first_key-requires
first_value-first_key-requires = first_value.first_key-requires

pub first_value-returns-then-here : goal.first_value-returns-then-here
first_value-returns-then-here = first_value.returns-then-here

pub first_value-first_part-requires : goal.first_value-first_part-requires
first_value-first_part-requires = first_value.first_part-requires

pub first_value-returns : goal.first_value-returns
first_value-returns = first_value.returns

pub put_member-first_members-requires : goal.put_member-first_members-requires
put_member-first_members-requires = put_member.first_members-requires

pub put_member-returns : goal.put_member-returns
put_member-returns = put_member.returns

pub put_member-returns-then-ahead-eq0 : goal.put_member-returns-then-ahead-eq0
put_member-returns-then-ahead-eq0 = put_member.returns-then-ahead-eq0

pub first_list-unreachable-requires : goal.first_list-unreachable-requires
first_list-unreachable-requires = first_list.unreachable-requires

pub first_list-first_items-requires : goal.first_list-first_items-requires
first_list-first_items-requires = first_list.first_items-requires

pub first_list-returns-in_err-first_items : goal.first_list-returns-in_err-first_items
first_list-returns-in_err-first_items = first_list.returns-in_err-first_items

pub first_list-returns : goal.first_list-returns
first_list-returns = first_list.returns

pub first_items-returns-in_ok-grow_items : goal.first_items-returns-in_ok-grow_items
first_items-returns-in_ok-grow_items = first_items.returns-in_ok-grow_items

pub first_items-returns-else-room-gt0 : goal.first_items-returns-else-room-gt0
first_items-returns-else-room-gt0 = first_items.returns-else-room-gt0

pub grow_items-returns-in_default : goal.grow_items-returns-in_default
grow_items-returns-in_default = grow_items.returns-in_default

pub grow_items-returns-in_err-item : goal.grow_items-returns-in_err-item
grow_items-returns-in_err-item = grow_items.returns-in_err-item

pub grow_items-returns-in_err-push : goal.grow_items-returns-in_err-push
grow_items-returns-in_err-push = grow_items.returns-in_err-push

pub grow_items-returns-in_err-first_items : goal.grow_items-returns-in_err-first_items
grow_items-returns-in_err-first_items = grow_items.returns-in_err-first_items

pub grow_items-returns : goal.grow_items-returns
grow_items-returns = grow_items.returns

pub grow_items-first_items-requires : goal.grow_items-first_items-requires
grow_items-first_items-requires = grow_items.first_items-requires

pub first_item-first_part-requires : goal.first_item-first_part-requires
first_item-first_part-requires = first_item.first_part-requires

pub first_item-first_unused-requires : goal.first_item-first_unused-requires
first_item-first_unused-requires = first_item.first_unused-requires

pub first_item-returns-in-Free : goal.first_item-returns-in-Free
first_item-returns-in-Free = first_item.returns-in-Free

pub first_item-returns-in-Whole : goal.first_item-returns-in-Whole
first_item-returns-in-Whole = first_item.returns-in-Whole

pub first_item-first_row-requires : goal.first_item-first_row-requires
first_item-first_row-requires = first_item.first_row-requires

pub first_item-returns-in-Keys : goal.first_item-returns-in-Keys
first_item-returns-in-Keys = first_item.returns-in-Keys
