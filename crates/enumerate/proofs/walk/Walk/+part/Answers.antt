mod is_part
mod is_unused_row
mod make_unused_row
mod make_list
mod is_unused_item
use Rattle.std.proofs.Common.{arith}
use Rattle.std.proofs.lemmas.Grind.{common_steps}
use Rattle.enumerate.proofs.walk.Walk.+part.Goals as goal

pub is_part-returns-in_default : goal.is_part-returns-in_default
is_part-returns-in_default = is_part.returns-in_default

pub is_part-returns-in-Row : goal.is_part-returns-in-Row
is_part-returns-in-Row = is_part.returns-in-Row

pub is_part-returns-in-List : goal.is_part-returns-in-List
is_part-returns-in-List = is_part.returns-in-List

pub is_part-returns-in-Leaf : goal.is_part-returns-in-Leaf
is_part-returns-in-Leaf = is_part.returns-in-Leaf

pub is_unused_row-returns-in-Object : goal.is_unused_row-returns-in-Object
is_unused_row-returns-in-Object = is_unused_row.returns-in-Object

pub make_unused_row-returns-then-slot : goal.make_unused_row-returns-then-slot
make_unused_row-returns-then-slot = make_unused_row.returns-then-slot

pub make_unused_row-returns-in_default-value_under : goal.make_unused_row-returns-in_default-value_under
make_unused_row-returns-in_default-value_under = make_unused_row.returns-in_default-value_under

pub make_unused_row-is_part-requires : goal.make_unused_row-is_part-requires
make_unused_row-is_part-requires = make_unused_row.is_part-requires

pub make_unused_row-returns-in_err-is_part : goal.make_unused_row-returns-in_err-is_part
make_unused_row-returns-in_err-is_part = make_unused_row.returns-in_err-is_part

pub make_unused_row-returns-then-not-branch : goal.make_unused_row-returns-then-not-branch
make_unused_row-returns-then-not-branch = make_unused_row.returns-then-not-branch

pub make_unused_row-returns-in_err-same : goal.make_unused_row-returns-in_err-same
make_unused_row-returns-in_err-same = make_unused_row.returns-in_err-same

pub make_unused_row-make_unused_row-requires-2 : goal.make_unused_row-make_unused_row-requires-2
make_unused_row-make_unused_row-requires-2 = make_unused_row.make_unused_row-requires-2

pub make_unused_row-returns : goal.make_unused_row-returns
make_unused_row-returns = make_unused_row.returns

pub make_unused_row-returns-in_default : goal.make_unused_row-returns-in_default
make_unused_row-returns-in_default g t c = record { ok = grind (arith, common_steps); steps = λ w wide. omega (arith, c.slot.ensures.step) }

pub make_unused_row-make_unused_row-requires : goal.make_unused_row-make_unused_row-requires
make_unused_row-make_unused_row-requires = make_unused_row.make_unused_row-requires

pub make_unused_row-overflow_add-place : goal.make_unused_row-overflow_add-place
make_unused_row-overflow_add-place g t c = omega (arith, c.in-Some.ensures.followed)

pub make_unused_row-overflow_add-place-2 : goal.make_unused_row-overflow_add-place-2
make_unused_row-overflow_add-place-2 g t c = omega (arith, c.in-Some.ensures.followed)

pub make_list-returns-in_default : goal.make_list-returns-in_default
make_list-returns-in_default = make_list.returns-in_default

pub make_list-is_unused_item-requires : goal.make_list-is_unused_item-requires
make_list-is_unused_item-requires = make_list.is_unused_item-requires

pub make_list-returns-in_err-is_unused_item : goal.make_list-returns-in_err-is_unused_item
make_list-returns-in_err-is_unused_item = make_list.returns-in_err-is_unused_item

pub make_list-returns-then-not-branch : goal.make_list-returns-then-not-branch
make_list-returns-then-not-branch = make_list.returns-then-not-branch

pub make_list-overflow_cast-items : goal.make_list-overflow_cast-items
make_list-overflow_cast-items = make_list.overflow_cast-items

pub make_list-returns : goal.make_list-returns
make_list-returns = make_list.returns

pub make_list-loop-place-preserved : goal.make_list-loop-place-preserved
make_list-loop-place-preserved = make_list.loop-place-preserved

pub make_list-returns-then-is_empty : goal.make_list-returns-then-is_empty
make_list-returns-then-is_empty g t c = record { ok = grind (arith, common_steps); steps = λ w wide. omega arith }

pub is_unused_item-is_part-requires : goal.is_unused_item-is_part-requires
is_unused_item-is_part-requires = is_unused_item.is_part-requires

pub is_unused_item-returns-then-contains : goal.is_unused_item-returns-then-contains
is_unused_item-returns-then-contains = is_unused_item.returns-then-contains

pub is_unused_item-is_part-requires-in-Whole : goal.is_unused_item-is_part-requires-in-Whole
is_unused_item-is_part-requires-in-Whole = is_unused_item.is_part-requires-in-Whole

pub is_unused_item-is_unused_row-requires : goal.is_unused_item-is_unused_row-requires
is_unused_item-is_unused_row-requires = is_unused_item.is_unused_row-requires

pub is_unused_item-returns-in-Free : goal.is_unused_item-returns-in-Free
is_unused_item-returns-in-Free = is_unused_item.returns-in-Free

pub is_unused_item-returns-else-contains : goal.is_unused_item-returns-else-contains
is_unused_item-returns-else-contains = is_unused_item.returns-else-contains

pub is_unused_item-returns-in-Keys : goal.is_unused_item-returns-in-Keys
is_unused_item-returns-in-Keys = is_unused_item.returns-in-Keys

pub is_part-is_unused_row-requires : goal.is_part-is_unused_row-requires
is_part-is_unused_row-requires = is_part.is_unused_row-requires

pub is_part-is_list-requires : goal.is_part-is_list-requires
is_part-is_list-requires = is_part.is_list-requires
