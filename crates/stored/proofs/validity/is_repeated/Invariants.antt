use Rattle.std.proofs.Common.{◌≡◌, drop}
use Rattle.jtree.specs.View.{data_of, items_of}
use Rattle.schema.specs.Rules.Keywords.{any_item}
use Rattle.stored.specs.Objects.Fault.{are_alike}
use Rattle.stored.proofs.validity.is_repeated.Given as goal

-- an item that follows is alike exactly where one of those that are left is
abbrev pub invariant-loop-other : goal.invariant-loop-other
invariant-loop-other l =
    any_item (are_alike l.list.list_type l.list.keys.items (data_of l.item)) (items_of (drop l.other-index l.later))
    ≡ any_item (are_alike l.list.list_type l.list.keys.items (data_of l.item)) (items_of l.later)
