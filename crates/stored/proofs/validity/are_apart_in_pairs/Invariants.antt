use Rattle.std.proofs.Common.{◌≡◌, length}
use Rattle.jtree.specs.View.{items_of}
use Rattle.stored.specs.Objects.Fault.{are_alike}
use Rattle.stored.specs.Objects.StoredByParts.{are_apart}
use Rattle.stored.proofs.validity.are_apart_in_pairs.Given as goal

-- all items are apart exactly where those that are left are
abbrev pub invariant-loop-rest : goal.invariant-loop-rest
invariant-loop-rest l = are_apart (are_alike l.list.list_type l.list.keys.items) (items_of l.rest) ≡ are_apart (are_alike l.list.list_type l.list.keys.items) l.items

abbrev pub decreases-loop-rest : goal.decreases-loop-rest
decreases-loop-rest l = length l.rest
