use Rattle.std.proofs.Common.{◌≡◌, ◌+◌, drop}
use Rattle.std.specs.Prelude.{option_map}
use Rattle.jtree.specs.View.{items_of}
use Rattle.plan.specs.Internal.PoolBreak.{test_of, other_item}
use Rattle.plan.proofs.pool_form.first_other.Given as goal

abbrev pub invariant-loop-i : goal.invariant-loop-i
invariant-loop-i l =
    option_map (λ j. l.i + j) (other_item (test_of l.kind) (items_of (drop l.i l.item-items))) ≡ other_item (test_of l.kind) (items_of l.item-items)
