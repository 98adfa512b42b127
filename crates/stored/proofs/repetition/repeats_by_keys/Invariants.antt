use Rattle.stored.specs.Internal.ItemKeys.{AreSeen}
use Rattle.stored.proofs.repetition.repeats_by_keys.Given as goal

abbrev pub invariant-loop-item : goal.invariant-loop-item
invariant-loop-item l = AreSeen l.list.list_type l.list.keys.items l.items l.item-index l.repeated.items l.seen
