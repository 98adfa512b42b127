use Rattle.std.proofs.Common.{◌≡◌, map, take}
use Rattle.stored.specs.Internal.ItemKeys.{value_at, key_of}
use Rattle.stored.proofs.repetition.values_at.Given as goal

-- the values under the keys so far
abbrev pub invariant-loop-key : goal.invariant-loop-key
invariant-loop-key l = key_of l.values ≡ map (value_at l.equality l.members) (take l.key-index l.keys)
