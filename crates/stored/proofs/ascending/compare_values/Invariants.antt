use Rattle.std.proofs.Common.{◌≡◌, drop, map}
use Rattle.stored.specs.Internal.ItemKeys.{value_at, values_cmp}
use Rattle.stored.proofs.ascending.compare_values.Given as goal

-- the values compare as those under the keys that are left
abbrev pub invariant-loop-key : goal.invariant-loop-key
invariant-loop-key l =
    values_cmp (map (value_at l.equality l.members) (drop l.key-index l.keys)) (map (value_at l.equality l.others) (drop l.key-index l.keys))
    ≡ values_cmp (map (value_at l.equality l.members) l.keys) (map (value_at l.equality l.others) l.keys)
