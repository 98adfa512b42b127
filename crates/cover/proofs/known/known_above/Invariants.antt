use Rattle.std.proofs.Common.{◌≡◌, ℕ, length, take}
use Rattle.cover.proofs.known.known_above.Given as goal

abbrev pub invariant-look : goal.invariant-look
invariant-look l = (n : ℕ) × (l.fronts.items ≡ take n l.initial.fronts.items)

abbrev pub decreases-look : goal.decreases-look
decreases-look l = length l.fronts.items
