use Rattle.std.proofs.Common.{ℕ, ◌≤◌, ◌<◌}
use Rattle.enumerate.specs.Internal.Nodes.{IsSplit}
use Rattle.enumerate.proofs.sizes.least_split.Given as goal

abbrev pub invariant-loop-size : goal.invariant-loop-size
invariant-loop-size g l = (n : ℕ) → l.from ≤ n → n < l.size → IsSplit (g.Z.SizeSet.holds l.sizes) (g.Z.SizeSet.holds l.rest) l.room n → ⊥
