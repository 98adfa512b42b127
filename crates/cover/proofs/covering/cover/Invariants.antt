use Rattle.std.proofs.Common.{◌≡◌, ◌-◌, length}
use Rattle.cover.specs.Covering.{IsCoverOfFirst}
use Rattle.cover.proofs.covering.cover.Given as goal

abbrev pub invariant-path : goal.invariant-path
invariant-path g l = record {
  question : l.covering.question ≡ l.fn.plan;
  values : l.covering.values ≡ l.fn.values;
  cover : IsCoverOfFirst l.covering;
}

abbrev pub decreases-path : goal.decreases-path
decreases-path g l = length l.covering.fields - l.covering.count
