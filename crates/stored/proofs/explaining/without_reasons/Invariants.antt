use Rattle.std.proofs.Common.{◌≡◌, [], ◌++◌, map}
use Rattle.std.specs.Prelude.{All}
use Rattle.std.specs.Vec.Iter.{into_iter_items}
use Rattle.schema.specs.Rules.Breaks.{reported}
use Rattle.stored.proofs.explaining.without_reasons.Given as goal

abbrev pub invariant-loop-violation : goal.invariant-loop-violation
invariant-loop-violation l = (map (λ e. reported e.violation) l.explained.items ++ map reported (into_iter_items l.violation-iterator) ≡ map reported l.fn.violations.items)
    × All (λ e. e.findings.items ≡ []) l.explained.items
