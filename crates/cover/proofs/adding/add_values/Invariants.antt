use Rattle.std.proofs.Common.{◌≡◌, ◌++◌, List, map, take}
use Rattle.jtree.specs.View.{data_of}
use Rattle.plan.specs.Samples.Question.{Question}
use Rattle.cover.specs.Cover.{AreCovered}
use Rattle.cover.specs.View.{covered_of}
use Rattle.cover.specs.Wanted.{Wanted, with_value}
use Rattle.cover.specs.Internal.Known.{IsGrown}
use Rattle.cover.proofs.adding.add_values.Given as goal

abbrev pub invariant-loop-value : goal.invariant-loop-value
invariant-loop-value g l = record {
  plan : l.plan ≡ l.fn.plan;
  grown : IsGrown l.initial.covered l.covered;
  covered : (q : Question) (wanted : List Wanted) → q ≡ l.fn.plan → AreCovered q wanted (covered_of l.initial.covered)
      → AreCovered q (wanted ++ map (with_value l.aim.path.now) (map (λ v. data_of v) (take l.value-index l.values))) (covered_of l.covered);
}
