use Rattle.std.proofs.Common.{ℕ, List}
use Rattle.plan.specs.Pools.Pools.{Pools}
use Rattle.plan.specs.Samples.Sites.{Site}
use Rattle.plan.specs.Internal.Arena.{AreRight}
use Rattle.plan.specs.Internal.Widest.{IsWidest}
use Rattle.plan.specs.declared.values.Values.{Values}
use Rattle.plan.proofs.plan.Plan.width.Given as goal

abbrev pub invariant-loop-entry : goal.invariant-loop-entry
invariant-loop-entry g l = (P : Pools) (limit : ℕ) (v : Values) (sites : List Site) → AreRight g.Z.SizeSet.holds limit P v sites l.entry-items → IsWidest P limit sites l.entry-index l.width
