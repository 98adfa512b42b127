use Rattle.std.proofs.Common.{All, take}
use Rattle.plan.specs.Pools.FixedPaths.{IsFixablePath}
use Rattle.suggest.specs.View.{texts_at}
use Rattle.suggest.proofs.judging.check_without.Given as goal

abbrev pub invariant-loop-path : goal.invariant-loop-path
invariant-loop-path l = All (IsFixablePath l.schema) (texts_at (take l.path-index l.path-items))
