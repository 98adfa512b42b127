use Rattle.std.proofs.Common.{All, take}
use Rattle.suggest.specs.View.{texts_at, wanted_of}
use Rattle.suggest.specs.Suggested.Fault.{CanVary}
use Rattle.suggest.proofs.judging.check_varied.Given as goal

abbrev pub invariant-loop-path : goal.invariant-loop-path
invariant-loop-path l = All (CanVary l.schema (wanted_of l.wanted)) (texts_at (take l.path-index l.path-items))
