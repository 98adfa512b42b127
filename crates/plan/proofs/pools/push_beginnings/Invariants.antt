use Rattle.std.proofs.Common.{◌≡◌, ◌++◌, [], drop}
use Rattle.std.specs.Prelude.{string_bytes}
use Rattle.plan.specs.Pools.Along.{beginnings}
use Rattle.plan.specs.Pools.PathSteps.{path_of}
use Rattle.plan.proofs.pools.push_beginnings.Given as goal

abbrev pub invariant-loop-step : goal.invariant-loop-step
invariant-loop-step l = l.texts.items ++ beginnings (string_bytes l.front) (path_of (drop l.step-index l.steps)) ≡ l.initial.texts.items ++ beginnings [] (path_of l.steps)
