use Rattle.std.proofs.Common.{take}
use Rattle.std.specs.Prelude.{option_map}
use Rattle.plan.specs.Pools.PlanFault.{IsDeclaredPath}
use Rattle.plan.proofs.PoolPathLemmas.{IsFirstOf}
use Rattle.plan.proofs.pool_paths.first_bad_text.Given as goal

abbrev pub invariant-loop-text : goal.invariant-loop-text
invariant-loop-text l = IsFirstOf (IsDeclaredPath l.schema) (take l.text-index l.texts) (option_map (λ first. first.now) l.first)
