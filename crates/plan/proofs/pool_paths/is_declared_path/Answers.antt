use Rattle.std.proofs.Common.{refl}
use Rattle.plan.proofs.PoolPathLemmas.{no_path}
use Rattle.plan.proofs.pool_paths.is_declared_path.Goals as goal

pub returns-in-Ok : goal.returns-in-Ok
returns-in-Ok c = let t = c.in-Ok.ensures.node in ((λ yes. (t.0, t.1, t.2.0)), λ h. refl)

pub returns-in-Err : goal.returns-in-Err
returns-in-Err c = (
  λ is. cc,
  λ h. absurd (no_path c.paths_have_one_text.ensures c.args.schema.now c.args.text.now c.in-Err.field-0 c.in-Err.ensures.fault h),
)
