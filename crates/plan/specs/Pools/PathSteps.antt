-- The steps of a path in the code.
use Rattle.std.specs.Prelude.{List, map}
use Rattle.explain.specs.Paths.FieldPath.{FieldStep, field, item, value, FieldPath}
use Rattle.plan.specs.declared.path_step.PathStep.{PathStep}
use Rattle.plan.specs.declared.path_step.PathStep.TheVariants as steps

abbrev pub step_of : PathStep → FieldStep
step_of (steps.Field k) = field k
step_of steps.Item = item
step_of steps.Value = value

abbrev pub path_of : List PathStep → FieldPath
path_of ss = map step_of ss
