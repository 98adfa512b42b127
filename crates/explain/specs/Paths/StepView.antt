-- The step that a step of the code represents.
use Rattle.explain.specs.Paths.FieldPath.{FieldStep, field, item, value}
use Rattle.explain.specs.declared.path_text.Step.{Step}
use Rattle.explain.specs.declared.path_text.Step.TheVariants as step

abbrev pub step_of : Step → FieldStep
step_of (step.Field k) = field k.now
step_of step.Item = item
step_of step.Value = value
