use Rattle.std.proofs.Common.{◌≡◌, ◌++◌, ◌<◌, [], ◌∷◌, List, refl, arith, length}
use Rattle.explain.specs.Paths.FieldPath.{FieldPath}
use Rattle.plan.specs.declared.path_step.PathStep.{PathStep}
use Rattle.cover.specs.Internal.Ways.{path_of}
use Rattle.cover.proofs.known.+begins.Goals as goal

after_none : (front steps : List PathStep) → length front < 1 → (rest : FieldPath) × (path_of steps ≡ path_of front ++ rest)
after_none [] steps none = (path_of steps, refl)
after_none (step ∷ front) steps none = absurd (omega (arith, none))

pub returns-in-empty-default : goal.returns-in-empty-default
returns-in-empty-default t c = λ _. after_none c.args.front.now c.args.steps.now c.in-empty-default.len_below
