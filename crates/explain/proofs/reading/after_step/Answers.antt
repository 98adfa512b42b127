use Rattle.std.proofs.Common.{◌≡◌, ◌≢◌, ◌++◌, ap, sym, subst, ◌∙◌, MatchOption}
use Rattle.explain.specs.Paths.FieldPath.{field, FieldPath}
use Rattle.explain.specs.Paths.PathText.{step_text, path_text}
use Rattle.explain.specs.Paths.StepView.{step_of}
use Rattle.explain.proofs.ReadingLemmas.{after_field}
use Rattle.explain.proofs.reading.after_step.Goals as goal

pub returns-in-Field : goal.returns-in-Field
returns-in-Field c =
    let is : field c.as_bytes.result.now ≡ step_of c.args.step = ap field c.as_bytes.ensures.value ∙ ap step_of (sym c.in-Field.is) in
    subst (λ s. MatchOption c.after_name.result ((p : FieldPath) → c.args.text.now ≢ step_text s ++ path_text p) (λ rest. c.args.text.now ≡ step_text s ++ rest.now)) is
    (after_field c.args.text.now c.as_bytes.result.now c.after_name.result c.after_name.ensures)
