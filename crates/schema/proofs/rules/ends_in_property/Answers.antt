use Rattle.std.proofs.Common.{ap, ◌∙◌}
use Rattle.schema.specs.Internal.PlaceView.{step_of}
use Rattle.schema.specs.Rules.Profile.{is_property}
use Rattle.schema.proofs.RuleLemmas.{last_step}
use Rattle.schema.proofs.rules.ends_in_property.Goals as goal

pub returns-in-Some : goal.returns-in-Some
returns-in-Some c =
    let item = c.in-Some.ensures.item in
    c.is_property_step.ensures ∙ ap (λ s. is_property (step_of s)) item.1 ∙ last_step is_property c.args.place.now c.in-Some.step.now item.3.0
