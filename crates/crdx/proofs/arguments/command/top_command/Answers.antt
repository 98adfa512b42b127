use Rattle.std.proofs.Common.{ap, ◌∙◌, true}
use Rattle.clap.specs.Simple.{app_of_fields, on_top}
use Rattle.crdx.proofs.arguments.command.top_command.Goals as goal

pub returns : goal.returns
returns c =
    let named = ap app_of_fields c.in_ok-command.ensures.0 ∙ c.new.ensures.app in
    let versioned = ap app_of_fields c.version.ensures ∙ ap (on_top (λ s. record s { has_version = true })) named in
    let texts = ap app_of_fields c.after_long_help.ensures ∙ (ap app_of_fields c.long_about.ensures ∙ (ap app_of_fields c.about.ensures ∙ versioned)) in
    ap app_of_fields c.subcommand_required.ensures ∙ ap (on_top (λ s. record s { subcommand_required = true })) texts
