use Rattle.std.proofs.Common.{◌≡◌, ap₂, ◌∙◌, ◌||◌, false}
use Rattle.std.proofs.lemmas.Result.{IfOk-weaker}
use Rattle.clap.specs.Simple.{app_of, with_rule}
use Rattle.clap.specs.declared.builder.command.Command.TheViews.{out-Command}
use Rattle.crdx.proofs.arguments.command.add_argument.Goals as goal

pub returns-in-Ok-clause-app : goal.returns-in-Ok-clause-app
returns-in-Ok-clause-app c = λ a r is_command is_rule.
    let named : app_of c.in-Ok.command ≡ a = rw c.in-Ok.is at is_command in
    IfOk-weaker c.arg.result _ _ (λ b adds. adds.shape c.requires ∙ ap₂ with_rule named is_rule) c.arg.ensures

pub returns-in-Ok-clause-local : goal.returns-in-Ok-clause-local
returns-in-Ok-clause-local c = λ is_local.
    let local : (out-Command c.in-Ok.command).has_globals ≡ false = rw c.in-Ok.is at is_local in
    IfOk-weaker c.arg.result _ _ (λ b adds. adds.globals ∙ ap₂ (λ g h. g || h) local c.requires) c.arg.ensures
