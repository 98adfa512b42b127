use Rattle.std.proofs.Common.{◌≡◌, ◌∙◌, ap, false}
use Rattle.std.proofs.lemmas.Result.{IfOk-weaker}
use Rattle.clap.specs.Simple.{App, app_of, with_subcommand}
use Rattle.clap.specs.declared.builder.command.Command.TheViews.{out-Command}
use Rattle.crdx.proofs.arguments.command.add_command.Goals as goal

pub returns-in-Ok-command : goal.returns-in-Ok-command
returns-in-Ok-command c = λ a b is_command is_below.
    let command = c.in-Ok-command.command in
    let below = c.in-Ok.below in
    let local : (out-Command below).has_globals ≡ false = rw c.in-Ok.is at c.requires in
    let named : app_of command ≡ a = rw c.in-Ok-command.is at is_command in
    let named_below : app_of below ≡ b = rw c.in-Ok.is at is_below in
    IfOk-weaker c.subcommand.result _ _ (λ r adds. adds.shape local ∙ ap (λ (x : App). with_subcommand (app_of command) x.top) named_below ∙ ap (λ x. with_subcommand x b.top) named) c.subcommand.ensures
