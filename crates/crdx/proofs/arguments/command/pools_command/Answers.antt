use Rattle.crdx.proofs.arguments.command.pools_command.Goals as goal

pub returns-clause-app : goal.returns-clause-app
returns-clause-app c =
    let first = c.add_argument-command.ensures.app _ _ c.crd_command-command.ensures.app c.text_options-from.ensures.rule in
    let second = c.add_argument-command-2.ensures.app _ _ first c.text_options-vary.ensures.rule in
    c.add_argument.ensures.app _ _ second c.text_options-without.ensures.rule
