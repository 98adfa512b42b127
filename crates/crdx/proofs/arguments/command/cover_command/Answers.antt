use Rattle.crdx.proofs.arguments.command.cover_command.Goals as goal

pub returns-clause-app : goal.returns-clause-app
returns-clause-app c =
    let first = c.add_argument-command.ensures.app _ _ c.crd_command-command.ensures.app c.text_option-pools.ensures.rule in
    let second = c.add_argument-command-2.ensures.app _ _ first c.limit_option.ensures.rule in
    let third = c.add_argument-command-3.ensures.app _ _ second c.text_option-name.ensures.rule in
    c.add_argument.ensures.app _ _ third c.flag-values.ensures.rule

pub returns-clause-local : goal.returns-clause-local
returns-clause-local c =
    let first = c.add_argument-command.ensures.local c.crd_command-command.ensures.local in
    c.add_argument.ensures.local (c.add_argument-command-3.ensures.local (c.add_argument-command-2.ensures.local first))
