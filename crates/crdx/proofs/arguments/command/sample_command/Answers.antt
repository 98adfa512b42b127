use Rattle.crdx.proofs.arguments.command.sample_command.Goals as goal

pub returns-clause-app : goal.returns-clause-app
returns-clause-app c =
    let first = c.add_argument-command.ensures.app _ _ c.crd_command-command.ensures.app c.text_option-pools.ensures.rule in
    let second = c.add_argument-command-2.ensures.app _ _ first c.limit_option.ensures.rule in
    let third = c.add_argument-command-3.ensures.app _ _ second c.count_option.ensures.rule in
    let fourth = c.add_argument-command-4.ensures.app _ _ third c.flag.ensures.rule in
    let fifth = c.add_argument-command-5.ensures.app _ _ fourth c.text_option-after.ensures.rule in
    c.add_argument.ensures.app _ _ fifth c.text_option-name.ensures.rule

pub returns-clause-local : goal.returns-clause-local
returns-clause-local c =
    let first = c.add_argument-command.ensures.local c.crd_command-command.ensures.local in
    let second = c.add_argument-command-2.ensures.local first in
    let third = c.add_argument-command-3.ensures.local second in
    let fourth = c.add_argument-command-4.ensures.local third in
    c.add_argument.ensures.local (c.add_argument-command-5.ensures.local fourth)
