use Rattle.crdx.proofs.arguments.command.object_command.Goals as goal

pub returns-clause-app : goal.returns-clause-app
returns-clause-app c =
    let object = c.add_argument-command.ensures.app _ _ c.crd_command-command.ensures.app c.optional_argument-object.ensures.rule in
    c.add_argument.ensures.app _ _ object c.flag.ensures.rule

pub returns-clause-local : goal.returns-clause-local
returns-clause-local c = c.add_argument.ensures.local (c.add_argument-command.ensures.local c.crd_command-command.ensures.local)
