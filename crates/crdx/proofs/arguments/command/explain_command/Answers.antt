use Rattle.crdx.proofs.arguments.command.explain_command.Goals as goal

pub returns-clause-app : goal.returns-clause-app
returns-clause-app c = c.add_argument.ensures.app _ _ c.crd_command-command.ensures.app c.optional_argument.ensures.rule

pub returns-clause-local : goal.returns-clause-local
returns-clause-local c = c.add_argument.ensures.local c.crd_command-command.ensures.local
