use Rattle.definition.proofs.parts.field.Goals as goal

pub returns-in-Validation : goal.returns-in-Validation
returns-in-Validation c = rw c.in-Validation.is c.only_in.ensures
