use Rattle.std.proofs.Common.{subst}
use Rattle.schema.specs.Document.Forms.{HasForms}
use Rattle.schema.proofs.raw.RawSchema.tree.Goals as goal

pub returns-clause-forms : goal.returns-clause-forms
returns-clause-forms c = subst HasForms c.self.view_is c.self.invariant.0
