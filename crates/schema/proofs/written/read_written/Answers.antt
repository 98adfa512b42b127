use Rattle.std.proofs.Common.{sym, subst}
use Rattle.jtree.specs.View.{data_of}
use Rattle.schema.specs.Document.Forms.{HasWrittenForms}
use Rattle.schema.specs.Document.Limits.{IsWithinLimits}
use Rattle.schema.proofs.written.read_written.Goals as goal

pub returns-clause-forms : goal.returns-clause-forms
returns-clause-forms c = subst (λ t. HasWrittenForms (data_of t)) (sym c.in_ok-try_clone.ensures) c.in-Ok.ensures.forms

pub returns-clause-within : goal.returns-clause-within
returns-clause-within c = subst (λ t. IsWithinLimits c.args.limits (data_of t)) (sym c.in_ok-try_clone.ensures) c.in-Ok.ensures.within
