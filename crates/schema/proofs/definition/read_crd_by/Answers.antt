use Rattle.std.proofs.Common.{sym, subst}
use Rattle.jtree.specs.View.{data_of}
use Rattle.schema.specs.Document.Forms.{HasForms, HasFormsOf}
use Rattle.schema.specs.Document.Limits.{IsWithinLimits}
use Rattle.schema.specs.Document.Raw.{Raw}
use Rattle.schema.specs.Document.Refusal.{form_view}
use Rattle.schema.proofs.definition.read_crd_by.Goals as goal

pub new-requires-clause-forms : goal.new-requires-clause-forms
new-requires-clause-forms c =
    let same = c.form_by-form.ensures in
    subst (λ f. HasFormsOf f (data_of c.in_ok-try_clone.field-0)) same
    (subst (λ t. HasFormsOf (form_view c.form_by-form.result) (data_of t)) (sym c.in_ok-try_clone.ensures) c.in-Ok.ensures.forms)

pub new-requires-clause-within : goal.new-requires-clause-within
new-requires-clause-within c = subst (λ t. IsWithinLimits c.args.reading.limits (data_of t)) (sym c.in_ok-try_clone.ensures) c.in-Ok.ensures.within

pub returns-clause-within : goal.returns-clause-within
returns-clause-within c =
    subst (λ (r : Raw). IsWithinLimits c.args.reading.limits r.tree) (sym c.new.ensures)
    (subst (λ t. IsWithinLimits c.args.reading.limits (data_of t)) (sym c.in_ok-try_clone.ensures) c.in-Ok.ensures.within)

pub returns-clause-forms : goal.returns-clause-forms
returns-clause-forms c =
    let same = c.form_by-form.ensures in
    subst HasForms (sym c.new.ensures)
    (subst (λ f. HasFormsOf f (data_of c.in_ok-try_clone.field-0)) same
    (subst (λ t. HasFormsOf (form_view c.form_by-form.result) (data_of t)) (sym c.in_ok-try_clone.ensures) c.in-Ok.ensures.forms))
