use Rattle.std.proofs.lemmas.Result.{on_ok_weaker, IfErr-weaker}
use Rattle.jtree.specs.View.{data_of}
use Rattle.schema.specs.Document.Refusal.{form_view}
use Rattle.schema.specs.Internal.FormBreak.{first_break}
use Rattle.schema.specs.Internal.Faults.{IsFirstBreak, IsMisformed}
use Rattle.schema.proofs.SchemaFaults.{all_forms, first_misformed}
use Rattle.schema.proofs.forms.check_schema_forms.Goals as goal

pub returns-clause-ok : goal.returns-clause-ok
returns-clause-ok c = on_ok_weaker c.check_form.result (all_forms (form_view c.args.form) (data_of c.args.schema.now) c.reveal_invariant.ensures) c.check_form.ensures.ok

pub returns-clause-err : goal.returns-clause-err
returns-clause-err c =
    let f = form_view c.args.form in
    let raw = data_of c.args.schema.now in
    IfErr-weaker c.check_form.result (IsFirstBreak f raw (first_break f raw)) (IsMisformed f raw) (λ e h. first_misformed f raw e c.reveal_invariant.ensures h) c.check_form.ensures.err
