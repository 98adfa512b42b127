use Rattle.std.proofs.Common.{sym, subst}
use Rattle.jtree.specs.View.{data_of}
use Rattle.schema.specs.Document.ReadFault.{IsReadFaultOf}
use Rattle.schema.specs.Document.Refusal.{form_view}
use Rattle.schema.proofs.SchemaFaults.{unfound_fault, read_fault}
use Rattle.schema.proofs.definition.checked_definition.Goals as goal

pub returns-in-Err-clause-err : goal.returns-in-Err-clause-err
returns-in-Err-clause-err c =
    let f = form_view c.args.form in
    let d = data_of c.args.document.now in
    subst (IsReadFaultOf f c.args.limits d c.args.version.now) (sym c.into.ensures) (unfound_fault f c.args.limits d c.args.version.now c.in-Err.unfound c.in-Err.ensures.err)

pub returns-in-Err-check_schema-clause-err : goal.returns-in-Err-check_schema-clause-err
returns-in-Err-check_schema-clause-err c =
    let found = c.in-Ok.definition in
    read_fault (form_view c.args.form) c.args.limits (data_of c.args.document.now) c.args.version.now (data_of found.schema.now) c.in-Err-check_schema.fault (found.group.now, found.kind.now, c.in-Ok.ensures.ok) c.in-Err-check_schema.ensures.err
