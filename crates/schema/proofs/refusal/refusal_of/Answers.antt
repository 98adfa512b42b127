use Rattle.std.proofs.Common.{subst}
use Rattle.jtree.specs.View.{data_of}
use Rattle.schema.specs.Document.Refusal.{form_view}
use Rattle.schema.specs.Internal.Faults.{IsUnfound}
use Rattle.schema.proofs.CrdLemmas.{wrong_crd}
use Rattle.schema.proofs.SchemaFaults.{document_refused, document_fault, document_read}
use Rattle.schema.proofs.refusal.refusal_of.Goals as goal

pub returns-in-Err-WrongPart-clause-fault : goal.returns-in-Err-WrongPart-clause-fault
returns-in-Err-WrongPart-clause-fault c =
    let d = data_of c.args.document.now in
    wrong_crd d c.args.version.now c.in-Err-WrongPart.part (subst (IsUnfound d c.args.version.now) c.in-Err-WrongPart.field-0-is c.in-Err-WrongPart.ensures.err)

pub returns-in-Ok-clause-read : goal.returns-in-Ok-clause-read
returns-in-Ok-clause-read c =
    let found = c.in-Ok.definition in
    document_read (form_view c.args.form) c.args.limits (data_of c.args.document.now) c.args.version.now (data_of found.schema.now) (found.group.now, found.kind.now, c.in-Ok.ensures.ok) c.schema_refusal.result c.schema_refusal.ensures.read

pub returns-in-Ok-clause-refused : goal.returns-in-Ok-clause-refused
returns-in-Ok-clause-refused c =
    let found = c.in-Ok.definition in
    document_refused (form_view c.args.form) c.args.limits (data_of c.args.document.now) c.args.version.now (data_of found.schema.now) (found.group.now, found.kind.now, c.in-Ok.ensures.ok) c.schema_refusal.result c.schema_refusal.ensures.refused

pub returns-in-Ok-clause-fault : goal.returns-in-Ok-clause-fault
returns-in-Ok-clause-fault c =
    let found = c.in-Ok.definition in
    document_fault (form_view c.args.form) c.args.limits (data_of c.args.document.now) c.args.version.now (data_of found.schema.now) (found.group.now, found.kind.now, c.in-Ok.ensures.ok) c.schema_refusal.result c.schema_refusal.ensures.refused
