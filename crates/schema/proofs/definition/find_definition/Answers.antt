use Rattle.std.proofs.Common.{refl, subst}
use Rattle.std.specs.Prelude.{option_map}
use Rattle.jtree.specs.View.{data_of}
use Rattle.schema.specs.Document.Refusal.{no_schema}
use Rattle.schema.specs.Internal.Faults.{IsVersionsFault}
use Rattle.schema.specs.Internal.Versions.{IsSelected}
use Rattle.schema.proofs.CrdLemmas.{wrong_versions}
use Rattle.schema.proofs.definition.find_definition.Goals as goal

pub returns-in-Err-NotACrd-clause-err : goal.returns-in-Err-NotACrd-clause-err
returns-in-Err-NotACrd-clause-err c =
    let head = c.in-Ok.head in
    wrong_versions (data_of c.args.document.now) c.args.version.now head.group.now head.kind.now head.versions.now c.in-Ok.ensures.ok
    (subst (IsVersionsFault head.versions.now) c.in-Err-NotACrd.field-0-is c.in-Err-NotACrd.ensures.err)

pub returns-in_default-clause-err : goal.returns-in_default-clause-err
returns-in_default-clause-err c =
    let head = c.in-Ok.head in
    let found = subst (λ o. IsSelected head.versions.now c.args.version.now (option_map (λ t. data_of t.now) o)) c.in-Ok-Some.field-0-is c.in-Ok-Some.ensures.selected in
    no_schema head.group.now head.kind.now head.versions.now (data_of c.in-Ok-Some.selected.now)
    (record { head = c.in-Ok.ensures.ok; versions_are = c.in-Ok-Some.ensures.versions }) found (c.in_default.ensures.none refl)
