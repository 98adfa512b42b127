use Rattle.std.proofs.Common.{inr}
use Rattle.crdx.proofs.RunLemmas.{refused_schema}
use Rattle.crdx.proofs.running.documents.accepted_schema.Goals as goal

pub returns-in-Err-clause-cause : goal.returns-in-Err-clause-cause
returns-in-Err-clause-cause g c =
    let d = c.in_ok-document.field-0 in
    rw c.into.ensures (inr (d.crd.raw, (d.crd.group, (d.crd.kind, c.in_ok-document.ensures.ok.0)), refused_schema d.crd.raw _ c.in-Err.ensures.refused))

pub returns-in-Ok-clause-accepted : goal.returns-in-Ok-clause-accepted
returns-in-Ok-clause-accepted g c =
    let d = c.in_ok-document.field-0 in
    (d.crd.raw, c.in_ok-document.ensures.ok.0, c.in-Ok.ensures.unbroken, c.in-Ok.ensures.nodes)
