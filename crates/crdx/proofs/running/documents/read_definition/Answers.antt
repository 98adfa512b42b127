use Rattle.std.proofs.Common.{◌≡◌, refl, subst}
use Rattle.jtree.specs.View.{data_of}
use Rattle.schema.specs.Document.Forms.{HasFormsOf, form_by}
use Rattle.schema.specs.Document.Limits.{IsWithinLimits}
use Rattle.schema.specs.Document.ReadFault.{IsReadFaultOf}
use Rattle.crdx.proofs.RunLemmas.{cause_of_fault}
use Rattle.crdx.proofs.running.documents.read_definition.Goals as goal

pub returns-in-Err-clause-cause : goal.returns-in-Err-clause-cause
returns-in-Err-clause-cause g c =
    let arguments = c.args.arguments.now in
    let document = data_of c.in_ok-document.document in
    let fault = subst (λ r. IsReadFaultOf (form_by r.profile) r.limits document arguments.version.now c.in-Err.fault) c.reading_of.ensures c.in-Err.ensures.err in
    rw c.into.ensures (cause_of_fault (g.I.Inputs.has c.args.inputs.now) (g.I.Inputs.failures c.args.inputs.now) (g.I.Inputs.failures c.read_document.new.inputs) arguments document _ c.in_ok-document.ensures.ok fault)

pub returns-in-Ok-clause-ok : goal.returns-in-Ok-clause-ok
returns-in-Ok-clause-ok g c =
    let read = c.in-Ok.ensures in
    let raw = c.in-Ok.crd.raw in
    let profile = subst (λ r. raw.profile ≡ r.profile) c.reading_of.ensures read.profile in (
      (
        record {
          document = data_of c.in_ok-document.document;
          at_hand = c.in_ok-document.ensures.ok;
          read = read.ok;
          forms = subst (λ p. HasFormsOf (form_by p) raw.tree) profile read.forms;
          within = subst (λ r. IsWithinLimits r.limits raw.tree) c.reading_of.ensures read.within;
        },
        profile,
      ),
      refl,
    )
