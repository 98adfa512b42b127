use Rattle.std.proofs.Common.{◌≢◌, ◌↔◌, ℕ, List, Some, refl, ap, ◌∙◌}
use Rattle.jtree.specs.Reads.{IsNoDocument}
use Rattle.jtree.specs.ReadsAll.{document_of, IsNoDocumentAll}
use Rattle.jtree.specs.declared.fault.JFault.{JFault}
use Rattle.jtree.specs.declared.fault.JFault.TheVariants.{NotAnInteger, NoMemory, NotJson, TooLong, ReadFailed}
use Rattle.jtree.proofs.TwoReadings.{with_all, with_json, same_tree}
use Rattle.jtree.proofs.laws.readings_agree.Goals as goal

refused_alike : (bytes : List ℕ) (e : JFault) → e ≢ NotAnInteger → (IsNoDocument bytes e ↔ IsNoDocumentAll bytes e)
refused_alike bytes TooLong other = (λ h. h, λ h. h)
refused_alike bytes NotJson other = (
  λ h. (h.0, λ d reads. let v = with_json (document_of bytes) d reads.2 in h.1 v.0 (reads.1, v.1)),
  λ h. (h.0, λ v json. let d = with_all (document_of bytes) v json.1 in h.1 d.0 (h.0, json.0, d.1)),
)
refused_alike bytes NotAnInteger other = absurd (other refl)
refused_alike bytes NoMemory other = (λ h. h, λ h. h)
refused_alike bytes ReadFailed other = (λ h. h, λ h. h)

pub returns : goal.returns
returns c = record {
  same = λ bytes d reads.
      let all = with_all (document_of bytes) reads.1 reads.2.1 in
      let tree = same_tree reads.1 all.0 d all.2 reads.3 in
      ((reads.0, reads.2.0, all.1 ∙ ap Some tree.0), tree.1);
  refused = refused_alike;
  number = λ bytes h.
      let all = with_all (document_of bytes) h.1.0 h.1.1.1 in
      (all.0, (h.0, h.1.1.0, all.1));
}
