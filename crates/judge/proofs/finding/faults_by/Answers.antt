use Rattle.std.proofs.Common.{◌≡◌, ◌++◌, ◌∙◌, ap, subst, map, false, string_bytes}
use Rattle.jtree.specs.View.{data_of}
use Rattle.judge.specs.Asked.{asked, schemas_of}
use Rattle.judge.specs.Faults.{reported}
use Rattle.judge.specs.Internal.FaultsByLevel.{progress, added, found, reported_at}
use Rattle.judge.proofs.FaultLemmas.{all_failures}
use Rattle.judge.proofs.finding.faults_by.Goals as goal

pub returns : goal.returns
returns g c =
    let ask = g.A.PlaceTests.asking in
    let v = data_of c.args.value.now in
    let s = data_of c.args.schema.now in
    let fs = found ask (asked v s) false v in
    let are_asked : schemas_of c.as_slice.result.now ≡ asked v s =
    ap schemas_of c.as_slice.ensures.value ∙ (c.in_ok-add_asked.ensures ∙ ap (λ xs. schemas_of xs ++ asked v s) c.new-schemas.ensures.items) in
    let walked : progress c.find.new.report ≡ added (record { pointer = string_bytes c.new.result; reported = map reported c.new-2.result.items }) fs =
    subst (λ ss. progress c.find.new.report ≡ added (record { pointer = string_bytes c.new.result; reported = map reported c.new-2.result.items }) (found ask ss false v)) are_asked c.in_ok-find.ensures in (
      fs,
      all_failures ask s v c.reveal_invariant.ensures,
      ap (λ p. p.reported) walked ∙ (ap (λ xs. map reported xs ++ map (reported_at (string_bytes c.new.result)) fs) c.new-2.ensures.items ∙ ap (λ at. map (reported_at at) fs) c.new.ensures.bytes),
    )
