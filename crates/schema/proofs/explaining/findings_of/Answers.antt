use Rattle.std.proofs.Common.{◌≡◌, [], ◌<◌, length, take, sym, ap, ◌∙◌, subst, arith}
use Rattle.std.proofs.lemmas.List.{take_all}
use Rattle.jtree.specs.View.{members_of}
use Rattle.schema.specs.Rules.ReasonTable.{all_reasons}
use Rattle.schema.specs.Internal.Findings.{findings_at, findings_among, AddsFindings}
use Rattle.schema.proofs.TakenLemmas.{adds_none}
use Rattle.schema.proofs.FindingLemmas.{found_member, findings_are}
use Rattle.schema.proofs.explaining.findings_of.Goals as goal

pub loop-member-init : goal.loop-member-init
loop-member-init c = subst (λ fs. AddsFindings c.args.profile c.args.subschema.now c.args.rule [] [] fs) (sym c.new-findings.ensures.items) (adds_none [])

pub loop-member-preserved : goal.loop-member-preserved
loop-member-preserved c =
    let v = c.args.subschema.now in
    let r = c.args.rule in
    let members = c.deref-member-items.result.now in
    let i = c.loop-member.member-index in
    let m = c.member-item.result in
    let mid = c.loop-member.findings.items in
    let new = c.find.new.findings.items in
    let within : i < length members = omega arith in
    let named : AddsFindings c.args.profile v r (findings_at m.name c.all_reasons.result) mid new =
    subst (λ k. AddsFindings c.args.profile v r (findings_at k c.all_reasons.result) mid new) c.as_str-keyword.ensures (subst (λ p. AddsFindings p v r (findings_at c.as_str-keyword.result.now c.all_reasons.result) mid new) c.facts_of-facts.ensures.profile c.in_ok-find.ensures) in
    let here : AddsFindings c.args.profile v r (findings_at m.name all_reasons) mid new = subst (λ reasons. AddsFindings c.args.profile v r (findings_at m.name reasons) mid new) c.all_reasons.ensures named in
    found_member c.args.profile v r members i m mid new within c.member-item.is here c.loop-member.invariant

pub returns : goal.returns
returns c =
    let v = c.args.subschema.now in
    let r = c.args.rule in
    let members = c.deref-member-items.result.now in
    let findings = c.loop-member.findings.items in
    let all : take c.loop-member.member-index members ≡ members = take_all c.loop-member.member-index members (omega arith) in
    let whole : members_of members ≡ v.schema.now = ap members_of c.deref-member-items.ensures.value ∙ c.schema.view_is in
    findings_are c.args.profile v r members findings c.reveal_invariant.ensures whole (subst (λ ms. AddsFindings c.args.profile v r (findings_among ms) [] findings) all c.loop-member.invariant)
