use Rattle.std.proofs.Common.{◌<◌, ◌+◌, length, take, get_or, ap, sym, subst, arith}
use Rattle.schema.specs.Internal.Findings.{findings_at, AddsFindings}
use Rattle.schema.specs.Rules.Explained.{finding}
use Rattle.schema.specs.declared.reason.Reason.TheVariants.{NotInBranches}
use Rattle.schema.proofs.FindingLemmas.{found_reason, passed_reason}
use Rattle.schema.proofs.explaining.find.Goals as goal
use Rattle.schema.proofs.explaining.find.Goals.{then-is_reason+in_ok-from_str+in_ok-push, else-is_reason}

pub loop-reason-preserved : goal.loop-reason-preserved
loop-reason-preserved c =
    let v = c.args.subschema.now in
    let k = c.args.keyword.now in
    let reasons = c.args.reasons.now in
    let i = c.loop-reason.reason-index in
    let old = c.args.findings.now.items in
    let mid = c.loop-reason.findings.items in
    let within : i < length reasons = omega arith in
    let after = findings_at k (take (i + 1) reasons) in
    elim c.if-is_reason.branch [
      | then-is_reason+in_ok-from_str+in_ok-push w ↦
          let d = get_or reasons i NotInBranches in
          let same = ap (λ l. finding l d) w.in_ok-from_str.ensures in
          let more = found_reason c.args.facts.now.profile v c.args.rule k reasons i NotInBranches old mid (finding w.in_ok-from_str.field-0 d) within same w.if-is_reason.ensures c.loop-reason.invariant in
          subst (λ fs. AddsFindings c.args.facts.now.profile v c.args.rule after old fs.items) (sym w.findings-is)
          (subst (λ fs. AddsFindings c.args.facts.now.profile v c.args.rule after old fs) (sym w.in_ok-push.ensures.items) more)
      | else-is_reason w ↦
          subst (λ fs. AddsFindings c.args.facts.now.profile v c.args.rule after old fs.items) (sym w.findings-is)
          (passed_reason c.args.facts.now.profile v c.args.rule k reasons i NotInBranches old mid within w.if-is_reason.ensures c.loop-reason.invariant)
    ]
