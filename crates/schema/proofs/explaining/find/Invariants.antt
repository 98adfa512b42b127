use Rattle.std.proofs.Common.{take}
use Rattle.schema.specs.Internal.Findings.{findings_at, AddsFindings}
use Rattle.schema.proofs.explaining.find.Given as goal

-- those of the reasons so far are found
abbrev pub invariant-loop-reason : goal.invariant-loop-reason
invariant-loop-reason l = AddsFindings l.facts.profile l.subschema l.rule (findings_at l.keyword (take l.reason-index l.reasons)) l.fn.findings.items l.findings.items
