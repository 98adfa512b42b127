use Rattle.std.proofs.Common.{[], take}
use Rattle.schema.specs.Internal.Findings.{findings_among, AddsFindings}
use Rattle.schema.proofs.explaining.findings_of.Given as goal

-- the reasons that are about the keywords so far are found
abbrev pub invariant-loop-member : goal.invariant-loop-member
invariant-loop-member l = AddsFindings l.fn.profile l.subschema l.rule (findings_among (take l.member-index l.member-items)) [] l.findings.items
