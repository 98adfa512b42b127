use Rattle.schema.proofs.explaining.ExplainedReport.of_break.Goals as goal

pub returns : goal.returns
returns c = λ raw known. (c.in_ok-of_break.ensures raw known, c.in_ok-findings_of.ensures raw known)
