use Rattle.schema.proofs.FindingLemmas.{reason_stands_once}
use Rattle.schema.proofs.laws.reasons_stand_once.Goals as goal

pub returns : goal.returns
returns c = reason_stands_once
