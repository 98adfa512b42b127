use Rattle.std.proofs.Common.{[], sym, subst}
use Rattle.std.specs.Prelude.{All}
use Rattle.schema.specs.Document.Raw.{raw_by}
use Rattle.schema.specs.Internal.Judged.{pairs_of, AddsBreaks}
use Rattle.schema.specs.Internal.Subschemas.{IsSubschema}
use Rattle.schema.specs.Rules.Broken.{Broken}
use Rattle.schema.specs.Rules.Explained.{IsExplained, AreExplained}
use Rattle.schema.proofs.JudgedLemmas.{breaks_reported}
use Rattle.schema.proofs.explaining.explained.Goals as goal

pub returns-in_ok-reports_of-in-Ok-clause-ok : goal.returns-in_ok-reports_of-in-Ok-clause-ok
returns-in_ok-reports_of-in-Ok-clause-ok c =
    let s = c.in-Ok.ensures.subschemas in
    let found = c.in_ok-reports_of-in-Ok.field-0.items in
    let raw = c.args.raw.now in
    let adds = subst (λ p. AddsBreaks p IsExplained (λ raw. All (IsSubschema raw) c.as_slice.result.now) (pairs_of c.as_slice.result.now) [] found) c.profile.ensures c.in_ok-reports_of-in-Ok.ensures in
    subst (λ t. AreExplained (Broken (raw_by raw.profile t)) (raw_by raw.profile t) found) (sym s.1)
    (breaks_reported raw.profile IsExplained s.0 c.in-Ok.subschemas.items found s.2 s.3 (subst (λ vs. AddsBreaks raw.profile IsExplained (λ raw. All (IsSubschema raw) vs) (pairs_of vs) [] found) c.as_slice.ensures.value adds))
