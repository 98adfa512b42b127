use Rattle.std.proofs.Common.{subst, rules}
use Rattle.std.proofs.lemmas.List.{nil_from_length}
use Rattle.schema.specs.Rules.Broken.{Broken}
use Rattle.schema.specs.Rules.Explained.{AreExplained}
use Rattle.stored.proofs.ExplainedLemmas.{violations_explained, others_explained, none_explained}
use Rattle.stored.proofs.explaining.explained.Goals as goal

pub returns-then-is_empty : goal.returns-then-is_empty
returns-then-is_empty c =
    let raw = c.args.raw.now in
    violations_explained (λ found. found.items) raw c.in_ok-bad_default_violations-in-Ok.field-0.items c.without_reasons.result
    (none_explained raw (subst (AreExplained (Broken raw) raw) (search (rules, nil_from_length)) c.in-Ok.ensures.ok)) c.in_ok-bad_default_violations-in-Ok.ensures c.without_reasons.ensures.violations c.without_reasons.ensures.findings

pub returns-in-Ok : goal.returns-in-Ok
returns-in-Ok c = others_explained c.args.raw.now c.in-Ok.explained.items (search (rules, nil_from_length)) c.in-Ok.ensures.ok
