use Rattle.std.proofs.Common.{refl, sym, ◌∙◌, subst}
use Rattle.schema.specs.Document.Refusal.{IsGiven, no_header, no_group, no_kind, no_versions}
use Rattle.schema.proofs.definition.head_of.Goals as goal

pub returns-then-not-has_header-clause-err : goal.returns-then-not-has_header-clause-err
returns-then-not-has_header-clause-err c = λ version. no_header (λ h. let yes = c.has_header.ensures.1 h in let no = c.if-not-has_header.true in cc)

pub returns-in_default-clause-err : goal.returns-in_default-clause-err
returns-in_default-clause-err c = λ version. no_group (c.has_header.ensures.0 c.if-not-has_header.false)
    (λ s is. c.in_default.ensures.none refl s (subst (λ o. IsGiven o s) (sym c.part_below.ensures) is))

pub returns-in_default-given_text-clause-err : goal.returns-in_default-given_text-clause-err
returns-in_default-given_text-clause-err c = λ version. no_kind (c.has_header.ensures.0 c.if-not-has_header.false) c.in-Some.group.now (subst (λ o. IsGiven o c.in-Some.group.now) c.part_below.ensures c.in-Some.ensures.some)
    (λ s is. c.in_default-given_text.ensures.none refl s (subst (λ o. IsGiven o s) (sym c.kind_part.ensures) is))

pub returns-in_default-list_in-clause-err : goal.returns-in_default-list_in-clause-err
returns-in_default-list_in-clause-err c = λ version.
    let group = c.in-Some.group.now in
    let kind = c.in-Some-given_text.kind.now in
    no_versions (c.has_header.ensures.0 c.if-not-has_header.false) group kind (subst (λ o. IsGiven o group) c.part_below.ensures c.in-Some.ensures.some) (subst (λ o. IsGiven o kind) c.kind_part.ensures c.in-Some-given_text.ensures.some)
    (λ versions is all. c.in_default-list_in.ensures.none refl versions (c.part_below-2.ensures ∙ is))
