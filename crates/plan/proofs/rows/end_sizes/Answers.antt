use Rattle.std.proofs.Common.{◌≡◌, ◌∙◌, Bool, true, false, sym}
use Rattle.plan.proofs.RowLemmas.{within_of, within_from}
use Rattle.plan.proofs.rows.end_sizes.Goals as goal

pub returns-then-is_within : goal.returns-then-is_within
returns-then-is_within g c = λ n. (
  (λ h. ((c.one.ensures n).0 h, within_of c.args.bounds c.args.count (sym c.is_within.ensures ∙ c.if-is_within.true))),
  λ h. (c.one.ensures n).1 h.0,
)

pub returns-else-is_within : goal.returns-else-is_within
returns-else-is_within g c = λ n. (
  (λ h. absurd (c.empty.ensures n h)),
  λ h. let same : ◌≡◌ {A = Bool} true false = sym (within_from c.args.bounds c.args.count h.1) ∙ (sym c.is_within.ensures ∙ c.if-is_within.false) in absurd (cc),
)
