use Rattle.std.proofs.Common.{◌↔◌, ℕ, Option, Some, None, IsTrue, refl, sym, subst, arith}
use Rattle.std.specs.Prelude.{MatchOption}
use Rattle.std.specs.Option.{is_some}
use Rattle.plan.specs.Sets.{IsEmptyFrom, IsLeastFrom}
use Rattle.enumerate.specs.Internal.Rows.{FitsAt}
use Rattle.enumerate.proofs.walk.Walk.fits.Goals as goal

-- there is a least one where there is one at all
found : (A : ℕ → Type 0) (o : Option ℕ) → MatchOption o (IsEmptyFrom A 0) (IsLeastFrom A 0) → IsTrue (is_some o) ↔ ((n : ℕ) × A n)
found A (Some n) h = (λ yes. (n, h.1), λ some. refl)
found A None h = (λ yes. absurd (cc), λ some. absurd (h some.0 (omega arith) some.1))

pub returns : goal.returns
returns g c =
    let q = c.args.self.now.plan.now in
    let Fits = FitsAt q c.args.here.now c.args.before c.args.room in
    subst (λ b. IsTrue b ↔ ((n : ℕ) × Fits n)) (sym c.is_some.ensures) (found Fits c.least_value.result c.least_value.ensures)
