-- Counting signs.
use Rattle.std.proofs.Common.{◌≡◌, ◌+◌, ℕ, suc, arith}
use Rattle.cel_parse.specs.Forms.{Tokens}
use Rattle.cel_parse.specs.Internal.Reading.{one_more}

abbrev pub plus : ℕ → ℕ × Tokens → ℕ × Tokens
plus n p = (n + p.0, p.1)

pub plus_more : (n : ℕ) (p : ℕ × Tokens) → plus (n + 1) p ≡ plus n (one_more p)
plus_more n p = let e : (n + 1) + p.0 ≡ n + suc p.0 = omega arith in λ i. (e i, p.1)

pub plus_none : (p : ℕ × Tokens) → plus 0 p ≡ p
plus_none p = let e : 0 + p.0 ≡ p.0 = omega arith in λ i. (e i, p.1)
