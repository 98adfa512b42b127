-- How often a place that bytes come from or go to has failed, counted up to the greatest number that its counter holds (this
-- project's own).
use Rattle.std.specs.Prelude.{ℕ, ◌+◌, ◌-◌, ◌^◌, ◌<◌, ◌≤◌, ◌⊎◌, min}

abbrev pub most_failures : ℕ
most_failures = 2 ^ 64 - 1

abbrev pub one_more : ℕ → ℕ
one_more n = min (n + 1) most_failures

-- the count is greater than it was, or cannot grow
abbrev pub HasFailed : ℕ → ℕ → Type 0
HasFailed old new = (old < new) ⊎ (most_failures ≤ old)
