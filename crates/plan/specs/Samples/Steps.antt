-- Steps: calls for a slot, an item or a candidate, whatever is answered (this project's own). To ask for the number of slots, or whether
-- junctors name some fields, is no step.
use Rattle.std.specs.Prelude.{ℕ, ◌+◌, ◌*◌, ◌-◌, ◌^◌, min}

-- this many steps more; the count saturates
abbrev pub counted : ℕ → ℕ → ℕ
counted before n = min (before + n) (2 ^ 64 - 1)

-- the most steps that it takes to a sample, in a plan of this limit and width: 60 at limit 4 and width 2
abbrev pub delay : ℕ → ℕ → ℕ
delay limit width = 4 * (limit + 1) * (width + 1)
