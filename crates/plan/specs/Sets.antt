-- Sets of sizes, each said by what its members are. A set holds numbers below 64, or below 128, as the bits of a word, so a plan over
-- it has a limit of 1 to 63, or to 127. This project's own.
use Rattle.std.specs.Prelude.{◌≡◌, ℕ, ◌+◌, ◌≤◌, ◌<◌}
use Rattle.std.specs.Int.{bit_at}

-- The bit of this place is set in a word of `bits` bits.
abbrev pub HasBit : ℕ → ℕ → ℕ → Type 0
HasBit bits word n = (n < bits) × (bit_at word n ≡ 1)

-- The number is a sum of a member of each set.
abbrev pub IsSum : (ℕ → Type 0) → (ℕ → Type 0) → ℕ → Type 0
IsSum A B n = (i : ℕ) × ((j : ℕ) × (A i × B j × (i + j ≡ n)))

-- The number is the least member at or above `low`.
abbrev pub IsLeastFrom : (ℕ → Type 0) → ℕ → ℕ → Type 0
IsLeastFrom A low n = (low ≤ n) × A n × ((i : ℕ) → low ≤ i → i < n → ¬ A i)

-- No member is at or above `low`.
abbrev pub IsEmptyFrom : (ℕ → Type 0) → ℕ → Type 0
IsEmptyFrom A low = (i : ℕ) → low ≤ i → ¬ A i
