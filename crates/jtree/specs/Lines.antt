-- The lines of bytes, each with a document of its own (JSON Lines): a line ends with a newline, which is not of the line, and the last
-- one may end with the bytes.
use Rattle.std.specs.Prelude.{◌≡◌, ◌≢◌, ◌⊎◌, ◌<◌, ℕ, List, [], ◌∷◌, ◌++◌, length, All, Option, Some, None}
use Rattle.jtree.specs.Reads.{most_bytes}

abbrev pub newline : ℕ
newline = 10

-- the first line of the bytes, and what comes after it
pub record IsFirstLine (bytes line rest : List ℕ) : Type 0 where
  pub some : bytes ≢ []
  pub one : All (λ b. b ≢ newline) line
  pub split : (bytes ≡ line ++ newline ∷ rest) ⊎ ((bytes ≡ line) × (rest ≡ []))

-- these are all lines, in order
abbrev pub AreLines : List ℕ → List (List ℕ) → Type 0
AreLines bytes [] = bytes ≡ []
AreLines bytes (line ∷ lines) = (rest : List ℕ) × IsFirstLine bytes line rest × AreLines rest lines

-- ---- of the bytes still to come, where they are known

-- the first line is taken, with its newline
abbrev pub TakesLine : Option (List ℕ) → Option (List ℕ) → List ℕ → Type 0
TakesLine None new line = Unit {0}
TakesLine (Some bytes) None line = ⊥
TakesLine (Some bytes) (Some rest) line = IsFirstLine bytes line rest

-- and it is longer than a document
abbrev pub TakesLongLine : Option (List ℕ) → Option (List ℕ) → Type 0
TakesLongLine old new = (line : List ℕ) × TakesLine old new line × (most_bytes < length line)
