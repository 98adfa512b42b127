-- What a compiled pattern is to its text.
use Rattle.std.specs.Prelude.{◌≡◌, ℕ, ◌<◌, List, get_or}
use Rattle.regex.specs.Patterns.{Re}
use Rattle.patterns.specs.Meaning.{is_found, matches_pattern}

abbrev pub AreBytes : List ℕ → Type 0
AreBytes text = (k : ℕ) → get_or text k 0 < 256

-- the expression is found in the texts that the pattern matches
abbrev pub MatchesAs : List ℕ → Re → Type 0
MatchesAs pattern re = (text : List ℕ) → AreBytes text → is_found re text ≡ matches_pattern pattern text
