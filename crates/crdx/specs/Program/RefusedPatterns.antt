-- The patterns of a schema that are refused, in path order: they are no regular expressions of Go, or too big to be compiled (this project's own).
use Rattle.std.specs.Prelude.{◌≡◌, ◌⊎◌, List, [], ◌∷◌, map, ℕ, true, false}
use Rattle.jtree.specs.Data.{Data}
use Rattle.judge.specs.Patterns.{PatternAt, ReportedPattern, HasPattern, AreAllPatterns, reported_of}
use Rattle.patterns.specs.Meaning.{is_pattern}
use Rattle.patterns.specs.declared.fault.PatternFault.{PatternFault}
use Rattle.patterns.specs.declared.fault.PatternFault.TheVariants.{NoPattern, TooBig, NoMemory}

-- why a pattern is refused: it is none, or it is too big, of which nothing more is known
abbrev pub IsPatternFault : PatternFault → List ℕ → Type 0
IsPatternFault NoPattern p = is_pattern p ≡ false
IsPatternFault TooBig p = is_pattern p ≡ true
IsPatternFault NoMemory p = ⊥

-- a pattern that is refused, and why
pub record Refused : Type 0 where
  pub pattern : ReportedPattern
  pub fault : PatternFault

-- of these patterns those are refused, in order, and the others are patterns
abbrev pub AreRefusedOf : List ReportedPattern → List Refused → Type 0
AreRefusedOf [] rs = rs ≡ []
AreRefusedOf (p ∷ ps) rs = ((is_pattern p.text ≡ true) × AreRefusedOf ps rs)
    ⊎ ((fault : PatternFault) × (later : List Refused) × (rs ≡ record { pattern = p; fault = fault } ∷ later) × IsPatternFault fault p.text × AreRefusedOf ps later)

-- of all patterns of a schema
abbrev pub AreRefusedPatterns : Data → List Refused → Type 0
AreRefusedPatterns raw rs = (fs : List PatternAt) × AreAllPatterns (HasPattern raw) fs × AreRefusedOf (map reported_of fs) rs
