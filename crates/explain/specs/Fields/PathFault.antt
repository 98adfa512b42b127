-- What the text of a path leads to, and why it leads to no field (this project's own).
use Rattle.std.specs.Prelude.{◌≡◌, ◌≢◌, ℕ, List}
use Rattle.explain.specs.Paths.FieldPath.{FieldPath}
use Rattle.explain.specs.Paths.PathText.{path_text}
use Rattle.explain.specs.declared.fault.XFault.{XFault}
use Rattle.explain.specs.declared.fault.XFault.TheVariants.{BadPath, NoSuchField}

-- the text is that of a path at which something holds
abbrev pub IsTextOf : (FieldPath → Type 0) → List ℕ → Type 0
IsTextOf Holds text = (p : FieldPath) × (path_text p ≡ text) × Holds p

-- it is not the text of a path, or is that of a path that is not declared
abbrev pub IsPathFault : (FieldPath → Type 0) → List ℕ → XFault → Type 0
IsPathFault Declares text BadPath = (p : FieldPath) → path_text p ≢ text
IsPathFault Declares text NoSuchField = IsTextOf (λ p. Declares p → ⊥) text
