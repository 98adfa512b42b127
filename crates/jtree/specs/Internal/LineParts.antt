-- The bytes still to come where some of them are in a piece that was read, and a part of a line that is taken of it.
use Rattle.std.specs.Prelude.{◌≡◌, ◌≢◌, ◌≤◌, List, [], ◌∷◌, ◌++◌, ℕ, length, drop, All, Bool, true, false, Option}
use Rattle.std.specs.Io.KnownBytes.{prepend_known}
use Rattle.jtree.specs.Lines.{newline}

-- those of the piece from an index on, and then those that the source has
abbrev pub left : ℕ → List ℕ → Option (List ℕ) → Option (List ℕ)
left at piece source = prepend_known (drop at piece) source

-- up to the next newline, which is met, or all that is left
abbrev pub AddsPart : Bool → List ℕ → List ℕ → List ℕ → Type 0
AddsPart true old new part = old ≡ part ++ newline ∷ new
AddsPart false old new part = (old ≡ part) × (new ≡ []) × (1 ≤ length part)

pub record TakesPart (met : Bool) (old new line_before line_now : List ℕ) : Type 0 where
  pub part : List ℕ
  pub line_is : line_now ≡ line_before ++ part
  pub one : All (λ b. b ≢ newline) part
  pub adds : AddsPart met old new part
