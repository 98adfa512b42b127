-- What is out where the writing of lines stops early (this project's own).
use Rattle.std.specs.Prelude.{◌≡◌, ◌⊎◌, ◌-◌, ◌<◌, ◌++◌, ℕ, zero, suc, List, length, take, drop, Bool, Option, Some, IfSome, IsSomeAnd, slice_get}
use Rattle.std.specs.Io.KnownBytes.{Appends, Keeps}
use Rattle.jtree.specs.Data.{Data}
use Rattle.plan.specs.Samples.Question.{Question}
use Rattle.enumerate.specs.Page.{IsPage, IsSampleOf}
use Rattle.crdx.specs.Output.Line.{line, lines}
use Rattle.jtree.specs.Failures.{HasFailed}
use Rattle.crdx.specs.declared.walk.line.Envelope.{Envelope}
use Rattle.crdx.specs.declared.walk.fault.WFault.{WFault}
use Rattle.crdx.specs.declared.walk.fault.WFault.TheVariants.{NotASample, NoMemory, Write}

-- a beginning, perhaps empty, that is not the whole
abbrev pub IsProperBeginning : List ℕ → List ℕ → Type 0
IsProperBeginning part whole = (n : ℕ) × (n < length whole) × (part ≡ take n whole)

-- the lines of the first n items are out, and nothing else; not all of them
pub record IsCutBetweenLines (e : Option Envelope) (items : List Data) (n : ℕ) (old new : Option (List ℕ)) : Type 0 where
  pub out : Appends old new (lines e (take n items))
  pub fewer : n < length items

-- the lines of the first n items are out, and of the next one a beginning
pub record IsCutWithinLine (e : Option Envelope) (items : List Data) (n : ℕ) (old new : Option (List ℕ)) : Type 0 where
  pub next : Data
  pub is : slice_get items n ≡ Some next
  pub part : List ℕ
  pub beginning : IsProperBeginning part (line e next)
  pub out : Appends old new (lines e (take n items) ++ part)

-- standard output failed within a line, or after the last one
abbrev pub IsCutByFailure : Option Envelope → List Data → Option (List ℕ) → Option (List ℕ) → Type 0
IsCutByFailure e items old new = ((n : ℕ) × IsCutWithinLine e items n old new) ⊎ Appends old new (lines e items)

-- what a walk past this place leaves where it fails: what the sink held and holds, and its failures then and now; lines are
-- out only past a sample, or past nothing
abbrev pub IsPartialOutput : Question → Option Data → ℕ → Option Envelope → Option (List ℕ) → Option (List ℕ) → ℕ → ℕ → WFault → Type 0
IsPartialOutput q after total e old new before now NotASample = IsSomeAnd after (λ a. IsSampleOf q a → ⊥) × Keeps old new × (now ≡ before)
IsPartialOutput q after total e old new before now (NoMemory n) = (now ≡ before) × (((n ≡ 0) × Keeps old new)
    ⊎ (IfSome after (IsSampleOf q) × ((items : List Data) (end : Bool) → IsPage q after total items end → IsCutBetweenLines e items n old new)))
IsPartialOutput q after total e old new before now (Write n) = HasFailed before now × IfSome after (IsSampleOf q)
    × ((items : List Data) (end : Bool) → IsPage q after total items end → IsCutWithinLine e items n old new)

-- the place past which n items of a page are out: that of their last one, or the place of the page where none is
abbrev pub IsPlaceAfter : ℕ → List Data → Option Data → Option Data → Type 0
IsPlaceAfter zero items after place = place ≡ after
IsPlaceAfter (suc n) items after place = place ≡ slice_get items n

-- Of the page of `total` items that a walk was to write, n are out: what is missing is the page of `total - n` items past the last
-- object out, with the same end, and there is room for one item at least.
pub record IsMissing (q : Question) (after : Option Data) (total : ℕ) (items : List Data) (end : Bool) (n : ℕ) : Type 0 where
  pub left : n < total
  pub place : Option Data
  pub place_is : IsPlaceAfter n items after place
  pub page : IsPage q place (total - n) (drop n items) end

-- So a walk that goes on after the last whole line writes exactly what is missing.
abbrev pub CanGoOn : Question → Option Data → ℕ → WFault → Type 0
CanGoOn q after total NotASample = Unit {0}
CanGoOn q after total (NoMemory n) = (items : List Data) (end : Bool) → IsPage q after total items end → IsMissing q after total items end n
CanGoOn q after total (Write n) = (items : List Data) (end : Bool) → IsPage q after total items end → IsMissing q after total items end n
