-- How far a walk has come, and what one block of lines adds.
use Rattle.std.specs.Prelude.{◌≡◌, ◌⊎◌, ◌+◌, ◌*◌, ◌≤◌, ℕ, List, length, Bool, Option}
use Rattle.std.specs.Io.KnownBytes.{Appends, Keeps}
use Rattle.jtree.specs.Data.{Data}
use Rattle.plan.specs.Samples.Candidates.{IsWidth}
use Rattle.plan.specs.Samples.Question.{Question}
use Rattle.plan.specs.Samples.Steps.{delay}
use Rattle.enumerate.specs.Live.{IsNextSample, place_after}
use Rattle.enumerate.specs.Page.{IsPage}
use Rattle.crdx.specs.Output.Line.{lines}
use Rattle.crdx.specs.Internal.PartialLines.{ArePartialLines}
use Rattle.crdx.specs.declared.walk.line.Envelope.{Envelope}
use Rattle.crdx.specs.declared.walk.fault.WFault.{WFault}
use Rattle.crdx.specs.declared.walk.fault.WFault.TheVariants.{NoMemory}

-- the page past a place was written after `before` lines: so many lines are there now, and the enumeration is there
pub record AddsBlock (q : Question) (place : Option Data) (count : ℕ) (e : Option Envelope) (before lines_now : ℕ) (end : Bool) (at : Option Data) (old new : Option (List ℕ)) : Type 0 where
  pub items : List Data
  pub page : IsPage q place count items end
  pub counted : lines_now ≡ before + length items
  pub next : IsNextSample q (place_after place items) at
  pub written : Appends old new (lines e items)

-- at most as many steps as the lines written since then may take
abbrev pub IsWithinLines : Question → ℕ → ℕ → ℕ → ℕ → Type 0
IsWithinLines q lines_before lines_now steps_before steps_now =
    (width : ℕ) → IsWidth q width → steps_now + lines_before * delay q.limit width ≤ steps_before + lines_now * delay q.limit width

-- what is out where the page after `before` lines was not written whole: nothing of it, out of memory, or a part
abbrev pub IsPartialBlock : Question → Option Data → ℕ → Option Envelope → ℕ → Option (List ℕ) → Option (List ℕ) → ℕ → ℕ → WFault → Type 0
IsPartialBlock q place count e before old new unfailed failed fault =
    ((fault ≡ NoMemory before) × Keeps old new × (failed ≡ unfailed))
    ⊎ ((items : List Data) × (end : Bool) × IsPage q place count items end × ArePartialLines e items before old new unfailed failed fault)

-- so far a page is written, with so many lines, of as much as there may be in all; the enumeration is at the next sample
pub record IsSoFar (q : Question) (after : Option Data) (total : ℕ) (e : Option Envelope) (lines_now : ℕ) (end : Bool) (at : Option Data) (old new : Option (List ℕ)) : Type 0 where
  pub items : List Data
  pub page : IsPage q after (length items) items end
  pub counted : lines_now ≡ length items
  pub short : length items ≤ total
  pub next : IsNextSample q (place_after after items) at
  pub written : Appends old new (lines e items)
