-- What a walk writes: the page past a place, a line for each sample (this project's own).
use Rattle.std.specs.Prelude.{◌≡◌, ◌-◌, ◌^◌, ℕ, List, length, Bool, Option}
use Rattle.std.specs.Io.KnownBytes.{Appends}
use Rattle.jtree.specs.Data.{Data}
use Rattle.plan.specs.Samples.Question.{Question}
use Rattle.enumerate.specs.Page.{IsPage}
use Rattle.crdx.specs.Output.Line.{lines}
use Rattle.crdx.specs.declared.walk.line.Envelope.{Envelope}

-- the greatest number of lines that is counted: where all samples are asked for, it is their total
abbrev pub most_lines : ℕ
most_lines = 2 ^ 64 - 1

-- exactly the lines of the page are written, `count` of them, and the end is the page's
pub record WritesPage (q : Question) (after : Option Data) (total : ℕ) (e : Option Envelope) (count : ℕ) (end : Bool) (old new : Option (List ℕ)) : Type 0 where
  pub items : List Data
  pub page : IsPage q after total items end
  pub counted : count ≡ length items
  pub written : Appends old new (lines e items)
