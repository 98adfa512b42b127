-- What a walk comes to (this project's own).
use Rattle.std.specs.Prelude.{◌≡◌, ◌⊎◌, ◌≤◌, ◌+◌, ◌*◌, ℕ, List, Option, Result, Err, IfOk, IfErr, OnOk, IfSome, IsSomeAnd}
use Rattle.std.specs.Io.KnownBytes.{Keeps}
use Rattle.jtree.specs.Data.{Data}
use Rattle.plan.specs.Samples.Question.{Question}
use Rattle.plan.specs.Samples.Candidates.{IsWidth}
use Rattle.plan.specs.Samples.Steps.{delay}
use Rattle.enumerate.specs.Page.{IsSampleOf}
use Rattle.crdx.specs.Output.PartialOutput.{IsPartialOutput, CanGoOn}
use Rattle.crdx.specs.Output.Walk.{WritesPage}
use Rattle.crdx.specs.declared.walk.line.Envelope.{Envelope}
use Rattle.crdx.specs.declared.walk.fault.WFault.{WFault}
use Rattle.crdx.specs.declared.walk.fault.WFault.TheVariants.{NotASample, NoMemory}
use Rattle.crdx.specs.declared.walk.walking.Walked.{Walked}

-- A walk of `total` samples past this place: the lines of the page are written, and nothing failed, within so many steps; or the place is no
-- sample, and nothing is written; or a beginning of the lines is out, and a walk that goes on writes the rest. By what the sink held and holds,
-- its failures then and now, and the steps then and now.
pub record IsWalk (q : Question) (after : Option Data) (total : ℕ) (e : Option Envelope) (old new : Option (List ℕ)) (before now steps_before steps_now : ℕ)
    (result : Result Walked WFault) : Type 0 where
  pub lines : IfOk result (λ walked. WritesPage q after total e walked.lines walked.end old new)
  pub sample : OnOk result (IfSome after (IsSampleOf q))
  pub refused : IsSomeAnd after (λ a. IsSampleOf q a → ⊥) → ((result ≡ Err NotASample) ⊎ (result ≡ Err (NoMemory 0))) × Keeps old new
  pub cut : IfErr result (IsPartialOutput q after total e old new before now)
  pub goes_on : IfErr result (CanGoOn q after total)
  pub unfailed : OnOk result (now ≡ before)
  pub steps : IfOk result (λ walked. (width : ℕ) → IsWidth q width → steps_now ≤ steps_before + (walked.lines + 1) * delay q.limit width)
