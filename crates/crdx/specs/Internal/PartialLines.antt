-- What is out of some lines where their writing stops early, after lines that were out before: fewer than all of them.
use Rattle.std.specs.Prelude.{◌≡◌, ◌+◌, ◌<◌, ℕ, List, length, take, Option}
use Rattle.std.specs.Io.KnownBytes.{Appends}
use Rattle.jtree.specs.Data.{Data}
use Rattle.crdx.specs.Output.Line.{lines}
use Rattle.jtree.specs.Failures.{HasFailed}
use Rattle.crdx.specs.Output.PartialOutput.{IsCutWithinLine}
use Rattle.crdx.specs.declared.walk.line.Envelope.{Envelope}
use Rattle.crdx.specs.declared.walk.fault.WFault.{WFault}
use Rattle.crdx.specs.declared.walk.fault.WFault.TheVariants.{NotASample, NoMemory, Write}

abbrev pub ArePartialLines : Option Envelope → List Data → ℕ → Option (List ℕ) → Option (List ℕ) → ℕ → ℕ → WFault → Type 0
ArePartialLines e items before old new unfailed failed NotASample = ⊥
ArePartialLines e items before old new unfailed failed (NoMemory n) = (failed ≡ unfailed)
    × ((k : ℕ) × (n ≡ before + k) × (k < length items) × Appends old new (lines e (take k items)))
ArePartialLines e items before old new unfailed failed (Write n) = HasFailed unfailed failed
    × ((k : ℕ) × (n ≡ before + k) × IsCutWithinLine e items k old new)
