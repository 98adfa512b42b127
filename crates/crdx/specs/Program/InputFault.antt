-- Why an input gives no document, and what bytes are read as (this project's own).
use Rattle.std.specs.Prelude.{◌≢◌, ◌<◌, ℕ, List, ◌∷◌, length, Option, Result, Ok, Err}
use Rattle.jtree.specs.Data.{Data}
use Rattle.jtree.specs.Failures.{one_more}
use Rattle.jtree.specs.Reads.{most_bytes}
use Rattle.jtree.specs.ReadsWith.{ReadsWith, IsNoDocumentWith}
use Rattle.jtree.specs.declared.read_with.Numbers.{Numbers}
use Rattle.jtree.specs.declared.fault.JFault.{JFault}
use Rattle.jtree.specs.declared.fault.JFault.TheVariants.{NotAnInteger, NoMemory, NotJson, TooLong, ReadFailed}
use Rattle.crdx.specs.Program.Documents.{Read}
use Rattle.crdx.specs.declared.inputs.InFault.{InFault}
use Rattle.crdx.specs.declared.inputs.InFault.TheVariants.{Failed, Document}

-- the document that the bytes are, or why they are none
abbrev pub IsReading : Numbers → List ℕ → Result Data JFault → Type 0
IsReading numbers bytes (Ok document) = ReadsWith numbers bytes document
IsReading numbers bytes (Err fault) = IsNoDocumentWith numbers bytes fault

-- a fault of the bytes themselves: they were read, and memory did not run out
abbrev pub IsOfBytes : JFault → Type 0
IsOfBytes fault = (fault ≢ NoMemory) × (fault ≢ ReadFailed)

-- a read that fails is no fault of a document
abbrev pub input_fault : JFault → InFault
input_fault ReadFailed = Failed
input_fault fault = Document fault

-- why a reading of the bytes failed; a read that fails says nothing of them
abbrev pub IsFaultOf : Numbers → List ℕ → InFault → Type 0
IsFaultOf numbers bytes Failed = Unit {0}
IsFaultOf numbers bytes (Document fault) = IsNoDocumentWith numbers bytes fault

-- the file of this name is no document; where it could not be read or memory ran out, nothing is said of it
abbrev pub IsInputFault : Read → Option (List ℕ) → InFault → Type 0
IsInputFault has name Failed = Unit {0}
IsInputFault has name (Document NotAnInteger) = has name (Err NotAnInteger)
IsInputFault has name (Document NotJson) = has name (Err NotJson)
IsInputFault has name (Document TooLong) = has name (Err TooLong)
IsInputFault has name (Document NoMemory) = Unit {0}
IsInputFault has name (Document ReadFailed) = ⊥

-- why an input was not opened: it could not be, or memory ran out
abbrev pub IsOpenFault : InFault → Type 0
IsOpenFault Failed = Unit {0}
IsOpenFault (Document NoMemory) = Unit {0}
IsOpenFault (Document _) = ⊥

-- the line that comes first is longer than a document, and it is taken
pub record TakesLongLine (coming later : List (List ℕ) → Type 0) : Type 0 where
  pub line : List ℕ
  pub long : most_bytes < length line
  pub takes : (lines : List (List ℕ)) → later lines → coming (line ∷ lines)

-- why no line was read of those that are coming: the read failed, memory ran out, or the line is longer than a document
abbrev pub IsLineFault : (List (List ℕ) → Type 0) → (List (List ℕ) → Type 0) → InFault → Type 0
IsLineFault coming later Failed = Unit {0}
IsLineFault coming later (Document NoMemory) = Unit {0}
IsLineFault coming later (Document TooLong) = TakesLongLine coming later
IsLineFault coming later (Document _) = ⊥

-- a document that could not be opened or read is one failure
abbrev pub failures_after_read : {T : Type 0} → ℕ → Result T InFault → ℕ
failures_after_read old (Err Failed) = one_more old
failures_after_read old _ = old
