-- What is read of the lines that are coming of an input.
use Rattle.std.specs.Prelude.{◌≡◌, ◌+◌, ℕ, List, ◌∷◌, [], ◌++◌, length, map}
use Rattle.jtree.specs.Data.{Data}
use Rattle.jtree.specs.ReadsWith.{ReadsWith, IsNoDocumentWith}
use Rattle.jtree.specs.View.{data_of}
use Rattle.jtree.specs.declared.value.Tree.{Tree}
use Rattle.jtree.specs.declared.fault.JFault.{JFault}
use Rattle.jtree.specs.Failures.{HasFailed}
use Rattle.crdx.specs.Program.Envelope.{body_of}
use Rattle.crdx.specs.Program.InputFault.{IsOfBytes}
use Rattle.crdx.specs.Program.Objects.{AreRead, text_of_lines}
use Rattle.jtree.specs.declared.fault.JFault.TheVariants as f
use Rattle.crdx.specs.declared.inputs.InFault.{InFault}
use Rattle.crdx.specs.declared.inputs.InFault.TheVariants.{Failed}
use Rattle.crdx.specs.declared.inputs.InFault.TheVariants as in_fault
use Rattle.crdx.specs.declared.running.causes.Input.TheVariants as input
use Rattle.crdx.specs.declared.running.causes.Cause.{Cause}
use Rattle.crdx.specs.declared.running.causes.Cause.TheVariants.{Read, Document, Line, NoMemory}
use Rattle.jtree.specs.declared.read_with.Numbers.{Numbers}

-- the bodies of the documents come after the objects
abbrev pub AreAdded : List Data → List Tree → List Tree → Type 0
AreAdded ds old new = map data_of new ≡ map data_of old ++ map body_of ds

-- all lines to come are read, and their objects are added
pub record AddsLines (numbers : Numbers) (coming : List (List ℕ) → Type 0) (old new : List Tree) : Type 0 where
  pub lines : List (List ℕ)
  pub are : coming lines
  pub documents : List Data
  pub read : AreRead numbers lines documents
  pub added : AreAdded documents old new

-- so many lines are read so far, and their objects are added; those to come then come after them
pub record AddsSoFar (numbers : Numbers) (first now : List (List ℕ) → Type 0) (count : ℕ) (old new : List Tree) : Type 0 where
  pub lines : List (List ℕ)
  pub after : (rest : List (List ℕ)) → now rest → first (lines ++ rest)
  pub documents : List Data
  pub read : AreRead numbers lines documents
  pub counted : count ≡ length lines + 1
  pub added : AreAdded documents old new

-- the line of this number, the first of those to come being the second of the input, is no document, and those before it are
pub record IsBrokenLater (numbers : Numbers) (coming : List (List ℕ) → Type 0) (number : ℕ) (fault : JFault) : Type 0 where
  pub before : List (List ℕ)
  pub documents : List Data
  pub line : List ℕ
  pub after : List (List ℕ)
  pub are : coming (before ++ line ∷ after)
  pub read : AreRead numbers before documents
  pub number_is : number ≡ length before + 2
  pub no_document : IsNoDocumentWith numbers line fault

-- the line of this number is no document, or memory ran out
abbrev pub IsBrokenLine : Numbers → ℕ → List ℕ → Cause → Type 0
IsBrokenLine numbers number line (Line n fault) = (n ≡ number) × IsOfBytes fault × IsNoDocumentWith numbers line fault
IsBrokenLine numbers number line NoMemory = Unit {0}
IsBrokenLine numbers number line _ = ⊥

abbrev pub IsLaterCause : Numbers → (List (List ℕ) → Type 0) → ℕ → ℕ → Cause → Type 0
IsLaterCause numbers coming before now (Read i) = HasFailed before now
IsLaterCause numbers coming before now (Line number fault) = IsOfBytes fault × IsBrokenLater numbers coming number fault
IsLaterCause numbers coming before now NoMemory = Unit {0}
IsLaterCause numbers coming before now _ = ⊥

-- the first line with those to come is one document, whose object is added
pub record AddsText (numbers : Numbers) (coming : List (List ℕ) → Type 0) (first : List ℕ) (old new : List Tree) : Type 0 where
  pub lines : List (List ℕ)
  pub are : coming lines
  pub document : Data
  pub reads : ReadsWith numbers (text_of_lines (first ∷ lines)) document
  pub added : AreAdded (document ∷ []) old new

-- the text is that of the first line and of those read so far; those to come then come after them
pub record IsTextSoFar (before now : List (List ℕ) → Type 0) (first text : List ℕ) : Type 0 where
  pub lines : List (List ℕ)
  pub after : (rest : List (List ℕ)) → now rest → before (lines ++ rest)
  pub is : text ≡ text_of_lines (first ∷ lines)

abbrev pub IsTextCause : Numbers → (List (List ℕ) → Type 0) → List ℕ → ℕ → ℕ → Cause → Type 0
IsTextCause numbers coming first before now (Read i) = HasFailed before now
IsTextCause numbers coming first before now (Document i fault) = IsOfBytes fault × (lines : List (List ℕ)) × coming lines × IsNoDocumentWith numbers (text_of_lines (first ∷ lines)) fault
IsTextCause numbers coming first before now NoMemory = Unit {0}
IsTextCause numbers coming first before now _ = ⊥

-- what becomes of a fault of a line that is to be part of a document
abbrev pub cause_of_text : InFault → Cause
cause_of_text Failed = Read input.Object
cause_of_text (in_fault.Document f.NoMemory) = NoMemory
cause_of_text (in_fault.Document fault) = Document input.Object fault

-- the text is no document
abbrev pub IsRefusedText : Numbers → List ℕ → Cause → Type 0
IsRefusedText numbers text (Document i fault) = IsOfBytes fault × IsNoDocumentWith numbers text fault
IsRefusedText numbers text NoMemory = Unit {0}
IsRefusedText numbers text _ = ⊥
