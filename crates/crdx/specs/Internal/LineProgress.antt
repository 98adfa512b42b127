-- How far the lines of an input are answered, and why their answers end early.
use Rattle.std.specs.Prelude.{◌≡◌, ◌⊎◌, ℕ, List, ◌∷◌, ◌++◌, length, take, Option}
use Rattle.std.specs.Io.KnownBytes.{Appends, Keeps}
use Rattle.jtree.specs.Failures.{HasFailed}
use Rattle.jtree.specs.declared.read_with.Numbers.{Numbers}
use Rattle.crdx.specs.Program.Standard.{Standard}
use Rattle.crdx.specs.Program.LineAnswers.{IsLineAnswer, AreLineAnswers, AreOut, AreCut}
use Rattle.crdx.specs.declared.arguments.request.ObjectCommand.{ObjectCommand}
use Rattle.jtree.specs.declared.fault.JFault.TheVariants as f
use Rattle.crdx.specs.declared.inputs.InFault.{InFault}
use Rattle.crdx.specs.declared.inputs.InFault.TheVariants.{Failed, Document}
use Rattle.crdx.specs.declared.running.causes.Input.TheVariants as input
use Rattle.crdx.specs.declared.running.causes.Cause.{Cause}
use Rattle.crdx.specs.declared.running.causes.Cause.TheVariants.{Read, Line, Write, NoMemory}

-- so far so many lines are answered with this status; those that come then come after them
pub record IsAnsweredSoFar (first now : List (List ℕ) → Type 0) (numbers : Numbers) (S : Standard) (command : ObjectCommand) (count status : ℕ) (old new : Option (List ℕ)) : Type 0 where
  pub lines : List (List ℕ)
  pub text : List ℕ
  pub after : (rest : List (List ℕ)) → now rest → first (lines ++ rest)
  pub answers : AreLineAnswers numbers S command 1 lines status text
  pub counted : count ≡ length lines
  pub out : Appends old new text

-- the line that comes next is answered with this status and this text
pub record IsNextAnswer (now later : List (List ℕ) → Type 0) (numbers : Numbers) (S : Standard) (command : ObjectCommand) (number status : ℕ) (text : List ℕ) : Type 0 where
  pub line : List ℕ
  pub takes : (rest : List (List ℕ)) → later rest → now (line ∷ rest)
  pub answer : IsLineAnswer numbers S command number line status text

-- why there is no next answer: a read failed, or memory ran out
abbrev pub IsUnreadCause : ℕ → ℕ → Cause → Type 0
IsUnreadCause unread read (Read i) = HasFailed unread read
IsUnreadCause unread read NoMemory = Unit {0}
IsUnreadCause unread read _ = ⊥

-- why a text is not all out: a beginning of it is, since the write failed
abbrev pub IsCutCause : List ℕ → Option (List ℕ) → Option (List ℕ) → ℕ → ℕ → Cause → Type 0
IsCutCause text old new unfailed failed (Write n) = HasFailed unfailed failed × ((bytes : ℕ) × Appends old new (take bytes text))
IsCutCause text old new unfailed failed _ = ⊥

-- why not all lines are answered: nothing is out where none was read, else the answers to the lines before, or a beginning of them
abbrev pub IsLinesCause : (List (List ℕ) → Type 0) → Numbers → Standard → ObjectCommand → ℕ → ℕ → Option (List ℕ) → Option (List ℕ) → ℕ → ℕ → Cause → Type 0
IsLinesCause at_hand numbers S command unread read old new unfailed failed (Read i) = HasFailed unread read × (failed ≡ unfailed)
    × (Keeps old new ⊎ ((rest : List (List ℕ)) × AreOut at_hand numbers S command rest old new))
IsLinesCause at_hand numbers S command unread read old new unfailed failed (Write n) = HasFailed unfailed failed × ((rest : List (List ℕ)) × AreCut at_hand numbers S command rest old new)
IsLinesCause at_hand numbers S command unread read old new unfailed failed NoMemory = (failed ≡ unfailed)
    × (Keeps old new ⊎ ((rest : List (List ℕ)) × AreOut at_hand numbers S command rest old new))
IsLinesCause at_hand numbers S command unread read old new unfailed failed _ = ⊥

-- what becomes of a fault of the input at the line of this number
abbrev pub cause_of_line : ℕ → InFault → Cause
cause_of_line number Failed = Read input.Object
cause_of_line number (Document f.NoMemory) = NoMemory
cause_of_line number (Document fault) = Line number fault
