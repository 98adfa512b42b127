-- What `validate`, `prune`, `default` and `leaves` answer with `--lines` of the documents on the lines of an input (this project's
-- own).
use Rattle.std.specs.Prelude.{◌≡◌, ◌==◌, ◌+◌, ℕ, List, [], ◌∷◌, ◌++◌, max, Bool, true, false, if◌then◌else◌, codes, decimal, take, Option}
use Rattle.std.specs.Io.KnownBytes.{Appends}
use Rattle.jtree.specs.Data.{Data}
use Rattle.jtree.specs.Lines.{newline}
use Rattle.jtree.specs.ReadsWith.{ReadsWith, IsNoDocumentWith}
use Rattle.jtree.specs.declared.fault.JFault.{JFault}
use Rattle.jtree.specs.declared.fault.JFault.TheVariants.{NotAnInteger, NoMemory, NotJson, TooLong, ReadFailed}
use Rattle.jtree.specs.declared.read_with.Numbers.{Numbers}
use Rattle.crdx.specs.Program.InputFault.{IsOfBytes}
use Rattle.crdx.specs.Program.ObjectAnswer.{IsAnswerBy}
use Rattle.crdx.specs.Program.Standard.{Standard}
use Rattle.crdx.specs.declared.arguments.request.ObjectCommand.{ObjectCommand}
use Rattle.crdx.specs.declared.arguments.request.ObjectCommand.TheVariants.{Validate, Prune, Default, Leaves}

-- a text with these bytes before each of its lines, from the start of a line on or from within one
abbrev pub with_front : List ℕ → Bool → List ℕ → List ℕ
with_front front at_start [] = []
with_front front true (b ∷ bs) = front ++ (b ∷ with_front front (b == newline) bs)
with_front front false (b ∷ bs) = b ∷ with_front front (b == newline) bs

-- the lines of a text, each behind the number of a line of the input, a colon and a space
abbrev pub numbered : ℕ → List ℕ → List ℕ
numbered number text = with_front (decimal number ++ codes ": ") true text

-- what is printed of the document on the line of this number, which alone is answered with this status and this text: the same of
-- `prune` and `default`; of `validate` nothing where it is valid, and else the lines of its faults behind the number; of `leaves` the
-- lines of its leaves behind the number, and the code L1 where it is not stored
abbrev pub printed_at : ℕ → ObjectCommand → ℕ → List ℕ → List ℕ
printed_at number (Validate strict) status text = if status == 0 then [] else numbered number text
printed_at number Prune status text = text
printed_at number Default status text = text
printed_at number Leaves status text = numbered number (if status == 0 then text else codes "L1\n")

abbrev pub document_code : JFault → List ℕ
document_code NotAnInteger = codes "J1"
document_code NoMemory = codes "J2"
document_code NotJson = codes "J3"
document_code TooLong = codes "J4"
document_code ReadFailed = codes "J5"

-- what is printed of a line of this number that is no document: of `validate` and `leaves` the code behind the number; among the documents
-- that `prune` and `default` print there is nothing
abbrev pub code_at : ℕ → ObjectCommand → JFault → List ℕ
code_at number (Validate strict) fault = numbered number (document_code fault ++ codes "\n")
code_at number Leaves fault = numbered number (document_code fault ++ codes "\n")
code_at number _ fault = []

-- the status and the text that come of a line of this number: those of the document on it, or 3, where it is none
pub data IsLineAnswer (numbers : Numbers) (S : Standard) (command : ObjectCommand) (number : ℕ) (bytes : List ℕ) : ℕ → List ℕ → Type 0 where
  document : (d : Data) (status : ℕ) (alone text : List ℕ) → ReadsWith numbers bytes d → IsAnswerBy S d command status alone → text ≡ printed_at number command status alone → IsLineAnswer numbers S command number bytes status text
  no_document : (fault : JFault) (text : List ℕ) → IsOfBytes fault → IsNoDocumentWith numbers bytes fault → text ≡ code_at number command fault → IsLineAnswer numbers S command number bytes 3 text

-- those of lines from this number on: the greatest status, 0 where there is no line, and the texts one after the other
abbrev pub AreLineAnswers : Numbers → Standard → ObjectCommand → ℕ → List (List ℕ) → ℕ → List ℕ → Type 0
AreLineAnswers numbers S command number [] status text = (status ≡ 0) × (text ≡ [])
AreLineAnswers numbers S command number (line ∷ lines) status text = (first : ℕ) × (said : List ℕ) × (later : ℕ) × (more : List ℕ) × IsLineAnswer numbers S command number line first said
    × AreLineAnswers numbers S command (number + 1) lines later more × (status ≡ max first later) × (text ≡ said ++ more)

-- of the lines at hand, those before the rest are answered with this status and this text
pub record AreAnswered (at_hand : List (List ℕ) → Type 0) (numbers : Numbers) (S : Standard) (command : ObjectCommand) (lines rest : List (List ℕ)) (status : ℕ) (text : List ℕ) : Type 0 where
  pub there : at_hand (lines ++ rest)
  pub answers : AreLineAnswers numbers S command 1 lines status text

-- the answers to the lines before the rest are out, and nothing else
pub record AreOut (at_hand : List (List ℕ) → Type 0) (numbers : Numbers) (S : Standard) (command : ObjectCommand) (rest : List (List ℕ)) (old new : Option (List ℕ)) : Type 0 where
  pub lines : List (List ℕ)
  pub status : ℕ
  pub text : List ℕ
  pub answered : AreAnswered at_hand numbers S command lines rest status text
  pub out : Appends old new text

-- a beginning of the answers to the lines before the rest is out
pub record AreCut (at_hand : List (List ℕ) → Type 0) (numbers : Numbers) (S : Standard) (command : ObjectCommand) (rest : List (List ℕ)) (old new : Option (List ℕ)) : Type 0 where
  pub lines : List (List ℕ)
  pub status : ℕ
  pub text : List ℕ
  pub answered : AreAnswered at_hand numbers S command lines rest status text
  pub bytes : ℕ
  pub out : Appends old new (take bytes text)
