-- The objects that `pools` is given: the bodies of the documents of the inputs that are named (this project's own).
use Rattle.std.specs.Prelude.{◌≡◌, ◌≢◌, ◌⊎◌, ◌+◌, ℕ, List, [], ◌∷◌, ◌++◌, length, map, Contains}
use Rattle.jtree.specs.Data.{Data}
use Rattle.jtree.specs.Lines.{newline}
use Rattle.jtree.specs.ReadsWith.{ReadsWith, IsNoDocumentWith}
use Rattle.jtree.specs.declared.fault.JFault.{JFault}
use Rattle.crdx.specs.Program.CommandLine.{input_of}
use Rattle.crdx.specs.Program.Documents.{Lines}
use Rattle.crdx.specs.Program.Envelope.{body_of}
use Rattle.crdx.specs.Program.InputFault.{IsOfBytes}
use Rattle.jtree.specs.declared.read_with.Numbers.{Numbers}

-- the text of lines
abbrev pub text_of_lines : List (List ℕ) → List ℕ
text_of_lines [] = []
text_of_lines (line ∷ []) = line
text_of_lines (line ∷ lines) = line ++ newline ∷ text_of_lines lines

-- each line is a document
abbrev pub AreRead : Numbers → List (List ℕ) → List Data → Type 0
AreRead numbers [] [] = Unit {0}
AreRead numbers (line ∷ lines) (d ∷ ds) = ReadsWith numbers line d × AreRead numbers lines ds
AreRead numbers _ _ = ⊥

-- the line is no document
abbrev pub IsRefused : Numbers → List ℕ → Type 0
IsRefused numbers text = (fault : JFault) × IsOfBytes fault × IsNoDocumentWith numbers text fault

-- the first line is no document, or there is none
abbrev pub BeginsWithNone : Numbers → List (List ℕ) → Type 0
BeginsWithNone numbers [] = Unit {0}
BeginsWithNone numbers (line ∷ lines) = IsRefused numbers line

-- The documents of lines: one on each of them where the first is one; else all together are one.
pub data AreDocuments (numbers : Numbers) : List (List ℕ) → List Data → Type 0 where
  on_lines : (line : List ℕ) (lines : List (List ℕ)) (ds : List Data) → AreRead numbers (line ∷ lines) ds → AreDocuments numbers (line ∷ lines) ds
  over_lines : (lines : List (List ℕ)) (d : Data) → BeginsWithNone numbers lines → ReadsWith numbers (text_of_lines lines) d → AreDocuments numbers lines (d ∷ [])

-- why lines have no documents: all together they are none
abbrev pub IsNoText : Numbers → JFault → List (List ℕ) → Type 0
IsNoText numbers fault lines = BeginsWithNone numbers lines × IsNoDocumentWith numbers (text_of_lines lines) fault

-- or the line of this number, counted from 1, is none, after some that are
pub record IsBrokenAt (numbers : Numbers) (number : ℕ) (fault : JFault) (lines : List (List ℕ)) : Type 0 where
  pub before : List (List ℕ)
  pub documents : List Data
  pub line : List ℕ
  pub after : List (List ℕ)
  pub is : lines ≡ before ++ line ∷ after
  pub some : before ≢ []
  pub read : AreRead numbers before documents
  pub number_is : number ≡ length before + 1
  pub no_document : IsNoDocumentWith numbers line fault

-- the bodies of the documents of the inputs that these words name, one input after the other
pub data AreObjects (numbers : Numbers) (at_hand : Lines) : List (List ℕ) → List Data → Type 0 where
  none : AreObjects numbers at_hand [] []
  more : (words : List (List ℕ)) (objects : List Data) (word : List ℕ) (lines : List (List ℕ)) (ds : List Data) → AreObjects numbers at_hand words objects
      → at_hand (input_of word) lines → AreDocuments numbers lines ds → AreObjects numbers at_hand (words ++ word ∷ []) (objects ++ map body_of ds)

-- the lines of an input that one of the words names are so
abbrev pub HasInput : Lines → List (List ℕ) → (List (List ℕ) → Type 0) → Type 0
HasInput at_hand words Is = (word : List ℕ) × Contains words word × (lines : List (List ℕ)) × at_hand (input_of word) lines × Is lines

-- those of one have no documents
abbrev pub AreRefused : Numbers → Lines → List (List ℕ) → Type 0
AreRefused numbers at_hand words = (fault : JFault) × IsOfBytes fault × HasInput at_hand words (λ lines. IsNoText numbers fault lines ⊎ ((number : ℕ) × IsBrokenAt numbers number fault lines))
