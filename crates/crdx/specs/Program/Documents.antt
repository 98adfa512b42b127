-- Which documents are at hand (this project's own).
use Rattle.std.specs.Prelude.{ℕ, List, Option, Some, None, Result}
use Rattle.jtree.specs.Data.{Data}
use Rattle.jtree.specs.declared.fault.JFault.{JFault}
use Rattle.jtree.specs.declared.read_with.Numbers.{Numbers}
use Rattle.crdx.specs.declared.inputs.InputName.{InputName}
use Rattle.crdx.specs.declared.inputs.InputName.TheVariants.{Stdin, File}

-- by the name of a file, or by none for the standard input: the document that is there, or why there is none
abbrev pub Read : Type 1
Read = Option (List ℕ) → Result Data JFault → Type 0

-- those by the numbers that are read
abbrev pub Documents : Type 1
Documents = Numbers → Read

abbrev pub file_name : InputName → Option (List ℕ)
file_name Stdin = None
file_name (File name) = Some name.now

-- by the name of a file, or by none for the standard input: the lines that it has
abbrev pub Lines : Type 1
Lines = Option (List ℕ) → List (List ℕ) → Type 0

-- all of the first are among the second
abbrev pub AreAmong : Documents → Documents → Type 0
AreAmong first second = (numbers : Numbers) (name : Option (List ℕ)) (document : Result Data JFault) → first numbers name document → second numbers name document

abbrev pub AreLinesAmong : Lines → Lines → Type 0
AreLinesAmong first second = (name : Option (List ℕ)) (lines : List (List ℕ)) → first name lines → second name lines
