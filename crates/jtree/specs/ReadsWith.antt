-- Which bytes are which tree, and why bytes are not a document, by the numbers that are read.
use Rattle.std.specs.Prelude.{ℕ, List}
use Rattle.jtree.specs.Data.{Data}
use Rattle.jtree.specs.Reads.{Reads, IsNoDocument}
use Rattle.jtree.specs.ReadsAll.{ReadsAll, IsNoDocumentAll}
use Rattle.jtree.specs.declared.fault.JFault.{JFault}
use Rattle.jtree.specs.declared.read_with.Numbers.{Numbers}
use Rattle.jtree.specs.declared.read_with.Numbers.TheVariants.{Integers, All}

abbrev pub ReadsWith : Numbers → List ℕ → Data → Type 0
ReadsWith Integers = Reads
ReadsWith All = ReadsAll

abbrev pub IsNoDocumentWith : Numbers → List ℕ → JFault → Type 0
IsNoDocumentWith Integers = IsNoDocument
IsNoDocumentWith All = IsNoDocumentAll
