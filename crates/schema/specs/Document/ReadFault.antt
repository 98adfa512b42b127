-- What a fault says of the document that was read (this project's own).
use Rattle.std.specs.Prelude.{◌≡◌, ℕ, List, string_bytes}
use Rattle.jtree.specs.Data.{Data}
use Rattle.jtree.specs.Path.{Path}
use Rattle.jtree.specs.Pointer.{pointer}
use Rattle.schema.specs.Document.Crd.{IsRead, IsNoCrd, LacksVersion}
use Rattle.schema.specs.Document.Forms.{Form, object, written_schema, HasFormsOf, IsFormFaultOf}
use Rattle.schema.specs.Document.Limits.{IsLimitFault}
use Rattle.schema.specs.declared.limits.Limits.{Limits}
use Rattle.schema.specs.declared.fault.SFault.{SFault}
use Rattle.schema.specs.declared.fault.SFault.TheVariants.{NotACrd, NoSuchVersion, KeywordForm, TooLarge, NoMemory}

-- The first value that has not its form, or, where each has it, the first place or keyword at which a limit is passed. The schema
-- has to have the form, by which its parts have theirs.
abbrev pub IsSchemaFaultOf : Form → Limits → Data → SFault → Type 0
IsSchemaFaultOf f limits raw (KeywordForm p) = (path : Path) × (string_bytes p ≡ pointer path) × IsFormFaultOf f raw path
IsSchemaFaultOf f limits raw (TooLarge p) = HasFormsOf f raw × (path : Path) × (string_bytes p ≡ pointer path) × IsLimitFault limits raw path
IsSchemaFaultOf f limits raw NoMemory = Unit {0}
IsSchemaFaultOf _ _ _ _ = ⊥

abbrev pub IsSchemaFault : Limits → Data → SFault → Type 0
IsSchemaFault limits raw fault = IsSchemaFaultOf object limits raw fault

-- the document has this schema for the version
abbrev pub HasSchema : Data → List ℕ → Data → Type 0
HasSchema d version raw = (group kind : List ℕ) × IsRead d version group kind raw

-- a fault of the document, or of the schema that it has for the version
abbrev pub IsReadFaultOf : Form → Limits → Data → List ℕ → SFault → Type 0
IsReadFaultOf f limits d version NotACrd = IsNoCrd d version
IsReadFaultOf f limits d version NoSuchVersion = LacksVersion d version
IsReadFaultOf f limits d version NoMemory = Unit {0}
IsReadFaultOf f limits d version fault = (raw : Data) × HasSchema d version raw × IsSchemaFaultOf f limits raw fault

abbrev pub IsReadFault : Limits → Data → List ℕ → SFault → Type 0
IsReadFault limits d version fault = IsReadFaultOf object limits d version fault

-- the same where the schema is read as a cluster reads it
abbrev pub IsWrittenFault : Limits → Data → List ℕ → SFault → Type 0
IsWrittenFault limits d version fault = IsReadFaultOf written_schema limits d version fault
