-- What `check` prints of all that is broken in a schema, and of what a cluster refuses besides.
use Rattle.std.specs.Prelude.{◌≡◌, ◌++◌, ℕ, List, Bool, true, false}
use Rattle.std.specs.List.{flat_map}
use Rattle.jtree.specs.Data.{Data}
use Rattle.schema.specs.Document.Raw.{Raw}
use Rattle.schema.specs.Rules.Breaks.{AreViolations, reported}
use Rattle.schema.specs.Rules.Explained.{AreExplained}
use Rattle.schema.specs.declared.reason.Explained.{Explained}
use Rattle.schema.specs.declared.violation.Violation.{Violation}
use Rattle.stored.specs.Schemas.Accepted.{IsBroken}
use Rattle.definition.specs.Faults.{AreFaults, AreSchemaFaults}
use Rattle.definition.specs.declared.finding.Fault.{Fault}
use Rattle.crdx.specs.Program.CheckAnswer.{Besides, IsBesides, besides_lines, has_status}
use Rattle.crdx.specs.Program.DefinitionLines.{fault_lines}
use Rattle.crdx.specs.Program.ViolationLines.{violation_line, explained_lines}
use Rattle.schema.specs.declared.profile.Profile.{Profile}

-- with the reasons where they are asked for
abbrev pub IsViolationText : Raw → Bool → List ℕ → Type 0
IsViolationText raw true said = (found : List Explained) × AreExplained (IsBroken raw) raw found × (said ≡ explained_lines found)
IsViolationText raw false said = (found : List Violation) × AreViolations (IsBroken raw) found × (said ≡ flat_map (λ v. violation_line (reported v)) found)

abbrev pub IsBesidesText : Data → List ℕ → Data → Profile → Bool → List ℕ → Type 0
IsBesidesText document version raw profile why said = (b : Besides) × IsBesides profile document version raw b × (said ≡ besides_lines why b)

-- what a cluster refuses in the schema and in the definition, patterns aside
abbrev pub IsFaultText : Data → List ℕ → Data → List ℕ → Type 0
IsFaultText document version raw said =
    (s f : List Fault) × AreSchemaFaults (has_status document version) raw s × AreFaults document f × (said ≡ fault_lines s ++ fault_lines f)
