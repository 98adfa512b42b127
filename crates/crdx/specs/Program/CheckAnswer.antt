-- What `check` answers of a schema as it is written: what it breaks, and under the profile `cluster` which of its patterns are refused, and what
-- else a cluster refuses in it and in its definition (this project's own).
use Rattle.std.specs.Prelude.{◌≡◌, ◌≢◌, ◌⊎◌, ◌++◌, ℕ, List, [], Bool, true, false, Option, Some, None, option_and_then, if◌then◌else◌, map, codes}
use Rattle.std.specs.Str.{bytes_eq}
use Rattle.jtree.specs.Data.{Data, text, list, Items, no_items, item}
use Rattle.jtree.specs.Path.{under, under2}
use Rattle.schema.specs.Document.Raw.{Raw}
use Rattle.schema.specs.Rules.Breaks.{Break, AreBreaks, IsUnbroken, reported_of}
use Rattle.schema.specs.Rules.Explained.{AreExplained}
use Rattle.schema.specs.declared.reason.Explained.{Explained}
use Rattle.stored.specs.Schemas.Accepted.{IsBroken}
use Rattle.definition.specs.Faults.{AreFaults, AreSchemaFaults}
use Rattle.definition.specs.Reading.{is_there}
use Rattle.definition.specs.declared.finding.Fault.{Fault}
use Rattle.crdx.specs.Program.DefinitionLines.{fault_lines}
use Rattle.crdx.specs.Program.PatternLines.{pattern_lines}
use Rattle.crdx.specs.Program.RefusedPatterns.{Refused, AreRefusedPatterns}
use Rattle.crdx.specs.Program.ViolationLines.{violation_lines, explained_lines}
use Rattle.schema.specs.declared.profile.Profile.{Profile}
use Rattle.schema.specs.declared.profile.Profile.TheVariants.{Core, Cluster}

-- ---- the subresource `status` of a version

abbrev pub is_text : List ℕ → Option Data → Bool
is_text name (Some (text t)) = bytes_eq t name
is_text name _ = false

-- the first version of this name
abbrev pub version_in : List ℕ → Items → Option Data
version_in name no_items = None
version_in name (item d ds) = if is_text name (under d (codes "name")) then Some d else version_in name ds

abbrev pub version_of : List ℕ → Option Data → Option Data
version_of name (Some (list ds)) = version_in name ds
version_of name _ = None

-- the version of this name in a definition has it
abbrev pub has_status : Data → List ℕ → Bool
has_status document name =
    is_there (option_and_then (λ v. under2 v (codes "subresources") (codes "status")) (version_of name (under2 document (codes "spec") (codes "versions"))))

-- ---- what a cluster refuses besides

-- patterns that are refused, and what is broken in the schema and in the definition
pub record Besides : Type 0 where
  pub refused : List Refused
  pub in_schema : List Fault
  pub in_definition : List Fault

abbrev pub nothing : Besides
nothing = record { refused = []; in_schema = []; in_definition = [] }

-- so it is in a definition, of whose version of this name this is the schema; under `core` there is nothing
abbrev pub IsBesides : Profile → Data → List ℕ → Data → Besides → Type 0
IsBesides Core document version raw b = b ≡ nothing
IsBesides Cluster document version raw b =
    AreRefusedPatterns raw b.refused × AreSchemaFaults (has_status document version) raw b.in_schema × AreFaults document b.in_definition

abbrev pub besides_lines : Bool → Besides → List ℕ
besides_lines why b = pattern_lines why b.refused ++ (fault_lines b.in_schema ++ fault_lines b.in_definition)

-- with `--why` or without, the exit status, and the whole text on standard output
pub data IsCheckAnswer (document : Data) (version : List ℕ) (raw : Raw) (profile : Profile) : Bool → ℕ → List ℕ → Type 0 where
  structural : (why : Bool) → IsUnbroken (IsBroken raw) → IsBesides profile document version raw.tree nothing → IsCheckAnswer document version raw profile why 0 (codes "structural\n")
  violations : (breaks : List Break) (b : Besides) → AreBreaks (IsBroken raw) breaks → IsBesides profile document version raw.tree b → (breaks ≢ []) ⊎ (b ≢ nothing)
      → IsCheckAnswer document version raw profile false 1 (violation_lines (map reported_of breaks) ++ besides_lines false b)
  -- the violations with their reasons
  explained : (found : List Explained) (b : Besides) → AreExplained (IsBroken raw) raw found → IsBesides profile document version raw.tree b → (found ≢ []) ⊎ (b ≢ nothing)
      → IsCheckAnswer document version raw profile true 1 (explained_lines found ++ besides_lines true b)
