-- Why no schema is read of a document: what is wrong, and what is found there (this project's own).
use Rattle.std.specs.Prelude.{◌≡◌, ◌≢◌, ℕ, List, [], ◌∷◌, Option, Some, codes, string_bytes}
use Rattle.jtree.specs.Data.{Data, Items, no_items, item, text, list}
use Rattle.jtree.specs.Path.{Path, part_at, under, under2, under3}
use Rattle.jtree.specs.Pointer.{pointer}
use Rattle.jtree.specs.View.{data_of}
use Rattle.schema.specs.Document.Crd.{HasHeader, AreVersions, IsCrd, IsVersion, IsSchemaOf}
use Rattle.schema.specs.Document.Forms.{Form, any_tree, string, boolean, object_of_objects, boolean_or_object, object, some_objects, strings, list as a_list, integer, count, written_schema, object_of_written_schemas, boolean_or_written_schema, written_schemas, number, form_at, HasFormsOf, IsFormFaultOf}
use Rattle.schema.specs.Document.Limits.{IsLimitFault, PassesBy}
use Rattle.schema.specs.Document.ReadFault.{HasSchema}
use Rattle.schema.specs.declared.fault.SFault.{SFault}
use Rattle.schema.specs.declared.fault.SFault.TheVariants as fault
use Rattle.schema.specs.declared.forms.Form.{Form as CodeForm}
use Rattle.schema.specs.declared.forms.Form.TheVariants as code
use Rattle.schema.specs.declared.limits.Excess.{Excess}
use Rattle.schema.specs.declared.limits.Limits.{Limits}
use Rattle.schema.specs.declared.refusal.BrokenForm.{BrokenForm}
use Rattle.schema.specs.declared.refusal.Part.{Part}
use Rattle.schema.specs.declared.refusal.Part.TheVariants.{Header, Group, Kind, Versions, Schema}
use Rattle.schema.specs.declared.refusal.Refusal.{Refusal}
use Rattle.schema.specs.declared.refusal.Refusal.TheVariants.{NotACrd, NoSuchVersion, KeywordForm, TooLarge}

-- ---- the definition

-- a string that is not empty
abbrev pub IsGiven : Option Data → List ℕ → Type 0
IsGiven o s = (o ≡ Some (text s)) × (s ≢ [])

-- the strings at `spec.group` and `spec.names.kind`
abbrev pub IsGroup : Data → List ℕ → Type 0
IsGroup d s = IsGiven (under2 d (codes "spec") (codes "group")) s

abbrev pub IsKind : Data → List ℕ → Type 0
IsKind d s = IsGiven (under3 d (codes "spec") (codes "names") (codes "kind")) s

-- the part is not as it has to be, and those before it are
pub data IsWrongPart (d : Data) (version : List ℕ) : Part → Type 0 where
  no_header : (HasHeader d → ⊥) → IsWrongPart d version Header
  no_group : HasHeader d → ((s : List ℕ) → IsGroup d s → ⊥) → IsWrongPart d version Group
  no_kind : HasHeader d → (group : List ℕ) → IsGroup d group → ((s : List ℕ) → IsKind d s → ⊥) → IsWrongPart d version Kind
  no_versions : HasHeader d → (group kind : List ℕ) → IsGroup d group → IsKind d kind
      → ((versions : Items) → under2 d (codes "spec") (codes "versions") ≡ Some (list versions) → AreVersions versions → ⊥) → IsWrongPart d version Versions
  no_schema : (group kind : List ℕ) (versions : Items) (v : Data) → IsCrd d group kind versions → IsVersion versions version v → ((s : Data) → IsSchemaOf v s → ⊥) → IsWrongPart d version Schema

-- the names of versions
abbrev pub and_name : Option Data → List (List ℕ) → List (List ℕ)
and_name (Some (text s)) names = s ∷ names
and_name _ names = names

abbrev pub names_of : Items → List (List ℕ)
names_of no_items = []
names_of (item v versions) = and_name (under v (codes "name")) (names_of versions)

-- these are the versions of the definition, and none of them has the name
pub record AreOthers (d : Data) (version : List ℕ) (versions : Items) : Type 0 where
  pub group : List ℕ
  pub kind : List ℕ
  pub crd : IsCrd d group kind versions
  pub none : (v : Data) → IsVersion versions version v → ⊥

-- ---- its schema

abbrev pub form_view : CodeForm → Form
form_view code.AnyTree = any_tree
form_view code.String = string
form_view code.Boolean = boolean
form_view code.ObjectOfObjects = object_of_objects
form_view code.BooleanOrObject = boolean_or_object
form_view code.Object = object
form_view code.SomeObjects = some_objects
form_view code.Strings = strings
form_view code.List = a_list
form_view code.Integer = integer
form_view code.Count = count
form_view code.WrittenSchema = written_schema
form_view code.ObjectOfWrittenSchemas = object_of_written_schemas
form_view code.BooleanOrWrittenSchema = boolean_or_written_schema
form_view code.WrittenSchemas = written_schemas
form_view code.Number = number

-- the form that a value has to have where a path leads, and the value there
abbrev pub HasBreak : Form → Data → Path → BrokenForm → Type 0
HasBreak f d path broken = (form_view broken.form ≡ form_at f path) × (part_at d path ≡ Some (data_of broken.found.now))

-- where a limit is passed first, which one, and how many there are
abbrev pub IsExcess : Limits → Data → Excess → Type 0
IsExcess limits raw x = (path : Path) × (string_bytes x.pointer ≡ pointer path) × IsLimitFault limits raw path × PassesBy limits raw path x.limited x.found

-- ---- why none is read

-- of a document whose schema has to have a form
abbrev pub IsRefusalOf : Form → Limits → Data → List ℕ → Refusal → Type 0
IsRefusalOf f limits d version (NotACrd part) = IsWrongPart d version part
IsRefusalOf f limits d version (NoSuchVersion names) = (versions : Items) × AreOthers d version versions × (names.items ≡ names_of versions)
IsRefusalOf f limits d version (KeywordForm p broken) = (raw : Data) × HasSchema d version raw × (path : Path) × (string_bytes p ≡ pointer path) × IsFormFaultOf f raw path × HasBreak f raw path broken
IsRefusalOf f limits d version (TooLarge x) = (raw : Data) × HasSchema d version raw × HasFormsOf f raw × IsExcess limits raw x

abbrev pub IsRefusal : Limits → Data → List ℕ → Refusal → Type 0
IsRefusal limits d version r = IsRefusalOf object limits d version r

-- the same where the schema is read as a cluster reads it
abbrev pub IsWrittenRefusal : Limits → Data → List ℕ → Refusal → Type 0
IsWrittenRefusal limits d version r = IsRefusalOf written_schema limits d version r

-- which fault a refusal is
abbrev pub fault_of : Refusal → SFault
fault_of (NotACrd part) = fault.NotACrd
fault_of (NoSuchVersion names) = fault.NoSuchVersion
fault_of (KeywordForm p broken) = fault.KeywordForm p
fault_of (TooLarge excess) = fault.TooLarge excess.pointer
