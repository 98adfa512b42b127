-- For private contracts: what a fault says of the part that was read, or that an allocation failed.
use Rattle.std.specs.Prelude.{◌≡◌, ℕ, List, Option, Some, string_bytes}
use Rattle.jtree.specs.Data.{Data, Items}
use Rattle.jtree.specs.Path.{Path}
use Rattle.jtree.specs.Pointer.{pointer}
use Rattle.schema.specs.Document.Crd.{AreVersions}
use Rattle.schema.specs.Document.Forms.{Form, IsFormFaultOf}
use Rattle.schema.specs.Document.Refusal.{IsWrongPart, AreOthers, HasBreak, IsExcess}
use Rattle.schema.specs.Internal.Events.{Passing}
use Rattle.schema.specs.declared.definition.Unfound.{Unfound}
use Rattle.schema.specs.declared.definition.Unfound.TheVariants.{WrongPart, NoVersion}
use Rattle.schema.specs.declared.definition.Unfound.TheVariants as finding
use Rattle.schema.specs.declared.forms.Misformed.{Misformed}
use Rattle.schema.specs.declared.forms.Misformed.TheVariants.{Broken}
use Rattle.schema.specs.declared.forms.Misformed.TheVariants as forms
use Rattle.schema.specs.declared.limits.Limits.{Limits}
use Rattle.schema.specs.declared.fault.SFault.{SFault}
use Rattle.schema.specs.declared.listing.Unlisted.{Unlisted}
use Rattle.schema.specs.declared.listing.Unlisted.TheVariants.{Passed}
use Rattle.schema.specs.declared.listing.Unlisted.TheVariants as listing
use Rattle.schema.specs.declared.fault.SFault.TheVariants.{NotACrd, NoSuchVersion, KeywordForm, TooLarge, NoMemory}

-- the items are no versions
abbrev pub IsVersionsFault : Items → SFault → Type 0
IsVersionsFault versions NotACrd = AreVersions versions → ⊥
IsVersionsFault versions NoMemory = Unit {0}
IsVersionsFault _ _ = ⊥

-- the part that is wrong, the versions of which none has the name, or that an allocation failed
abbrev pub IsUnfound : Data → List ℕ → Unfound → Type 0
IsUnfound d version (WrongPart part) = IsWrongPart d version part
IsUnfound d version (NoVersion versions) = AreOthers d version versions.now
IsUnfound d version finding.NoMemory = Unit {0}

abbrev pub finding_fault : Unfound → SFault
finding_fault (WrongPart part) = NotACrd
finding_fault (NoVersion versions) = NoSuchVersion
finding_fault finding.NoMemory = NoMemory

-- the first value that has not its form, of a value that has to have one
abbrev pub IsFirstBreak : Form → Data → Option Path → Misformed → Type 0
IsFirstBreak f d o (Broken p broken) = (path : Path) × (string_bytes p ≡ pointer path) × (o ≡ Some path) × HasBreak f d path broken
IsFirstBreak f d o forms.NoMemory = Unit {0}

-- the first value of the schema, which has to have a form, that has not its form
abbrev pub IsMisformed : Form → Data → Misformed → Type 0
IsMisformed f raw (Broken p broken) = (path : Path) × (string_bytes p ≡ pointer path) × IsFormFaultOf f raw path × HasBreak f raw path broken
IsMisformed f raw forms.NoMemory = Unit {0}

abbrev pub form_fault : Misformed → SFault
form_fault (Broken p broken) = KeywordForm p
form_fault forms.NoMemory = NoMemory

-- where a limit is passed first
abbrev pub IsLimitRefusal : Option Passing → Unlisted → Type 0
IsLimitRefusal o (Passed x) = (p : Passing) × (string_bytes x.pointer ≡ pointer p.path) × ((x.limited ≡ p.limited) × (x.found ≡ p.found)) × (o ≡ Some p)
IsLimitRefusal o listing.NoMemory = Unit {0}

-- a limit of the schema is passed
abbrev pub IsLimitFaultOf : Limits → Data → Unlisted → Type 0
IsLimitFaultOf limits raw (Passed x) = IsExcess limits raw x
IsLimitFaultOf limits raw listing.NoMemory = Unit {0}

abbrev pub listing_fault : Unlisted → SFault
listing_fault (Passed x) = TooLarge x.pointer
listing_fault listing.NoMemory = NoMemory
