-- How a run of the program ends without an answer: what each refusal becomes, its status, and the names of inputs and codes
-- in its line (this project's own).
use Rattle.std.specs.Prelude.{◌≡◌, ◌⊎◌, ℕ, List, take, Option, string_bytes, codes}
use Rattle.std.specs.Io.KnownBytes.{Appends}
use Rattle.jtree.specs.Failures.{HasFailed}
use Rattle.crdx.specs.declared.running.answer.Answer.{Answer}
use Rattle.crdx.specs.declared.running.causes.Input.{Input}
use Rattle.crdx.specs.declared.running.causes.Input.TheVariants as input
use Rattle.crdx.specs.declared.running.causes.PlaceCode.{PlaceCode}
use Rattle.crdx.specs.declared.running.causes.PlaceCode.TheVariants as code
use Rattle.crdx.specs.declared.running.causes.Cause.{Cause}
use Rattle.crdx.specs.declared.running.causes.Cause.TheVariants as cause
use Rattle.schema.specs.declared.fault.SFault.{SFault}
use Rattle.schema.specs.declared.fault.SFault.TheVariants as s
use Rattle.schema.specs.declared.refused.Refused.{Refused}
use Rattle.schema.specs.declared.refused.Refused.TheVariants as refused
use Rattle.stored.specs.declared.fault.LFault.{LFault}
use Rattle.stored.specs.declared.fault.LFault.TheVariants as l
use Rattle.plan.specs.declared.fault.PFault.{PFault}
use Rattle.plan.specs.declared.fault.PFault.TheVariants as p
use Rattle.suggest.specs.declared.fault.SuggestFault.{SuggestFault}
use Rattle.suggest.specs.declared.fault.SuggestFault.TheVariants as suggest
use Rattle.crdx.specs.declared.walk.fault.WFault.{WFault}
use Rattle.crdx.specs.declared.walk.fault.WFault.TheVariants as w

abbrev pub input_name : Input → List ℕ
input_name input.Crd = codes "crd"
input_name input.Object = codes "object"
input_name input.Pools = codes "pools"
input_name input.After = codes "after"

abbrev pub code_name : PlaceCode → List ℕ
code_name code.KeywordForm = codes "S3"
code_name code.TooLarge = codes "S4"
code_name code.Form = codes "P1"
code_name code.BadPath = codes "P5"
code_name code.NotInObject = codes "P6"

-- running out of memory is no fault of a document
abbrev pub cause_of_reading : SFault → Cause
cause_of_reading s.NotACrd = cause.Crd s.NotACrd
cause_of_reading s.NoSuchVersion = cause.Crd s.NoSuchVersion
cause_of_reading (s.KeywordForm pointer) = cause.Place input.Crd code.KeywordForm pointer
cause_of_reading (s.TooLarge pointer) = cause.Place input.Crd code.TooLarge pointer
cause_of_reading s.NoMemory = cause.NoMemory

abbrev pub cause_of_refusal : Refused → Cause
cause_of_refusal (refused.Violations violations) = cause.Violations violations
cause_of_refusal refused.NoMemory = cause.NoMemory

abbrev pub cause_of_leaves : LFault → Cause
cause_of_leaves l.NotStored = cause.NotStored
cause_of_leaves l.NoMemory = cause.NoMemory

abbrev pub cause_of_pools : PFault → Cause
cause_of_pools (p.Form pointer) = cause.Place input.Pools code.Form pointer
cause_of_pools p.TooLarge = cause.Pools p.TooLarge
cause_of_pools p.NoMemory = cause.NoMemory
cause_of_pools p.BadLimit = cause.Pools p.BadLimit
cause_of_pools (p.BadPath path) = cause.Place input.Pools code.BadPath path

abbrev pub cause_of_suggestion : SuggestFault → Cause
cause_of_suggestion (suggest.BadPath path) = cause.Place input.Pools code.BadPath path
cause_of_suggestion (suggest.NotInObject path) = cause.Place input.Pools code.NotInObject path
cause_of_suggestion suggest.TooLarge = cause.Pools p.TooLarge
cause_of_suggestion suggest.NoMemory = cause.NoMemory

abbrev pub cause_of_walk : WFault → Cause
cause_of_walk w.NotASample = cause.NotASample
cause_of_walk (w.NoMemory n) = cause.NoMemory
cause_of_walk (w.Write n) = cause.Write n

-- 1 the answer is no, 3 an input is no such document, 4 a read or a write failed, 5 out of memory
abbrev pub status : Cause → ℕ
status (cause.Read i) = 4
status (cause.Document i fault) = 3
status (cause.Line n fault) = 3
status (cause.Crd fault) = 3
status (cause.Pools fault) = 3
status (cause.Place i c pointer) = 3
status (cause.Violations violations) = 1
status (cause.Patterns found) = 1
status (cause.NoField fault) = 1
status cause.NotStored = 1
status cause.NotASample = 1
status (cause.Write n) = 4
status cause.NoMemory = 5

-- what comes of an answer: all of it is out, or standard output failed after a beginning of it
abbrev pub IsWritten : Answer → Option (List ℕ) → Option (List ℕ) → ℕ → ℕ → ℕ → Type 0
IsWritten answer old new before now code =
    ((code ≡ answer.status) × Appends old new (string_bytes answer.out) × (now ≡ before))
    ⊎ (((code ≡ 4) ⊎ (code ≡ 5)) × HasFailed before now × ((n : ℕ) × Appends old new (take n (string_bytes answer.out))))
