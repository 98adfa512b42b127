-- What the arguments of a command ask of the documents at hand: the schema of a version of a CustomResourceDefinition, for
-- samples a question and the sample to go on from, and else an object (this project's own).
use Rattle.std.specs.Prelude.{◌≡◌, ◌≢◌, ◌⊎◌, ◌++◌, ℕ, List, [], true, false, Option, Some, None, IsSomeAnd, Ok, Err, if◌then◌else◌, codes}
use Rattle.std.specs.Borrow.{Bor}
use Rattle.jtree.specs.Data.{Data, no_members}
use Rattle.jtree.specs.Path.{Path}
use Rattle.jtree.specs.ReadsWith.{ReadsWith, IsNoDocumentWith}
use Rattle.jtree.specs.declared.read_with.Numbers.{Numbers}
use Rattle.jtree.specs.declared.fault.JFault.{JFault}
use Rattle.schema.specs.Document.Crd.{IsRead}
use Rattle.judge.specs.Patterns.{HasPattern}
use Rattle.patterns.specs.Meaning.{is_pattern}
use Rattle.schema.specs.Document.Forms.{HasFormsOf, form_by}
use Rattle.schema.specs.Document.Limits.{standard, large, IsWithinLimits}
use Rattle.schema.specs.Document.Raw.{Raw}
use Rattle.schema.specs.Document.ReadFault.{IsReadFaultOf}
use Rattle.schema.specs.declared.limits.Limits.{Limits}
use Rattle.schema.specs.declared.raw.Reading.{Reading}
use Rattle.schema.specs.Rules.Breaks.{IsUnbroken}
use Rattle.schema.specs.Nodes.Node.{Node}
use Rattle.schema.specs.Nodes.ByPlace.{AreNodesOf}
use Rattle.schema.specs.declared.fault.SFault.{SFault}
use Rattle.schema.specs.declared.fault.SFault.TheVariants as s
use Rattle.schema.specs.declared.profile.Profile.{Profile}
use Rattle.stored.specs.Schemas.Accepted.{IsBroken}
use Rattle.plan.specs.Pools.Pools.{Pools, AreSmall}
use Rattle.plan.specs.Pools.Pools as pools
use Rattle.plan.specs.declared.pool_limits.PoolLimits.{PoolLimits}
use Rattle.plan.specs.Pools.Document.{HasFormBy, pools_of}
use Rattle.plan.specs.Pools.PoolsFault.{IsPoolsFaultBy}
use Rattle.plan.specs.Pools.PlanFault.{HasGoodPaths}
use Rattle.plan.specs.Samples.Question.{Question}
use Rattle.plan.specs.declared.fault.PFault.{PFault}
use Rattle.plan.specs.declared.fault.PFault.TheVariants as p
use Rattle.crdx.specs.declared.inputs.InputName.{InputName}
use Rattle.crdx.specs.Program.Documents.{Read, Documents, file_name}
use Rattle.crdx.specs.Program.Profiles.{numbers_by}
use Rattle.crdx.specs.Program.Envelope.{body_of}
use Rattle.crdx.specs.Program.InputFault.{IsOfBytes}
use Rattle.crdx.specs.Program.Standard.{Standard, by_node, as_written, asks_as_written}
use Rattle.crdx.specs.declared.arguments.request.CommonArguments.{CommonArguments}
use Rattle.crdx.specs.declared.arguments.request.ObjectArguments.{ObjectArguments}
use Rattle.crdx.specs.declared.arguments.request.PlanArguments.{PlanArguments}
use Rattle.crdx.specs.declared.arguments.request.SampleArguments.{SampleArguments}
use Rattle.crdx.specs.Output.Walk.{most_lines}
use Rattle.crdx.specs.declared.walk.line.Envelope.{Envelope}

-- the numbers that documents may have, by the profile that the arguments name
abbrev pub numbers_of : CommonArguments → Numbers
numbers_of arguments = numbers_by arguments.profile

-- the limits of a definition and of pools that the arguments ask for
abbrev pub limits_of : CommonArguments → Limits
limits_of arguments = if arguments.large then large else standard

-- how a definition is read
abbrev pub reading_of : CommonArguments → Reading
reading_of arguments = record { profile = arguments.profile; limits = limits_of arguments }

abbrev pub pool_limits_of : CommonArguments → PoolLimits
pool_limits_of arguments = if arguments.large then pools.large else pools.standard

-- The group, the kind and the schema of the CustomResourceDefinition and version that are named, within the limits. The schema has the form that
-- it has by the profile that the arguments name.
pub record IsRequestedTree (has : Documents) (arguments : CommonArguments) (group kind : List ℕ) (tree : Data) : Type 0 where
  pub document : Data
  pub at_hand : has (numbers_of arguments) (file_name arguments.crd) (Ok document)
  pub read : IsRead document arguments.version.now group kind tree
  pub forms : HasFormsOf (form_by arguments.profile) tree
  pub within : IsWithinLimits (limits_of arguments) tree

-- and it is judged by that profile
abbrev pub IsRequestedCrd : Documents → CommonArguments → List ℕ → List ℕ → Raw → Type 0
IsRequestedCrd has arguments group kind raw = IsRequestedTree has arguments group kind raw.tree × (raw.profile ≡ arguments.profile)

-- of this document
abbrev pub IsRequestedFrom : Data → Documents → CommonArguments → List ℕ → List ℕ → Raw → Type 0
IsRequestedFrom document has arguments group kind raw = (asked : IsRequestedCrd has arguments group kind raw) × (asked.0.document ≡ document)

abbrev pub IsRequestedSchema : Documents → CommonArguments → Raw → Type 0
IsRequestedSchema has arguments raw = (group : List ℕ) × ((kind : List ℕ) × IsRequestedCrd has arguments group kind raw)

-- it is structural: no rule is broken
pub record IsAcceptedSchema (has : Documents) (arguments : CommonArguments) (raw : Raw) : Type 0 where
  pub asked : IsRequestedSchema has arguments raw
  pub unbroken : IsUnbroken (IsBroken raw)

abbrev pub HasAcceptedSchema : Documents → CommonArguments → Type 0
HasAcceptedSchema has arguments = (raw : Raw) × IsAcceptedSchema has arguments raw

-- its root
abbrev pub IsRequestedRoot : Documents → CommonArguments → Node → Type 0
IsRequestedRoot has arguments N = (raw : Raw) × IsAcceptedSchema has arguments raw × AreNodesOf true N raw

-- the schema that is named, as it is written
abbrev pub IsRequestedWritten : Documents → CommonArguments → Data → Type 0
IsRequestedWritten has arguments tree = (group : List ℕ) × ((kind : List ℕ) × IsRequestedTree has arguments group kind tree)

-- a fault of the document that is named, read for this version within the limits
abbrev pub HasReadFault : Documents → CommonArguments → SFault → Type 0
HasReadFault has arguments fault = (document : Data) × has (numbers_of arguments) (file_name arguments.crd) (Ok document) × (fault ≢ s.NoMemory)
    × IsReadFaultOf (form_by arguments.profile) (limits_of arguments) document arguments.version.now fault

-- there is no document of this name, or it has a fault
abbrev pub IsCrdRefused : Documents → CommonArguments → Type 0
IsCrdRefused has arguments = ((fault : JFault) × IsOfBytes fault × has (numbers_of arguments) (file_name arguments.crd) (Err fault)) ⊎ ((fault : SFault) × HasReadFault has arguments fault)

-- the pools of the document that is named, within the limits, and empty ones where none is
abbrev pub ArePools : Read → Profile → PoolLimits → Option InputName → Pools → Type 0
ArePools has rules limits None P = P ≡ record { integers = []; numbers = []; strings = []; names = []; any = []; paths = no_members; fixed = no_members; present = [] }
ArePools has rules limits (Some name) P = (document : Data) × has (file_name name) (Ok document) × HasFormBy rules document × (P ≡ pools_of document) × AreSmall limits P

-- a fault of the document that is named as pools, read within the limits
abbrev pub HasPoolsFault : Read → Profile → PoolLimits → Option InputName → PFault → Type 0
HasPoolsFault has rules limits pools fault = IsSomeAnd pools (λ name. (document : Data) × has (file_name name) (Ok document) × (fault ≢ p.NoMemory) × IsPoolsFaultBy rules limits document fault)

-- there is no document where one is named, or it has a fault as pools
abbrev pub ArePoolsRefused : Read → Profile → PoolLimits → Option InputName → Type 0
ArePoolsRefused has rules limits pools = ((fault : JFault) × IsOfBytes fault × IsSomeAnd pools (λ name. has (file_name name) (Err fault))) ⊎ ((fault : PFault) × HasPoolsFault has rules limits pools fault)

-- the root of the schema that a plan is asked of, and the pools whose paths are judged by it
pub record AreRootAndPools (has : Documents) (arguments : PlanArguments) (N : Node) (P : Pools) : Type 0 where
  pub root : IsRequestedRoot has arguments.common N
  pub pools : ArePools (has (numbers_of arguments.common)) arguments.common.profile (pool_limits_of arguments.common) arguments.pools P

-- how many samples the arguments ask for at most: the greatest number that is counted where they ask for all
abbrev pub total_of : SampleArguments → ℕ
total_of arguments = if arguments.all then most_lines else arguments.count

-- the tree to go on from: the body of what the text is read as, and nothing without a text
abbrev pub IsAfter : Numbers → Option (Bor (List ℕ)) → Option Data → Type 0
IsAfter numbers None after = after ≡ None
IsAfter numbers (Some text) after = (document : Data) × ReadsWith numbers text.now document × (after ≡ Some (body_of document))

-- the text is read as no tree
abbrev pub IsAfterRefused : Numbers → Option (Bor (List ℕ)) → Type 0
IsAfterRefused numbers after = (fault : JFault) × IsOfBytes fault × IsSomeAnd after (λ text. IsNoDocumentWith numbers text.now fault)

-- the envelope of resources of this group, version, kind and name, and none without a name
abbrev pub envelope_for : List ℕ → List ℕ → List ℕ → Option (Bor (List ℕ)) → Option Envelope
envelope_for group version kind None = None
envelope_for group version kind (Some name) = Some (record { api_version = group ++ (codes "/" ++ version); kind = kind; name = name.now })

-- the question that the arguments of a plan ask, and the envelope that its samples are printed with
pub record IsRequested (has : Documents) (arguments : PlanArguments) (q : Question) (e : Option Envelope) : Type 0 where
  pub group : List ℕ
  pub kind : List ℕ
  pub raw : Raw
  pub asked : IsRequestedCrd has arguments.common group kind raw
  pub unbroken : IsUnbroken (IsBroken raw)
  pub root : AreNodesOf true q.root raw
  pub pools : ArePools (has (numbers_of arguments.common)) arguments.common.profile (pool_limits_of arguments.common) arguments.pools q.pools
  pub paths : HasGoodPaths q.root q.pools
  pub limit : q.limit ≡ arguments.limit
  pub envelope : e ≡ envelope_for group arguments.common.version.now kind arguments.name

-- the question that the arguments of `sample` ask, the tree to go on from, and the envelope
abbrev pub IsRequestedWalk : Documents → SampleArguments → Question → Option Data → Option Envelope → Type 0
IsRequestedWalk has arguments q after e = IsRequested has arguments.plan q e × IsAfter (numbers_of arguments.plan.common) arguments.after after

-- ---- objects

-- each pattern in the schema is one
abbrev pub HasPatterns : Data → Type 0
HasPatterns raw = (path : Path) (p : List ℕ) → HasPattern raw path p → is_pattern p ≡ true

-- by what an object is judged: the root of a schema that breaks no rule; or the schema as it is written, whose patterns are patterns
abbrev pub IsRequestedStandard : Documents → ObjectArguments → Standard → Type 0
IsRequestedStandard has arguments (by_node N) = (asks_as_written arguments ≡ false) × IsRequestedRoot has arguments.common N
IsRequestedStandard has arguments (as_written raw) = (asks_as_written arguments ≡ true) × IsRequestedWritten has arguments.common raw × HasPatterns raw

-- the schema as it is written has a pattern that is refused: it is none, or it is too big, of which nothing more is known
abbrev pub HasRefusedPattern : Documents → ObjectArguments → Type 0
HasRefusedPattern has arguments = (asks_as_written arguments ≡ true) × ((raw : Data) × IsRequestedWritten has arguments.common raw × ((path : Path) × ((p : List ℕ) × HasPattern raw path p)))

-- the document that is asked about, and by what it is judged
pub record IsRequestedObject (has : Documents) (arguments : ObjectArguments) (S : Standard) (document : Data) : Type 0 where
  pub standard : IsRequestedStandard has arguments S
  pub at_hand : has (numbers_of arguments.common) (file_name arguments.object) (Ok document)

-- there is no document of this name
abbrev pub IsObjectRefused : Documents → ObjectArguments → Type 0
IsObjectRefused has arguments = (fault : JFault) × IsOfBytes fault × has (numbers_of arguments.common) (file_name arguments.object) (Err fault)
