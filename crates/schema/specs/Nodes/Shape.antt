-- What a shape is, and what a refusal says (this project's own).
use Rattle.std.specs.Prelude.{◌≢◌, [], true}
use Rattle.schema.specs.Document.Forms.{HasForms}
use Rattle.schema.specs.Document.Raw.{Raw}
use Rattle.schema.specs.Rules.Broken.{Broken}
use Rattle.schema.specs.Rules.Breaks.{AreViolations, BreaksNone}
use Rattle.schema.specs.Nodes.Node.{Node}
use Rattle.schema.specs.Nodes.ByPlace.{AreNodesOf}
use Rattle.schema.specs.declared.refused.Refused.{Refused}
use Rattle.schema.specs.declared.refused.Refused.TheVariants.{Violations, NoMemory}

-- the root is that of a schema that breaks none of the rules
pub record IsRootOf (N : Node) (raw : Raw) : Type 0 where
  pub forms : HasForms raw
  pub unbroken : BreaksNone raw
  pub nodes : AreNodesOf true N raw

-- the root of some such schema
abbrev pub IsShape : Node → Type 0
IsShape N = (raw : Raw) × IsRootOf N raw

-- What a refusal says of a schema: all that is broken in it, and at least one rule; or that an allocation failed.
abbrev pub IsShapeRefusal : Raw → Refused → Type 0
IsShapeRefusal raw (Violations vs) = AreViolations (Broken raw) vs.items × (vs.items ≢ [])
IsShapeRefusal raw NoMemory = Unit {0}
