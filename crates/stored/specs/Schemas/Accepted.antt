-- Which schemas are accepted: those that break none of the rules V01 to V17. V14 is asked where the sixteen others are unbroken
-- (apiextensions.k8s.io/v1, structural schemas and defaulting; the profile is this project's own).
use Rattle.std.specs.Prelude.{◌≡◌, ◌≢◌, ◌⊎◌, [], true}
use Rattle.jtree.specs.Data.{Data}
use Rattle.schema.specs.Document.Raw.{Raw}
use Rattle.schema.specs.Document.Places.{Place}
use Rattle.schema.specs.Document.Forms.{HasForms}
use Rattle.schema.specs.Rules.Broken.{Broken}
use Rattle.schema.specs.Rules.Breaks.{IsUnbroken, BreaksNone, AreViolations}
use Rattle.schema.specs.Nodes.Node.{Node}
use Rattle.schema.specs.Nodes.ByPlace.{AreNodesOf}
use Rattle.schema.specs.declared.refused.Refused.{Refused}
use Rattle.schema.specs.declared.refused.Refused.TheVariants.{Violations, NoMemory}
use Rattle.schema.specs.declared.violation.Rule.{Rule}
use Rattle.schema.specs.declared.violation.Rule.TheVariants.{V14}
use Rattle.stored.specs.Schemas.Defaults.{IsGoodDefault, HasDefault, HasGoodDefaults}

-- V14: the field at the place has a default that is not good. Fields have the defaults of their places, and where no other rule is
-- broken, no other place has a default (V03, V15).
pub record HasBadDefault (raw : Raw) (p : Place) : Type 0 where
  pub root : Node
  pub nodes : AreNodesOf true root raw
  pub node : Node
  pub default : Data
  pub is : HasDefault root p node default
  pub bad : IsGoodDefault node default → ⊥

-- the place breaks the rule
abbrev pub IsBroken : Raw → Place → Rule → Type 0
IsBroken raw p r = Broken raw p r ⊎ ((r ≡ V14) × BreaksNone raw × HasBadDefault raw p)

-- the root of a schema that breaks no rule
pub record IsRootOf (N : Node) (raw : Raw) : Type 0 where
  pub forms : HasForms raw
  pub unbroken : IsUnbroken (IsBroken raw)
  pub nodes : AreNodesOf true N raw
  pub defaults : HasGoodDefaults N

-- the root of some such schema
abbrev pub IsSchema : Node → Type 0
IsSchema N = (raw : Raw) × IsRootOf N raw

-- What a refusal says of a schema: all that is broken in it, and at least one rule; or that an allocation failed.
abbrev pub IsRefusal : Raw → Refused → Type 0
IsRefusal raw (Violations vs) = AreViolations (IsBroken raw) vs.items × (vs.items ≢ [])
IsRefusal raw NoMemory = Unit {0}
