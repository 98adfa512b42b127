-- Which rules are broken in a definition or in a schema, and where: each pair of a path and a rule, in path order and then by number (the
-- order is this project's own).
use Rattle.std.specs.Prelude.{◌≡◌, ℕ, List, [], ◌∷◌, map, All, AllPairs, Contains, Bool, true, false, Some, string_bytes}
use Rattle.std.specs.Ordering.{nat_cmp, ordering_then}
use Rattle.std.specs.declared.cmp.Ordering.{Ordering}
use Rattle.std.specs.declared.cmp.Ordering.TheVariants.{Less}
use Rattle.jtree.specs.Data.{Data}
use Rattle.jtree.specs.Path.{Path, part_by}
use Rattle.jtree.specs.PathOrder.{path_cmp}
use Rattle.jtree.specs.Pointer.{pointer}
use Rattle.definition.specs.Rules.{number}
use Rattle.definition.specs.Parts.{below}
use Rattle.definition.specs.Broken.{breaks}
use Rattle.definition.specs.declared.rule.Rule.{Rule}
use Rattle.definition.specs.declared.part.Fields.TheVariants.{Definition}
use Rattle.definition.specs.declared.part.Needed.TheVariants.{Anything}
use Rattle.definition.specs.declared.part.Place.{Place}
use Rattle.definition.specs.declared.part.Part.{Part}
use Rattle.definition.specs.declared.part.Part.TheVariants as part
use Rattle.definition.specs.declared.finding.Fault.{Fault}

-- The path leads from a part to one that breaks the rule, which is q: the empty path to the part itself, any other through what stands at
-- its first step.
abbrev pub IsBroken : Part → Data → Path → Rule → Part → Type 0
IsBroken p d [] r q = (breaks r p d ≡ true) × (p ≡ q)
IsBroken p d (s ∷ path) r q = (e : Data) × (part_by d s ≡ Some e) × IsBroken (below p d s) e path r q

-- ---- all of them, in order

pub record Break : Type 0 where
  pub path : Path
  pub rule : Rule
  pub part : Part

abbrev pub break_cmp : Break → Break → Ordering
break_cmp f g = ordering_then (path_cmp f.path g.path) (nat_cmp (number f.rule) (number g.rule))

pub record AreBreaks (Is : Path → Rule → Part → Type 0) (fs : List Break) : Type 0 where
  pub each : All (λ f. Is f.path f.rule f.part) fs
  pub all : (path : Path) (r : Rule) (q : Part) → Is path r q → Contains fs (record { path = path; rule = r; part = q })
  pub ascending : AllPairs (λ f g. break_cmp f g ≡ Less) fs

-- a fault as the pointer of its path, its rule and its part
pub record Reported : Type 0 where
  pub pointer : List ℕ
  pub rule : Rule
  pub part : Part

abbrev pub reported : Fault → Reported
reported f = record { pointer = string_bytes f.pointer; rule = f.rule; part = f.part }

abbrev pub reported_of : Break → Reported
reported_of f = record { pointer = pointer f.path; rule = f.rule; part = f.part }

-- these are all faults from a part on, in order, each once
abbrev pub AreFaultsFrom : Part → Data → List Fault → Type 0
AreFaultsFrom p d found = (fs : List Break) × AreBreaks (IsBroken p d) fs × (map reported found ≡ map reported_of fs)

-- of a whole definition, which a document is
abbrev pub AreFaults : Data → List Fault → Type 0
AreFaults d found = AreFaultsFrom (part.Fields Definition) d found

-- of the schema of a whole resource, with the subresource `status` or without it
abbrev pub root_place : Bool → Place
root_place has_status = record { is_root = true; has_status = has_status; is_inside = false; is_in_metadata = false; needed = Anything }

abbrev pub AreSchemaFaults : Bool → Data → List Fault → Type 0
AreSchemaFaults has_status s found = AreFaultsFrom (part.Place (root_place has_status)) s found
