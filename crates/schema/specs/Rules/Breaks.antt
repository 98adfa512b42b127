-- All that is broken in a schema: each pair of a place and a rule once, in path order of the places and then by number
-- (structural schemas, apiextensions.k8s.io/v1; the profile and the order are this project's own).
use Rattle.std.specs.Prelude.{◌≡◌, ℕ, List, map, AllPairs, All, Contains, string_bytes, codes}
use Rattle.std.specs.Ordering.{nat_cmp, ordering_then}
use Rattle.std.specs.declared.cmp.Ordering.{Ordering}
use Rattle.std.specs.declared.cmp.Ordering.TheVariants.{Less}
use Rattle.jtree.specs.PathOrder.{path_cmp}
use Rattle.schema.specs.Document.Places.{Place, place_path, place_pointer}
use Rattle.schema.specs.Document.Raw.{Raw}
use Rattle.schema.specs.Rules.Broken.{Broken}
use Rattle.schema.specs.declared.violation.Rule.{Rule}
use Rattle.schema.specs.declared.violation.Rule.TheVariants.{V01, V02, V03, V04, V05, V06, V07, V08, V09, V10, V11, V12, V13, V14, V15, V16, V17}
use Rattle.schema.specs.declared.violation.Violation.{Violation}

abbrev pub number : Rule → ℕ
number V01 = 1
number V02 = 2
number V03 = 3
number V04 = 4
number V05 = 5
number V06 = 6
number V07 = 7
number V08 = 8
number V09 = 9
number V10 = 10
number V11 = 11
number V12 = 12
number V13 = 13
number V14 = 14
number V15 = 15
number V16 = 16
number V17 = 17

abbrev pub rule_name : Rule → List ℕ
rule_name V01 = codes "V01"
rule_name V02 = codes "V02"
rule_name V03 = codes "V03"
rule_name V04 = codes "V04"
rule_name V05 = codes "V05"
rule_name V06 = codes "V06"
rule_name V07 = codes "V07"
rule_name V08 = codes "V08"
rule_name V09 = codes "V09"
rule_name V10 = codes "V10"
rule_name V11 = codes "V11"
rule_name V12 = codes "V12"
rule_name V13 = codes "V13"
rule_name V14 = codes "V14"
rule_name V15 = codes "V15"
rule_name V16 = codes "V16"
rule_name V17 = codes "V17"

-- a place and a rule that is broken there
pub record Break : Type 0 where
  pub place : Place
  pub rule : Rule

abbrev pub break_cmp : Break → Break → Ordering
break_cmp b c = ordering_then (path_cmp (place_path b.place) (place_path c.place)) (nat_cmp (number b.rule) (number c.rule))

-- which rules are broken, and where
abbrev pub Breaking : Type 1
Breaking = Place → Rule → Type 0

pub record AreBreaks (IsBroken : Breaking) (breaks : List Break) : Type 0 where
  pub each : All (λ b. IsBroken b.place b.rule) breaks
  pub all : (p : Place) (r : Rule) → IsBroken p r → Contains breaks (record { place = p; rule = r })
  pub ascending : AllPairs (λ b c. break_cmp b c ≡ Less) breaks

-- no rule is broken at any place
abbrev pub IsUnbroken : Breaking → Type 0
IsUnbroken IsBroken = (p : Place) (r : Rule) → IsBroken p r → ⊥

-- a schema breaks none of the rules V01 to V13 and V15 to V17
abbrev pub BreaksNone : Raw → Type 0
BreaksNone raw = IsUnbroken (Broken raw)

-- a violation as its pointer and its rule
pub record Reported : Type 0 where
  pub pointer : List ℕ
  pub rule : Rule

abbrev pub reported : Violation → Reported
reported v = record { pointer = string_bytes v.pointer; rule = v.rule }

abbrev pub reported_of : Break → Reported
reported_of b = record { pointer = place_pointer b.place; rule = b.rule }

-- the violations are all that is broken, in order
abbrev pub AreViolations : Breaking → List Violation → Type 0
AreViolations IsBroken violations = (breaks : List Break) × AreBreaks IsBroken breaks × (map reported violations ≡ map reported_of breaks)
