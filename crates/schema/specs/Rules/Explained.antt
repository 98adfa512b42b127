-- All that is broken in a schema, each with all its reasons once: by the bytes of the keyword and then in the order of the
-- reasons (the order is this project's own).
use Rattle.std.specs.Prelude.{◌≡◌, ◌⊎◌, ℕ, List, [], ◌∷◌, AllPairs, All, Contains}
use Rattle.std.specs.declared.cmp.Ordering.TheVariants.{Less}
use Rattle.jtree.specs.Order.{text_cmp}
use Rattle.schema.specs.Document.Places.{Place}
use Rattle.schema.specs.Document.Raw.{Raw}
use Rattle.schema.specs.Rules.Breaks.{Break, Breaking, AreBreaks, reported, reported_of}
use Rattle.schema.specs.Rules.Reasons.{HasReason}
use Rattle.schema.specs.Rules.ReasonTable.{Precedes}
use Rattle.schema.specs.declared.violation.Rule.{Rule}
use Rattle.schema.specs.declared.reason.Reason.{Reason}
use Rattle.schema.specs.declared.reason.Finding.{Finding}
use Rattle.schema.specs.declared.reason.Explained.{Explained}

-- by the bytes of the keyword, and then by the table of the reasons
abbrev pub IsBefore : Finding → Finding → Type 0
IsBefore f g = (text_cmp f.keyword g.keyword ≡ Less) ⊎ ((f.keyword ≡ g.keyword) × Precedes f.reason g.reason)

abbrev pub finding : List ℕ → Reason → Finding
finding k c = record { keyword = k; reason = c }

-- the findings are all reasons for which a rule is broken at a place, in order
pub record AreFindings (raw : Raw) (p : Place) (r : Rule) (findings : List Finding) : Type 0 where
  pub each : All (λ f. HasReason raw p r f.keyword f.reason) findings
  pub all : (k : List ℕ) (c : Reason) → HasReason raw p r k c → Contains findings (finding k c)
  pub ascending : AllPairs IsBefore findings

-- a break is reported, with its reasons
abbrev pub IsExplained : Raw → Break → Explained → Type 0
IsExplained raw b e = (reported e.violation ≡ reported_of b) × AreFindings raw b.place b.rule e.findings.items

-- the lists are as long as each other, and this holds of their elements one by one
abbrev pub OneByOne : {X Y : Type 0} → (X → Y → Type 0) → List X → List Y → Type 0
OneByOne R [] [] = Unit {0}
OneByOne R (x ∷ xs) (y ∷ ys) = R x y × OneByOne R xs ys
OneByOne R _ _ = ⊥

-- all that is broken in the schema, in order, each with its reasons
abbrev pub AreExplained : Breaking → Raw → List Explained → Type 0
AreExplained IsBroken raw explained = (breaks : List Break) × AreBreaks IsBroken breaks × OneByOne (IsExplained raw) breaks explained
