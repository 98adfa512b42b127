-- All that is broken, each with its reasons: those of the sixteen rules, or V14, which has none.
use Rattle.std.proofs.Common.{◌≡◌, ◌≢◌, ◌∙◌, arith, List, [], ◌∷◌, refl, inl, inr}
use Rattle.std.specs.Prelude.{map, All, IfOk, Result, Ok, Err}
use Rattle.std.proofs.lemmas.List.Elements.{All-head, All-tail}
use Rattle.jtree.specs.Internal.Rising.{contained}
use Rattle.schema.specs.Document.Raw.{Raw}
use Rattle.schema.specs.Rules.Breaks.{Break, AreViolations, reported, reported_of, BreaksNone}
use Rattle.schema.specs.Rules.Broken.{Broken}
use Rattle.schema.specs.Rules.Explained.{IsExplained, AreExplained, OneByOne}
use Rattle.schema.specs.declared.reason.Explained.{Explained}
use Rattle.schema.specs.declared.violation.Violation.{Violation}
use Rattle.stored.specs.Schemas.Accepted.{IsBroken}
use Rattle.stored.proofs.DefaultListLemmas.{other_breaks}

abbrev IsWithoutReasons : Explained → Type 0
IsWithoutReasons e = e.findings.items ≡ []

-- where a rule of the sixteen is broken, V14 is not asked
pub others_explained : (raw : Raw) (found : List Explained) → found ≢ [] → AreExplained (Broken raw) raw found → AreExplained (IsBroken raw) raw found
others_explained raw [] some (breaks, are, each) = absurd (some refl)
others_explained raw (e ∷ found) some ([], are, each) = absurd each
others_explained raw (e ∷ found) some (b ∷ breaks, are, each) = (b ∷ breaks, other_breaks raw b breaks are, each)

pub none_explained : (raw : Raw) → AreExplained (Broken raw) raw [] → BreaksNone raw
none_explained raw ([], are, each) = λ p r broken. contained [] _ (are.all p r broken)
none_explained raw (b ∷ breaks, are, each) = absurd each

-- V14 has no reasons
explained_default : (raw : Raw) (b : Break) (e : Explained) → BreaksNone raw → IsBroken raw b.place b.rule → IsWithoutReasons e → reported e.violation ≡ reported_of b → IsExplained raw b e
explained_default raw b e unbroken (inl other) none is = absurd (unbroken b.place b.rule other)
explained_default raw b e unbroken (inr own) none is = (
  is,
  rw (own.0, none) (record { each = λ k d within. absurd (omega arith); all = λ k c found. absurd found.2.1; ascending = λ i j d lt within. absurd (omega arith) }),
)

-- so the breaks are explained one by one
defaults_explained : (raw : Raw) (breaks : List Break) (found : List Explained) → BreaksNone raw → All (λ b. IsBroken raw b.place b.rule) breaks → All IsWithoutReasons found
    → map (λ e. reported e.violation) found ≡ map reported_of breaks → OneByOne (IsExplained raw) breaks found
defaults_explained raw [] [] unbroken each none is = tt
defaults_explained raw [] (e ∷ found) unbroken each none is = cc
defaults_explained raw (b ∷ breaks) [] unbroken each none is = cc
defaults_explained raw (b ∷ breaks) (e ∷ found) unbroken each none is = (
  explained_default raw b e unbroken (All-head (λ c. IsBroken raw c.place c.rule) b breaks each) (All-head IsWithoutReasons e found none) cc,
  defaults_explained raw breaks found unbroken (All-tail (λ c. IsBroken raw c.place c.rule) b breaks each) (All-tail IsWithoutReasons e found none) cc,
)

-- violations of V14 alone, and what is made of them, if it is made
pub violations_explained : {V E : Type 0} (items : V → List Explained) (raw : Raw) (violations : List Violation) (r : Result V E) → BreaksNone raw → AreViolations (IsBroken raw) violations
    → IfOk r (λ v. map (λ e. reported e.violation) (items v) ≡ map reported violations) → IfOk r (λ v. All IsWithoutReasons (items v)) → IfOk r (λ v. AreExplained (IsBroken raw) raw (items v))
violations_explained items raw violations (Ok v) unbroken (breaks, are, reported_so) is none =
    (breaks, are, defaults_explained raw breaks (items v) unbroken are.each none (is ∙ reported_so))
violations_explained items raw violations (Err e) unbroken are is none = tt
