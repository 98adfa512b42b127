-- What the patterns that are refused say of a schema.
use Rattle.std.proofs.Common.{◌≡◌, ◌≢◌, ℕ, List, [], ◌∷◌, ◌++◌, map, true, length, arith, refl, ap, subst, inl, inr}
use Rattle.std.specs.Prelude.{◌==◌}
use Rattle.std.proofs.lemmas.Bool.Decides.{nat_tests}
use Rattle.std.proofs.lemmas.List.Elements.{All-head}
use Rattle.jtree.specs.Data.{Data}
use Rattle.jtree.specs.Internal.Rising.{Among, contained}
use Rattle.jtree.specs.Path.{Path}
use Rattle.judge.specs.Patterns.{PatternAt, ReportedPattern, HasPattern, reported_of}
use Rattle.patterns.specs.Meaning.{is_pattern}
use Rattle.patterns.specs.declared.fault.PatternFault.{PatternFault}
use Rattle.crdx.specs.Internal.PatternsFound.{refused_of}
use Rattle.crdx.specs.Program.RefusedPatterns.{Refused, IsPatternFault, AreRefusedOf, AreRefusedPatterns}
use Rattle.crdx.specs.Program.Requested.{HasPatterns}
use Rattle.crdx.specs.declared.running.schema_patterns.RefusedPattern.{RefusedPattern}

-- one pattern more
pub passed_more : (ps : List ReportedPattern) (rs : List Refused) (p : ReportedPattern) → AreRefusedOf ps rs → is_pattern p.text ≡ true → AreRefusedOf (ps ++ p ∷ []) rs
passed_more [] rs p none is = inl (is, none)
passed_more (q ∷ ps) rs p (inl (good, rest)) is = inl (good, passed_more ps rs p rest is)
passed_more (q ∷ ps) rs p (inr (fault, later, same, why, rest)) is = inr (fault, later, same, why, passed_more ps later p rest is)

pub refused_more : (ps : List ReportedPattern) (rs : List Refused) (p : ReportedPattern) (fault : PatternFault) → AreRefusedOf ps rs → IsPatternFault fault p.text
    → AreRefusedOf (ps ++ p ∷ []) (rs ++ record { pattern = p; fault = fault } ∷ [])
refused_more [] rs p fault none is = inr (fault, [], ap (λ l. l ++ record { pattern = p; fault = fault } ∷ []) none, is, refl)
refused_more (q ∷ ps) rs p fault (inl (good, rest)) is = inl (good, refused_more ps rs p fault rest is)
refused_more (q ∷ ps) rs p fault (inr (first, later, same, why, rest)) is =
    let more = record { pattern = p; fault = fault } ∷ [] in inr (first, later ++ more, ap (λ l. l ++ more) same, why, refused_more ps later p fault rest is)

pub none_among : (raw : Data) (rs : List RefusedPattern) → AreRefusedPatterns raw (map refused_of rs) → (length rs == 0) ≡ true → AreRefusedPatterns raw []
none_among raw [] are none = are
none_among raw (r ∷ rs) are none = absurd (grind (arith, nat_tests))

-- where none is refused, all are patterns
all_passed : (fs : List PatternAt) → AreRefusedOf (map reported_of fs) [] → (f : PatternAt) → Among fs f → is_pattern f.text ≡ true
all_passed [] none f is = absurd is
all_passed (g ∷ fs) (inl (good, rest)) f (inl same) = subst (λ h. is_pattern h.text ≡ true) same good
all_passed (g ∷ fs) (inl (good, rest)) f (inr later) = all_passed fs rest f later
all_passed (g ∷ fs) (inr (fault, later, same, why, rest)) f is = cc

pub none_refused : (raw : Data) → AreRefusedPatterns raw [] → HasPatterns raw
none_refused raw (fs, are, refused) path p has = all_passed fs refused (record { path = path; text = p }) (contained fs (record { path = path; text = p }) (are.all path p has))

-- where one is refused, there is a pattern
pub some_refused : (raw : Data) (rs : List RefusedPattern) → AreRefusedPatterns raw (map refused_of rs) → rs ≢ [] → (path : Path) × ((p : List ℕ) × HasPattern raw path p)
some_refused raw [] are some = absurd (some refl)
some_refused raw (r ∷ rs) ([], are, none) some = cc
some_refused raw (r ∷ rs) (f ∷ fs, are, refused) some = (f.path, (f.text, All-head (λ g. HasPattern raw g.path g.text) f fs are.each))
