-- What `check` says of a schema, as an answer.
use Rattle.std.proofs.Common.{◌≡◌, ◌≢◌, ◌⊎◌, ◌∙◌, ◌++◌, ℕ, List, [], ◌∷◌, Bool, true, false, refl, ap, sym, subst, inl, inr, map, flat_map, Ok, Err, string_bytes, codes}
use Rattle.std.specs.Prelude.{Result, IfOk}
use Rattle.std.specs.declared.alloc.AllocError.{AllocError}
use Rattle.std.proofs.lemmas.List.Folds.{flat_map-map}
use Rattle.jtree.specs.Data.{Data}
use Rattle.jtree.specs.Internal.Rising.{contained}
use Rattle.schema.specs.Document.Raw.{Raw}
use Rattle.schema.specs.Rules.Breaks.{Reported, AreViolations, reported, reported_of, rule_name, IsUnbroken}
use Rattle.schema.specs.Rules.Explained.{AreExplained}
use Rattle.schema.specs.declared.violation.Violation.{Violation}
use Rattle.stored.specs.Schemas.Accepted.{IsBroken}
use Rattle.definition.specs.declared.finding.Fault.{Fault}
use Rattle.crdx.specs.Internal.CheckText.{IsViolationText, IsBesidesText}
use Rattle.crdx.specs.Program.CheckAnswer.{Besides, nothing, IsBesides, besides_lines, IsCheckAnswer, structural, violations, explained}
use Rattle.crdx.specs.Program.DefinitionLines.{fault_lines, code_of as rule_code}
use Rattle.crdx.specs.Program.PatternLines.{code_of, pattern_lines}
use Rattle.crdx.specs.Program.RefusedPatterns.{Refused}
use Rattle.crdx.specs.Program.ViolationLines.{violation_line, violation_lines}
use Rattle.schema.specs.declared.profile.Profile.{Profile}
use Rattle.crdx.specs.declared.running.answer.Answer.{Answer}
use Rattle.crdx.proofs.RunLemmas.{some_break, none_broken}

-- ---- no line is empty

empty_left : (xs ys : List ℕ) → xs ++ ys ≡ [] → xs ≡ []
empty_left [] ys none = refl
empty_left (x ∷ xs) ys none = cc

empty_right : (xs ys : List ℕ) → xs ++ ys ≡ [] → ys ≡ []
empty_right [] ys none = none
empty_right (x ∷ xs) ys none = cc

some_letter : (xs : List ℕ) (x : ℕ) (ys : List ℕ) → xs ++ (x ∷ ys) ≡ [] → ⊥
some_letter [] x ys none = cc
some_letter (v ∷ xs) x ys none = cc

some_line : (t : Reported) → violation_line t ≡ [] → ⊥
some_line t none = some_letter (rule_name t.rule) _ _ none

no_pattern_line : (why : Bool) (rs : List Refused) → pattern_lines why rs ≡ [] → rs ≡ []
no_pattern_line why [] none = refl
no_pattern_line false (r ∷ rs) none = absurd (some_letter (code_of r.fault) _ _ (empty_left _ _ none))
no_pattern_line true (r ∷ rs) none = absurd (some_letter (code_of r.fault) _ _ (empty_left _ _ (empty_left _ _ none)))

no_fault_line : (fs : List Fault) → fault_lines fs ≡ [] → fs ≡ []
no_fault_line [] none = refl
no_fault_line (f ∷ fs) none = absurd (some_letter (rule_code f.rule) _ _ (empty_left _ _ none))

-- what is said in no line is nothing
no_besides : (why : Bool) (b : Besides) → besides_lines why b ≡ [] → b ≡ nothing
no_besides why b none =
    let refused = no_pattern_line why b.refused (empty_left _ _ none) in
    let rest = empty_right (pattern_lines why b.refused) _ none in
    let in_schema = no_fault_line b.in_schema (empty_left _ _ rest) in
    let in_definition = no_fault_line b.in_definition (empty_right (fault_lines b.in_schema) _ rest) in
    λ i. record { refused = refused i; in_schema = in_schema i; in_definition = in_definition i }

nothing_or : (xs : List ℕ) → (xs ≡ []) ⊎ (xs ≢ [])
nothing_or [] = inl refl
nothing_or (x ∷ xs) = inr (λ none. cc)

-- ---- an answer with and without lines

none_explained : (raw : Raw) → AreExplained (IsBroken raw) raw [] → IsUnbroken (IsBroken raw)
none_explained raw ([], are, each) p r is = contained [] _ (are.all p r is)
none_explained raw (b ∷ breaks, are, each) p r is = absurd each

-- the lines of violations are those of the breaks that they report
lines_of_breaks : (raw : Raw) (vs : List Violation) (are : AreViolations (IsBroken raw) vs) (said : List ℕ) → said ≡ flat_map (λ v. violation_line (reported v)) vs → said ≡ violation_lines (map reported_of are.0)
lines_of_breaks raw vs are said same = same ∙ (sym (flat_map-map violation_line reported vs) ∙ ap violation_lines are.2)

module _ (document : Data) (version : List ℕ) (raw : Raw) (profile : Profile) (said shown : List ℕ) (a : Answer)
    (none : said ++ shown ≡ [] → (a.status ≡ 0) × (string_bytes a.out ≡ codes "structural\n"))
    (some : said ++ shown ≢ [] → (a.status ≡ 1) × (string_bytes a.out ≡ said ++ shown)) where
  abbrev Answers : Bool → Type 0
  Answers why = IsCheckAnswer document version raw profile why a.status (string_bytes a.out)

  nothing_said : (why : Bool) (b : Besides) → said ≡ [] → shown ≡ [] → shown ≡ besides_lines why b → IsUnbroken (IsBroken raw) → IsBesides profile document version raw.tree b → Answers why
  nothing_said why b no_line no_besides_line is unbroken under =
      let answer = none (ap (λ s. s ++ shown) no_line ∙ no_besides_line) in
      rw (answer.0, answer.1) (structural why unbroken (subst (IsBesides profile document version raw.tree) (no_besides why b (sym is ∙ no_besides_line)) under))

  -- some text, which is that of two lists of lines
  written : (A B : List ℕ) → said ≡ A → shown ≡ B → said ++ shown ≢ [] → (a.status ≡ 1) × (string_bytes a.out ≡ A ++ B)
  written A B same is not_empty = let yes = some not_empty in (yes.0, yes.1 ∙ (ap (λ s. s ++ shown) same ∙ ap (λ s. A ++ s) is))

  -- what is said in some line is not nothing
  something : (why : Bool) (b : Besides) → shown ≢ [] → shown ≡ besides_lines why b → b ≢ nothing
  something why b some_shown is same = some_shown (is ∙ ap (besides_lines why) same)

  check_answer : (why : Bool) → IsViolationText raw why said → IsBesidesText document version raw.tree profile why shown → Answers why
  check_answer true ([], are, same) (b, under, is) = elim (nothing_or shown) [
    | inl empty ↦ nothing_said true b same empty is (none_explained raw are) under
    | inr some_shown ↦
        let yes = written _ _ same is (λ no. some_shown (empty_right said shown no)) in
        rw (yes.0, yes.1) (explained [] b are under (inr (something true b some_shown is)))
  ]
  check_answer true (e ∷ found, are, same) (b, under, is) =
      let yes = written _ _ same is (λ empty. some_line (reported e.violation) (empty_left _ _ (empty_left _ _ (sym same ∙ empty_left said shown empty)))) in
      rw (yes.0, yes.1) (explained (e ∷ found) b are under (inl (λ no. cc)))
  check_answer false ([], are, same) (b, under, is) = elim (nothing_or shown) [
    | inl empty ↦ nothing_said false b same empty is (none_broken (IsBroken raw) are) under
    | inr some_shown ↦
        let yes = written _ _ (lines_of_breaks raw [] are said same) is (λ no. some_shown (empty_right said shown no)) in
        rw (yes.0, yes.1) (violations are.0 b are.1 under (inr (something false b some_shown is)))
  ]
  check_answer false (v ∷ vs, are, same) (b, under, is) =
      let yes = written _ _ (lines_of_breaks raw (v ∷ vs) are said same) is (λ empty. some_line (reported v) (empty_left _ _ (sym same ∙ empty_left said shown empty))) in
      rw (yes.0, yes.1) (violations are.0 b are.1 under (inl (some_break (v ∷ vs) are.0 are.2 (λ no. cc))))

pub check_result : (document : Data) (version : List ℕ) (raw : Raw) (profile : Profile) (why : Bool) (said shown : List ℕ) (r : Result Answer AllocError)
    → (said ++ shown ≡ [] → IfOk r (λ a. (a.status ≡ 0) × (string_bytes a.out ≡ codes "structural\n")))
    → (said ++ shown ≢ [] → IfOk r (λ a. (a.status ≡ 1) × (string_bytes a.out ≡ said ++ shown))) → IsViolationText raw why said → IsBesidesText document version raw.tree profile why shown
    → IfOk r (λ a. IsCheckAnswer document version raw profile why a.status (string_bytes a.out))
check_result document version raw profile why said shown (Ok a) none some is are = check_answer document version raw profile said shown a none some why is are
check_result document version raw profile why said shown (Err e) none some is are = tt
