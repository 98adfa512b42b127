use Rattle.std.proofs.Common.{◌≡◌, sym, subst, rules, string_bytes}
use Rattle.regex.specs.Strings.{regex_pattern, regex_source}
use Rattle.patterns.specs.Internal.Compiled.{MatchesAs}
use Rattle.patterns.proofs.PatternLemmas.{IsWritten, matches_as, compiled_is_pattern, syntax_is_none, big_is_pattern}
use Rattle.patterns.proofs.pattern.Pattern.new.Goals as goal

pub invariant_of-result : goal.invariant_of-result
invariant_of-result c =
    let source : regex_source c.in-Ok.regex ≡ string_bytes c.in-Some.written = search rules in
    let written : IsWritten c.args.text.now (string_bytes c.in-Some.written) = search rules in
    let same : c.args.text.now ≡ string_bytes c.in_ok-text-in-Ok.text = search rules in
    subst (λ p. MatchesAs p (regex_pattern c.in-Ok.regex)) same
    (matches_as c.args.text.now c.in-Ok.regex (subst (λ s. IsWritten c.args.text.now s) (sym source) written) c.in-Ok.ensures.config c.in-Ok.ensures.read)

pub returns-in-Ok-clause-pattern : goal.returns-in-Ok-clause-pattern
returns-in-Ok-clause-pattern c =
    let source : regex_source c.in-Ok.regex ≡ string_bytes c.in-Some.written = search rules in
    let written : IsWritten c.args.text.now (string_bytes c.in-Some.written) = search rules in
    compiled_is_pattern c.args.text.now c.in-Ok.regex (subst (λ s. IsWritten c.args.text.now s) (sym source) written) c.in-Ok.ensures.config c.in-Ok.ensures.read

pub returns-in-Err-Syntax-clause-none : goal.returns-in-Err-Syntax-clause-none
returns-in-Err-Syntax-clause-none c =
    let written : IsWritten c.args.text.now c.as_str.result.now = search rules in
    λ _. syntax_is_none c.args.text.now c.as_str.result.now _ _ written c.in-Err-Syntax.field-0-is c.in-Err-Syntax.ensures.kind c.in-Err-Syntax.ensures.by_grammar

pub returns-in-Err-CompiledTooBig-clause-too_big : goal.returns-in-Err-CompiledTooBig-clause-too_big
returns-in-Err-CompiledTooBig-clause-too_big c =
    let written : IsWritten c.args.text.now c.as_str.result.now = search rules in
    λ _. big_is_pattern c.args.text.now c.as_str.result.now _ written c.in-Err-CompiledTooBig.field-0-is c.in-Err-CompiledTooBig.ensures.kind
