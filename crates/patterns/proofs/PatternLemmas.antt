-- What a text is read as, and that a compiled pattern matches so.
use Rattle.std.proofs.Common.{◌≡◌, ◌≢◌, ℕ, ◌<◌, ◌≤◌, List, All, true, false, Option, Some, None, option_and_then, IsSomeAnd, IfSome, ◌⊎◌, inl, inr, is_some, refl, sym, ap, ◌∙◌, chars}
use Rattle.std.proofs.lemmas.Bool.{le-leb, lt-leb, cond-true, cond-false}
use Rattle.std.proofs.lemmas.List.{get_or_default}
use Rattle.regex.specs.Patterns.{Re, SameCaptures, default_config, Reads, Refuses}
use Rattle.regex.specs.Strings.{regex_pattern, regex_source, regex_config, IsReadFromSource}
use Rattle.regex.specs.Failures.{IsPattern, IsRightKind}
use Rattle.regex.specs.Sources.{IsRefusal}
use Rattle.regex.specs.declared.error.Error.{Error}
use Rattle.regex.specs.declared.error.Error.TheVariants.{Syntax, CompiledTooBig}
use Rattle.regex_syntax.specs.declared.error.Error as parser
use Rattle.regex.specs.declared.string.regex.Regex.{Regex}
use Rattle.regex_syntax.specs.Brackets.{Nested}
use Rattle.regex_syntax.specs.Grammar.{Names, read}
use Rattle.regex_syntax.specs.declared.error.ErrorKind.{ErrorKind}
use Rattle.regex_syntax.specs.declared.error.ErrorKind.TheVariants.{OutOfMemory}
use Rattle.regex_syntax.proofs.CapturesLemmas.{find_str_alike, spans}
use Rattle.regex_syntax.proofs.Written.{is_some-option_map}
use Rattle.go_text.specs.KitSyntax.{in_kit_syntax}
use Rattle.patterns.specs.Meaning.{most_nesting, within_limit, kit_reading, reading, is_pattern, is_found, is_found_by}
use Rattle.patterns.specs.Internal.Compiled.{AreBytes, MatchesAs}

-- ---- how the kit reads a text in its own syntax

-- within the limit, the expression that was read
kept : (x : Nested Re × Names) → x.0.depth ≤ most_nesting → within_limit x ≡ Some x.0.value
kept (re, names) le = cond-true _ _ _ (le-leb re.depth 250 le)

dropped : (x : Nested Re × Names) → most_nesting < x.0.depth → within_limit x ≡ None
dropped (re, names) lt = cond-false _ _ _ (lt-leb re.depth 250 lt)

found_alike : (a b : Re) → SameCaptures a b → (text : List ℕ) → AreBytes text → is_found a text ≡ is_found b text
found_alike a b same text bytes =
    let small : All (λ x. x < 256) text = λ k d h. rw (get_or_default text k d 0 h) (bytes k) in
    sym (is_some-option_map spans _) ∙ ap is_some (find_str_alike a b same text small 0) ∙ is_some-option_map spans _

-- what is found by an expression that matches like the one read
found_as_read : (o : Option (Nested Re × Names)) (a : Re) (Q R : Nested Re × Names → Type 0) →
    IsSomeAnd o (λ x. (x.0.depth ≤ most_nesting) × SameCaptures a x.0.value × Q x × R x) →
    (text : List ℕ) → AreBytes text → is_found a text ≡ is_found_by (option_and_then within_limit o) text
found_as_read None a Q R p text bytes = absurd p
found_as_read (Some x) a Q R p text bytes = rw (kept x p.0) (found_alike a x.0.value p.1 text bytes)

compiled : (r : Regex) → regex_config r ≡ default_config → IsReadFromSource r
    → (text : List ℕ) → AreBytes text → is_found (regex_pattern r) text ≡ is_found_by (kit_reading (chars (regex_source r))) text
unfolding Reads
compiled r is_default is_read text bytes = found_as_read _ (regex_pattern r) _ _ (rw is_default at is_read) text bytes

read_there : (o : Option (Nested Re × Names)) (P Q R : Nested Re × Names → Type 0) →
    IsSomeAnd o (λ x. (x.0.depth ≤ most_nesting) × P x × Q x × R x) → is_some (option_and_then within_limit o) ≡ true
read_there None P Q R p = absurd p
read_there (Some x) P Q R p = rw (kept x p.0)

-- what the grammar reads is there
reads_there : (source : List ℕ) → IsPattern default_config source → is_some (kit_reading (chars source)) ≡ true
unfolding Reads
reads_there source (hir, names, reads) = read_there (read default_config (chars source)) _ _ _ reads

not_read : (o : Option (Nested Re × Names)) (A : Type 0) →
    (o ≡ None) ⊎ (A × IfSome o (λ x. most_nesting < x.0.depth)) → is_some (option_and_then within_limit o) ≡ false
not_read None A p = refl
not_read (Some x) A (inl e) = cc
not_read (Some x) A (inr p) = rw (dropped x p.1)

-- and what is refused is not
refused_there : (source : List ℕ) (kind : ErrorKind) → kind ≢ OutOfMemory → Refuses default_config source kind → is_some (kit_reading (chars source)) ≡ false
unfolding Refuses
refused_there source kind other (inl e) = absurd (other e)
refused_there source kind other (inr p) = not_read (read default_config (chars source)) _ p

-- ---- patterns

-- the source is what is written for the pattern
abbrev pub IsWritten : List ℕ → List ℕ → Type 0
IsWritten pattern source = in_kit_syntax (chars pattern) ≡ Some (chars source)

read_as : (pattern source : List ℕ) → IsWritten pattern source → reading pattern ≡ kit_reading (chars source)
read_as pattern source written = ap (option_and_then kit_reading) written

pub nothing_written : (pattern : List ℕ) → in_kit_syntax (chars pattern) ≡ None → is_pattern pattern ≡ false
nothing_written pattern none = ap (λ o. is_some (option_and_then kit_reading o)) none

pub matches_as : (pattern : List ℕ) (r : Regex) → IsWritten pattern (regex_source r) → regex_config r ≡ default_config → IsReadFromSource r
    → MatchesAs pattern (regex_pattern r)
matches_as pattern r written is_default is_read text bytes =
    compiled r is_default is_read text bytes ∙ ap (λ o. is_found_by o text) (sym (read_as pattern (regex_source r) written))

pub compiled_is_pattern : (pattern : List ℕ) (r : Regex) → IsWritten pattern (regex_source r) → regex_config r ≡ default_config → IsReadFromSource r
    → is_pattern pattern ≡ true
compiled_is_pattern pattern r written is_default is_read =
    ap is_some (read_as pattern (regex_source r) written) ∙ reads_there (regex_source r) (_, _, rw is_default at is_read)

pub syntax_is_none : (pattern source : List ℕ) (error : Error) (e : parser.Error) → IsWritten pattern source → error ≡ Syntax e
    → IsRightKind default_config source error → IsRefusal default_config source error → is_pattern pattern ≡ false
syntax_is_none pattern source error e written is right refusal =
    ap is_some (read_as pattern source written) ∙ refused_there source e.kind (rw is at right) (refusal e is)

pub big_is_pattern : (pattern source : List ℕ) (error : Error) → IsWritten pattern source → error ≡ CompiledTooBig
    → IsRightKind default_config source error → is_pattern pattern ≡ true
big_is_pattern pattern source error written is right = ap is_some (read_as pattern source written) ∙ reads_there source (rw is at right)
