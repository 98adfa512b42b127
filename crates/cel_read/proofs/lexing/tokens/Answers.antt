use Rattle.std.proofs.Common.{◌≡◌, ◌<◌, ◌-◌, ◌∙◌, length, chars, Some, None, ap, sym, subst, rules, arith}
use Rattle.std.proofs.lemmas.Str.{chars_from_encodes}
use Rattle.cel_read.specs.Tokens.{Reads, nothing}
use Rattle.cel_read.specs.View.{token_lexemes}
use Rattle.cel_read.specs.Internal.Reading.{read_lexeme}
use Rattle.cel_read.specs.Internal.Found.{found_of, lexeme_of}
use Rattle.cel_read.specs.Internal.Kept.{IsKept, kept}
use Rattle.cel_read.proofs.TokenLemmas.{left_shorter, no_lexeme, no_lexeme_no_tokens, refused, refused_no_tokens, kept_more, read_shorter}
use Rattle.cel_read.proofs.lexing.tokens.Goals as goal

pub lexemes-init : goal.lexemes-init
lexemes-init c =
    let t = chars c.args.text.now in
    let all : c.as_slice-rest.result.now ≡ t = search (rules, chars_from_encodes) in
    subst (λ u. Reads t (token_lexemes c.new-tokens.result.items) u) (sym all)
    (subst (λ ts. Reads t (token_lexemes ts) t) (sym c.new-tokens.ensures.items) (nothing t))

pub overflow_sub-place : goal.overflow_sub-place
overflow_sub-place c =
    let t = chars c.args.text.now in
    let all : c.as_slice-rest.result.now ≡ t = search (rules, chars_from_encodes) in
    let count : c.len.result ≡ length c.as_slice-rest.result.now = search rules in
    omega (arith, left_shorter t _ _ c.lexemes.invariant, count, ap length all)

pub returns-in_default-clause-err : goal.returns-in_default-clause-err
returns-in_default-clause-err c =
    let t = chars c.args.text.now in
    let rest = c.lexemes.rest.now in
    let all : c.as_slice-rest.result.now ≡ t = search (rules, chars_from_encodes) in
    let count : c.len.result ≡ length c.as_slice-rest.result.now = search rules in
    let some : 0 < length rest = search rules in
    let none : read_lexeme rest ≡ None = search rules in
    no_lexeme t rest (token_lexemes c.lexemes.tokens.items) _ c.lexemes.invariant some (ap (λ n. n - length rest) (count ∙ ap length all)) none

pub returns-in_default-clause-none : goal.returns-in_default-clause-none
returns-in_default-clause-none c =
    let t = chars c.args.text.now in
    let rest = c.lexemes.rest.now in
    let some : 0 < length rest = search rules in
    let none : read_lexeme rest ≡ None = search rules in
    no_lexeme_no_tokens t rest (token_lexemes c.lexemes.tokens.items) 0 c.lexemes.invariant some none

pub returns-in-Err-clause-err : goal.returns-in-Err-clause-err
returns-in-Err-clause-err c =
    let t = chars c.args.text.now in
    let rest = c.lexemes.rest.now in
    let found = c.in-Some.found in
    let all : c.as_slice-rest.result.now ≡ t = search (rules, chars_from_encodes) in
    let count : c.len.result ≡ length c.as_slice-rest.result.now = search rules in
    let some : 0 < length rest = search rules in
    let read : read_lexeme rest ≡ Some (found_of found) = search rules in
    refused t rest found.rest.now (token_lexemes c.lexemes.tokens.items) (lexeme_of found.lexeme) _ c.in-Err.fault c.lexemes.invariant some
    (ap (λ n. n - length rest) (count ∙ ap length all)) read c.in-Err.ensures.err

pub returns-in-Err-clause-none : goal.returns-in-Err-clause-none
returns-in-Err-clause-none c =
    let found = c.in-Some.found in
    let rest = c.lexemes.rest.now in
    let read : read_lexeme rest ≡ Some (found_of found) = search rules in
    refused_no_tokens (chars c.args.text.now) rest found.rest.now (token_lexemes c.lexemes.tokens.items) (lexeme_of found.lexeme) _ c.in-Err.fault
    c.lexemes.invariant read c.in-Err.ensures.err

pub lexemes-smaller : goal.lexemes-smaller
lexemes-smaller c =
    let found = c.in-Some.found in
    let read : read_lexeme c.lexemes.rest.now ≡ Some (found_of found) = search rules in
    read_shorter c.lexemes.rest.now (lexeme_of found.lexeme) found.rest.now read

pub lexemes-preserved : goal.lexemes-preserved
lexemes-preserved c =
    let t = chars c.args.text.now in
    let rest = c.lexemes.rest.now in
    let found = c.in-Some.found in
    let ls = token_lexemes c.lexemes.tokens.items in
    let read : read_lexeme rest ≡ Some (found_of found) = search rules in
    let token : IsKept (lexeme_of found.lexeme) c.in-Ok.token = c.in-Ok.ensures.ok in
    let more : token_lexemes c.keep.new.tokens.items ≡ kept ls c.in-Ok.token = search rules in
    subst (λ ls. Reads t ls found.rest.now) (sym more) (kept_more t rest found.rest.now ls (lexeme_of found.lexeme) c.in-Ok.token c.lexemes.invariant read token)

pub lexemes-smaller-in_ok-keep : goal.lexemes-smaller-in_ok-keep
lexemes-smaller-in_ok-keep c =
    let found = c.in-Some.found in
    let read : read_lexeme c.lexemes.rest.now ≡ Some (found_of found) = search rules in
    read_shorter c.lexemes.rest.now (lexeme_of found.lexeme) found.rest.now read

pub lexemes-preserved-in_ok-keep : goal.lexemes-preserved-in_ok-keep
lexemes-preserved-in_ok-keep c =
    let t = chars c.args.text.now in
    let rest = c.lexemes.rest.now in
    let found = c.in-Some.found in
    let ls = token_lexemes c.lexemes.tokens.items in
    let read : read_lexeme rest ≡ Some (found_of found) = search rules in
    let token : IsKept (lexeme_of found.lexeme) c.in-Ok.token = c.in-Ok.ensures.ok in
    let more : token_lexemes c.keep.new.tokens.items ≡ kept ls c.in-Ok.token = search rules in
    subst (λ ls. Reads t ls found.rest.now) (sym more) (kept_more t rest found.rest.now ls (lexeme_of found.lexeme) c.in-Ok.token c.lexemes.invariant read token)
