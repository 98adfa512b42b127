use Rattle.std.proofs.Common.{◌≡◌, ◌≢◌, length, sym, subst, arith}
use Rattle.std.proofs.lemmas.Bool.Decides.{nat_tests}
use Rattle.cel_read.specs.View.{token_lexemes}
use Rattle.cel_parse.specs.Grammar.{IsExpr}
use Rattle.cel_parse.proofs.Exact.{none_read, rest_read, whole_read}
use Rattle.cel_parse.proofs.parsing.parse.Goals as goal

pub returns-then-is_empty-clause-ok : goal.returns-then-is_empty-clause-ok
returns-then-is_empty-clause-ok c =
    let n : length c.in-Ok.rest.now ≡ 0 = grind (arith, nat_tests) in
    let whole = whole_read c.args.depth (token_lexemes c.args.tokens.now) c.in-Ok.expr c.in-Ok.rest.now c.in-Ok.ensures.gives n in
    subst (λ z. IsExpr c.args.depth (token_lexemes c.args.tokens.now) z) (sym c.inside.ensures) whole

pub returns-else-is_empty-clause-err : goal.returns-else-is_empty-clause-err
returns-else-is_empty-clause-err c =
    let n : length c.in-Ok.rest.now ≢ 0 = grind (arith, nat_tests) in
    λ place q e h. rest_read c.args.depth (token_lexemes c.args.tokens.now) c.in-Ok.expr e c.in-Ok.rest.now c.in-Ok.ensures.gives n h

pub returns-in-Err-Before-clause-err : goal.returns-in-Err-Before-clause-err
returns-in-Err-Before-clause-err c =
    λ place q e h. none_read c.args.depth (token_lexemes c.args.tokens.now) e (c.in-Err-Before.ensures.gives c.in-Err-Before.left c.in-Err-Before.field-0-is) h
