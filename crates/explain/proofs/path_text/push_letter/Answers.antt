use Rattle.std.proofs.Common.{◌≢◌, ◌++◌, string_bytes, sym, ap, ◌∙◌, arith}
use Rattle.explain.proofs.LetterLemmas.{escaped_other}
use Rattle.explain.proofs.path_text.push_letter.Goals as goal

pub returns-in_ok-push-in_default : goal.returns-in_ok-push-in_default
returns-in_ok-push-in_default c =
    let tilde : c.args.letter ≢ 126 = λ e. omega arith in
    let slash : c.args.letter ≢ 47 = λ e. omega arith in
    let bracket : c.args.letter ≢ 91 = λ e. omega arith in
    let brace : c.args.letter ≢ 123 = λ e. omega arith in
    c.in_ok-push-in_default.ensures.bytes ∙ ap (λ xs. string_bytes c.args.text.now ++ xs) (sym (escaped_other c.args.letter tilde slash bracket brace))
