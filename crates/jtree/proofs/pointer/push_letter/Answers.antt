use Rattle.std.proofs.Common.{◌≢◌, ◌++◌, string_bytes, sym, ap, ◌∙◌, arith}
use Rattle.jtree.proofs.Escapes.{escaped_other}
use Rattle.jtree.proofs.pointer.push_letter.Goals as goal

pub returns-in_ok-push-in_default : goal.returns-in_ok-push-in_default
returns-in_ok-push-in_default c =
    let bytes = c.in_ok-push-in_default.ensures.bytes in
    let tilde : c.args.letter ≢ 126 = λ e. omega arith in
    let slash : c.args.letter ≢ 47 = λ e. omega arith in
    bytes ∙ ap (λ xs. string_bytes c.args.token.now ++ xs) (sym (escaped_other c.args.letter tilde slash))

pub returns-in_ok-push_str-in-47 : goal.returns-in_ok-push_str-in-47
unfolding lib.Utf8.encode
returns-in_ok-push_str-in-47 c = rw c.in-47.is c.in_ok-push_str-in-47.ensures.bytes
