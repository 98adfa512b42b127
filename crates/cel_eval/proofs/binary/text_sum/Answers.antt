use Rattle.std.proofs.Common.{◌≡◌, ◌∙◌, ◌++◌, ap, chars, string_bytes, rules}
use Rattle.std.proofs.lemmas.Str.{chars-append, IsUtf8-string_bytes}
use Rattle.cel_eval.proofs.binary.text_sum.Goals as goal

pub returns : goal.returns
returns c =
    let text = c.in_ok-text.text in
    let b = string_bytes c.b.inside.text in
    let first : string_bytes text ≡ string_bytes c.a.inside.text = search rules in
    let whole : string_bytes c.push_str.new.self ≡ string_bytes text ++ b = search rules in
    ap chars whole ∙ chars-append (string_bytes text) b (IsUtf8-string_bytes text) ∙ ap (λ t. chars t ++ chars b) first
    ∙ ap (λ t. t ++ chars b) c.a.view_is ∙ ap (λ t. c.args.a.now ++ t) c.b.view_is
