use Rattle.std.proofs.Common.{◌∙◌, ap, chars, nat_eq, string_bytes}
use Rattle.std.proofs.lemmas.Str.{IsUtf8-string_bytes}
use Rattle.cel_value.proofs.TextLemmas.{by_characters}
use Rattle.cel_value.proofs.texts.is_same.Goals as goal
use lib.Pointwise.{pointwise}

pub returns : goal.returns
returns c =
    let b = c.b.inside.text in
    c.eq.ensures ∙ by_characters (string_bytes c.a.inside.text) (string_bytes b) (IsUtf8-string_bytes c.a.inside.text) (IsUtf8-string_bytes b)
    ∙ ap (λ t. pointwise nat_eq t (chars (string_bytes b))) c.a.view_is ∙ ap (pointwise nat_eq c.args.a.now) c.b.view_is
