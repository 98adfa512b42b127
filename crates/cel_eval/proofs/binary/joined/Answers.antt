use Rattle.std.proofs.Common.{◌≡◌, ◌++◌, ap, ◌∙◌, arith}
use Rattle.std.proofs.lemmas.Grind.{common_steps}
use Rattle.cel_value.specs.View.{values_of}
use Rattle.cel_eval.specs.Operators.{joined}
use Rattle.cel_eval.proofs.ListLemmas.{values_append}
use Rattle.cel_eval.proofs.binary.joined.Goals as goal

pub returns : goal.returns
returns c =
    let whole : c.loop-next.values.items ≡ c.a.inside.values.items ++ c.b.inside.values.items = grind (arith, common_steps) in
    ap values_of whole ∙ values_append c.a.inside.values.items c.b.inside.values.items
    ∙ ap (λ vs. joined vs (values_of c.b.inside.values.items)) c.a.view_is ∙ ap (joined c.args.a.now) c.b.view_is
